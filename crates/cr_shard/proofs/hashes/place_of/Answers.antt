use Rattle.std.proofs.Common.{Err, inl, inr, ap, get_or, arith}
use Rattle.std.proofs.lemmas.Bool.{cases_lt, cases_eq}
use Rattle.std.proofs.lemmas.List.Sorted.{searched}
use Rattle.cr_shard.proofs.hashes.place_of.Goals as goal

pub returns-in-Err-clause-none : goal.returns-in-Err-clause-none
returns-in-Err-clause-none c = λ k inside same.
    let found = searched c.args.hashes.now c.args.hash (Err c.in-Err.field-0) c.in-Err.ensures.position
    (λ i j low within. elim (cases_eq i j) [
      | inl equal ↦ omega (arith, ap (λ n. get_or c.args.hashes.now n 0) equal)
      | inr other ↦ omega (arith, c.requires i j (omega (arith, low, other)) within)
    ]) in
    elim (cases_lt k c.in-Err.field-0) [
      | inl less ↦ absurd (omega (arith, same, found.1 k less))
      | inr past ↦ absurd (omega (arith, same, found.2 k (omega (arith, past)) inside))
    ]
