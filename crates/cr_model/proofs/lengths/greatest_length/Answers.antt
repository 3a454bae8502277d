use Rattle.std.proofs.Common.{◌≡◌, ◌≤◌, ap, ◌∙◌, arith, nat_abs, min, get_or}
use Rattle.std.proofs.lemmas.Int.{to_z-of_z}
use Rattle.cr_model.specs.Queries.{extent}
use Rattle.cr_model.proofs.Measured.{table, extent_is}
use Rattle.cr_model.proofs.lengths.greatest_length.Goals as goal

pub returns-clause-is : goal.returns-clause-is
returns-clause-is c =
    let size : c.unsigned_abs.result ≡ nat_abs c.args.max = grind (arith, to_z-of_z) in
    let few : c.from.result ≤ 16 = omega arith in
    let at : get_or table c.from.result 0 ≡ extent c.args.stage = extent_is c.from.result few ∙ ap extent (c.from.ensures ∙ c.number.ensures.is) in
    c.min.ensures ∙ ap (λ n. min n (get_or table c.from.result 0)) size ∙ ap (min (nat_abs c.args.max)) at
