use Rattle.std.proofs.Common.{ℕ, ◌+◌, ◌<◌, length, sym, subst}
use Rattle.cr_path.specs.Numbers.{NumberParts, StartsHead}
use Rattle.cr_path.proofs.Places.{place_within}
use Rattle.cr_path.proofs.numbers.table.NumberTable.place.Goals as goal

pub returns-clause-within : goal.returns-clause-within
returns-clause-within c =
    let e = c.self.inside in
    let from = subst (λ (t : NumberParts). StartsHead t c.args.base) (sym c.self.view_is) c.requires.base in
    let known = subst (λ (t : NumberParts). c.args.step < t.steps) (sym c.self.view_is) c.requires.step in
    let low : c.args.base + c.args.step < length e.records.items = place_within _ from.row c.args.base from.is c.args.step (length e.records.items) c.self.invariant.records known in
    subst (λ (n : ℕ). c.args.base + n < length c.args.self.now.records) (sym c.from.ensures)
    (subst (λ (t : NumberParts). c.args.base + c.args.step < length t.records) c.self.view_is low)
