use Rattle.std.proofs.Common.{◌≡◌, ℕ, ◌+◌, ◌*◌, ◌<◌, ◌∙◌, [], length, get_or, sym, ap, arith}
use Rattle.std.proofs.lemmas.List.{get_or-map}
use Rattle.cr_rowset.specs.Stacks.{StackParts}
use Rattle.cr_false.specs.Sets.{FalseParts}
use Rattle.cr_false.proofs.Tables.{clashes}
use Rattle.cr_false.proofs.table.FalseTable.clash.Goals as goal

pub returns : goal.returns
returns c = λ table is.
    let kept = c.self.invariant in
    let sets = c.self.inside.sets.items in
    let pair = 24 * c.from.result + c.from-2.result in
    let same : pair ≡ 24 * c.args.a + c.args.b = omega (arith, c.from.ensures, c.from-2.ensures) in
    let steps : length c.self.inside.twice.items ≡ length c.args.self.now.twice = ap (λ (t : FalseParts). length t.twice) c.self.view_is in
    let low : c.args.b < 24 = omega (arith, c.requires.b, kept.few, steps) in
    let inside : pair < length sets = omega (arith, same, c.requires.a, low, kept.counted, steps) in
    let at = ap (λ (set : StackParts). set.rows) c.index.ensures
    ∙ sym (get_or-map (λ (set : StackParts). set.rows) sets pair c.index.result.now [] inside)
    ∙ ap (λ (t : FalseParts). get_or t.sets pair []) c.self.view_is
    ∙ ap (λ (k : ℕ). get_or c.args.self.now.sets k []) same in
    clashes table c.args.self.now c.args.a c.args.b c.args.between.now c.index.result.now.rows c.has.result is c.requires.a c.requires.b low at c.has.ensures
