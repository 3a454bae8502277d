-- The moves between the places of heads and methods gain what changes the method.
use Rattle.std.proofs.Common.{◌≡◌, ℕ, ◌*◌, ◌≤◌, List, length, sym, ap, ◌∙◌, subst, arith}
use Rattle.cr_ahead.specs.Moves.{MovesParts}
use Rattle.cr_ahead.specs.ByMethod.{changing_gains}
use Rattle.cr_ahead.specs.Outlooks.{AreGround}
use Rattle.cr_ahead.proofs.ByMethod.{made_by_method, made_are, made_counted}
use Rattle.cr_ahead.proofs.by_method.table_by_method.Goals as goal

pub moves_of-requires-clause-leads : goal.moves_of-requires-clause-leads
moves_of-requires-clause-leads c =
    let few : length c.args.heads.now * c.places_each-each.result ≤ 4294967296 = omega (arith, c.requires.few, ap (λ (n : ℕ). length c.args.heads.now * n) c.places_each-each.ensures.is) in
    made_are c.args.problem.now c.args.heads.now c.args.next.now c.places_each-each.result c.stage.ensures.sound c.places_each-each.ensures.is c.requires.leads few
    c.deref.result.now c.deref-2.result.now (c.deref.ensures.value ∙ c.in_ok-spread.ensures) (c.deref-2.ensures.value ∙ c.in_ok-led.ensures)

pub table_by-requires : goal.table_by-requires
table_by-requires c =
    let few : length c.args.heads.now * c.places_each-each.result ≤ 4294967296 = omega (arith, c.requires.few, ap (λ (n : ℕ). length c.args.heads.now * n) c.places_each-each.ensures.is) in
    made_counted c.args.problem.now c.args.heads.now c.args.next.now c.places_each-each.result c.stage.ensures.sound c.places_each-each.ensures.is c.requires.leads few
    c.args.range c.in_ok-moves.moves c.deref.result.now c.in_ok-gains.gains.items (c.deref.ensures.value ∙ c.in_ok-spread.ensures)
    (c.in_ok-gains.ensures ∙ ap (λ (n : ℕ). changing_gains c.args.problem.now c.places_each-each.result (length c.args.heads.now * n)) c.from.ensures)
    c.in_ok-moves.ensures.ground

pub returns : goal.returns
returns c =
    let few : length c.args.heads.now * c.places_each-each.result ≤ 4294967296 = omega (arith, c.requires.few, ap (λ (n : ℕ). length c.args.heads.now * n) c.places_each-each.ensures.is) in
    made_by_method c.args.problem.now c.args.heads.now c.args.next.now c.places_each-each.result c.stage.ensures.sound c.places_each-each.ensures.is c.requires.leads few
    c.args.range c.in_ok-moves.moves c.deref.result.now c.deref-2.result.now c.in_ok-gains.gains.items c.in_ok-table.table
    (c.deref.ensures.value ∙ c.in_ok-spread.ensures) (c.deref-2.ensures.value ∙ c.in_ok-led.ensures)
    (c.in_ok-gains.ensures ∙ ap (λ (n : ℕ). changing_gains c.args.problem.now c.places_each-each.result (length c.args.heads.now * n)) c.from.ensures)
    c.in_ok-moves.ensures.ground c.in_ok-moves.ensures.next c.requires.one c.in_ok-table.ensures.table
