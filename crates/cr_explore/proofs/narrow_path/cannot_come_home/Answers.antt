use Rattle.std.proofs.Common.{◌≡◌, length, sym, ◌∙◌, arith}
use Rattle.cr_ahead.specs.Exact.{head_items}
use Rattle.cr_explore.proofs.LookingAhead.{none_told, items_of_outlook}
use Rattle.cr_explore.proofs.narrow_path.cannot_come_home.Goals as goal

pub returns : goal.returns
returns g c = λ yes.
    let p = c.args.walk.now.problem in
    let heads = c.args.numbers.now.heads in
    let node = c.args.walk.now.node in
    let none : length (head_items p) ≡ 0 = omega (arith, c.requires.none, items_of_outlook p heads c.args.outlook.now c.requires.outlook) in
    c.nothing_is_kept_below_a_node_that_cannot_come_by_exact_items.ensures.is p node c.requires.outlook.sound
    (c.heads_tell_what_changes_of_method_do_not.ensures.heads p node
    (sym (c.cannot_come_by_heads.ensures p heads node c.requires.outlook c.requires.place c.length.ensures.is (none_told p node none)) ∙ yes))
