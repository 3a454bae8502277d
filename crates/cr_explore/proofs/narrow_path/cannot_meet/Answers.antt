-- What the walk tells of the item is what the node has of it.
use Rattle.std.proofs.Common.{◌≡◌, ◌<◌, true, false, length, sym, ◌∙◌, arith, rules}
use Rattle.std.proofs.lemmas.Bool.{or_right}
use Rattle.std.proofs.lemmas.List.Folds.{list_any_at}
use Rattle.std.specs.List.{list_any}
use Rattle.cr_ahead.specs.Exact.{head_items}
use Rattle.cr_ahead.specs.Home.{each_way_home}
use Rattle.cr_ahead.specs.Items.{cannot_meet}
use Rattle.cr_ahead.specs.Outlooks.{no_item, head_item}
use Rattle.cr_explore.proofs.LookingAhead.{few_items, item_told, items_of_outlook}
use Rattle.cr_explore.proofs.narrow_path.cannot_meet.Goals as goal

pub item_number-requires : goal.item_number-requires
item_number-requires g c =
    let p = c.args.walk.now.problem in
    let inside : c.args.item < length (head_items p) = omega (arith, c.requires.item, items_of_outlook p c.args.numbers.now.heads c.args.outlook.now c.requires.outlook) in
    (search rules, omega (arith, inside, few_items p c.args.walk.now.node))

pub returns : goal.returns
returns g c = λ yes.
    let p = c.args.walk.now.problem in
    let heads = c.args.numbers.now.heads in
    let node = c.args.walk.now.node in
    let inside : c.args.item < length (head_items p) = omega (arith, c.requires.item, items_of_outlook p heads c.args.outlook.now c.requires.outlook) in
    let refused : cannot_meet p node (head_item p c.args.item) ≡ true =
    sym (c.cannot_meet.ensures p heads node c.requires.outlook c.requires.place c.requires.units (omega (arith, c.item_number.ensures, item_told p node c.args.item inside))) ∙ yes in
    c.nothing_is_kept_below_a_node_that_cannot_come_by_exact_items.ensures.is p node c.requires.outlook.sound
    (c.heads_tell_what_changes_of_method_do_not.ensures.heads p node
    (or_right (each_way_home p node (λ way. false)) (list_any (cannot_meet p node) (head_items p))
    (list_any_at (cannot_meet p node) (head_items p) c.args.item no_item inside refused)))
