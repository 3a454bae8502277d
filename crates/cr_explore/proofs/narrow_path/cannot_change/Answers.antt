use Rattle.std.proofs.Common.{◌≡◌, ◌+◌, ◌<◌, ℕ, length, Option, Some, None, IfSome, sym, ap, ◌∙◌, subst, arith, rules}
use Rattle.std.proofs.lemmas.Bool.{or_right}
use Rattle.std.specs.List.{list_any}
use Rattle.cr_model.specs.Problems.{ProblemParts}
use Rattle.cr_model.specs.Callings.{HasSteps}
use Rattle.cr_ahead.specs.Exact.{exact_com, cannot_come_by_heads}
use Rattle.cr_ahead.specs.Items.{com_items, cannot_meet}
use Rattle.cr_ahead.specs.LeadMoves.{IsPlaceOf, last_method}
use Rattle.cr_explore.proofs.narrow_path.cannot_change.Goals as goal

pub returns : goal.returns
returns g c = λ yes.
    let p = c.args.walk.now.problem in
    let heads = c.args.numbers.now.heads in
    let node = c.args.walk.now.node in
    let place : IsPlaceOf p heads c.in-Some.place node = record { there = c.in-Some.ensures.0; head = c.in-Some.ensures.1 } in
    let last : c.last_method-last.result ≡ last_method p node =
    c.last_method-last.ensures.is ∙ ap (λ (q : ProblemParts). last_method q c.steps.result.now) c.requires.problem ∙ ap (last_method p) c.steps.ensures.is in
    c.nothing_is_kept_below_a_node_that_cannot_come_by_exact_items.ensures.is p node c.requires.outlook.sound
    (c.heads_tell_what_changes_of_method_do_not.ensures.whole p node
    ∙ or_right (cannot_come_by_heads p node) (list_any (cannot_meet p node) (com_items p (exact_com p)))
    (sym (c.cannot_change.ensures p heads node c.requires.outlook place c.length.ensures.is last c.requires.changed) ∙ yes))
