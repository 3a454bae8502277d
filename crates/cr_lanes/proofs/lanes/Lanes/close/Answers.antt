use Rattle.std.proofs.Common.{◌≡◌, ℕ, List, length, All, ap, sym, subst, ◌∙◌, arith}
use Rattle.std.proofs.lemmas.List.{length-map}
use Rattle.crossbeam_deque.specs.Handles.{stealer_deque}
use Rattle.cr_lanes.specs.Ends.{EndParts, LaneName}
use Rattle.cr_lanes.proofs.Closing.{Closing, one_back, its_ends, all_idle, starts_counting, idle_one, count_one, sum_fits, closed}
use Rattle.cr_lanes.proofs.lanes.Lanes.close.Goals as goal

pub give_back-requires : goal.give_back-requires
give_back-requires c = its_ends _ _ _ _ _ _ _ c.in-Some.ensures.steps.0 c.loop-thief.invariant

pub loop-thief-preserved : goal.loop-thief-preserved
loop-thief-preserved c =
    let old = c.loop-thief.ends.ok.0 in
    let new = c.give_back.new.ends.ok.0 in
    let same = c.give_back.ensures.len in
    one_back _ _ _ _ _ _ _ _ c.in-Some.ensures.steps.0 (omega arith) c.give_back.ensures.same (λ k d low. c.give_back.ensures.each k d (omega arith)) c.loop-thief.invariant

pub loop-end-init : goal.loop-end-init
loop-end-init c =
    let none = c.in-None.ensures.steps.0 in
    let rest = c.loop-thief.thief-iterator.rest.ok.0 in
    let same = c.into_iter-end-iterator.ensures.into_iter_gives.0 in
    let lent = subst (λ (n : ℕ). All (λ e. e.lent ≡ n) c.args.ends.items) c.args.thieves.ok.0 c.requires.all in
    starts_counting _ _ (λ i. c.into_iter-end-iterator.result.rest.items)
    (subst (All (λ e. e.lent ≡ 0)) (sym same) (all_idle _ _ _ _ c.loop-thief.thief-iterator.rest.items (omega arith) lent c.loop-thief.invariant))

pub left-left-requires : goal.left-left-requires
left-left-requires c = idle_one _ _ _ _ _ _ c.in-Some-end.ensures.steps.0 c.loop-end.invariant

pub overflow_add-left : goal.overflow_add-left
overflow_add-left c =
    let lanes : length c.args.ends.items ≡ length c.self.inside.fronts.items =
    sym (length-map c.args.ends.items (λ (e : EndParts). e.name)) ∙ ap (λ (l : List LaneName). length l) (c.requires.ends ∙ sym c.self.view_is) ∙ length-map c.self.inside.fronts.items stealer_deque in
    let few = c.self.invariant in
    let same = c.loop-thief.invariant.len in
    let ends : length c.into_iter-end-iterator.result.rest.items ≡ length c.loop-thief.ends.items = ap (λ (l : List EndParts). length l) c.into_iter-end-iterator.ensures.into_iter_gives.0 in
    let small = sum_fits _ _ _ _ _ _ c.in-Some-end.ensures.steps.0 (omega arith) c.loop-end.invariant in
    let one = c.left-left.ensures.few in
    omega arith

pub loop-end-preserved : goal.loop-end-preserved
loop-end-preserved c = count_one _ _ _ _ _ _ _ c.in-Some-end.ensures.steps.0 c.left-left.ensures.few c.left-left.ensures.rises c.left-left.ensures.left c.loop-end.invariant

pub returns : goal.returns
returns c =
    let none = c.in-None.ensures.steps.0 in
    let rest = c.loop-thief.thief-iterator.rest.ok.0 in
    let no_more = c.in-None-end.ensures.steps.0 in
    let more = c.loop-end.end-iterator.rest.ok.0 in
    closed _ c.into_iter-end-iterator.result.rest.items _ _ c.loop-thief.thief-iterator.rest.items _ c.loop-end.end-iterator.rest.items _ (omega arith) (omega arith) c.requires.none
    (subst (λ (l : List EndParts). Closing c.args.ends.items l c.args.thieves.items c.loop-thief.yielded c.loop-thief.thief-iterator.rest.items) (sym c.into_iter-end-iterator.ensures.into_iter_gives.0) c.loop-thief.invariant)
    c.loop-end.invariant
