use Rattle.std.proofs.Common.{◌≡◌, ◌≤◌, ◌<◌, ◌+◌, ◌∙◌, ◌||◌, ap, ap₂, sym, subst, cond, length, nat_eq, get_or, arith}
use Rattle.std.specs.List.{list_any}
use Rattle.std.proofs.lemmas.List.{take_all, length-map, get_or-map}
use Rattle.cr_query.specs.declared.gauges.Gauge.{Gauge}
use Rattle.cr_query.specs.Gauges.{at_number, raised, is_out}
use Rattle.cr_query.specs.Tallies.{at_front, gauges_at}
use Rattle.cr_query.proofs.Stacks.{at_item, any_more}
use Rattle.cr_query.proofs.StepSets.{none_has}
use Rattle.cr_query.proofs.tallies.out_steps.Goals as goal

pub loop-index-init : goal.loop-index-init
loop-index-init c step of low are = none_has step

pub steps_out-requires-clause-few : goal.steps_out-requires-clause-few
steps_out-requires-clause-few c =
    subst (λ (gauge : Gauge). gauge.number ≤ 1024) (sym c.at.ensures)
    (at_item (λ (gauge : Gauge). gauge.number ≤ 1024) (at_front c.args.front) c.args.tallies.now c.loop-index.index c.index-tallies-index.result (omega arith) c.index-tallies-index.is c.requires.few)

pub loop-index-preserved : goal.loop-index-preserved
loop-index-preserved c step of low are =
    let xs = c.args.tallies.now in
    let i = c.loop-index.index in
    let x = c.index-tallies-index.result in
    let gauge : Gauge = at_front c.args.front x in
    let inside : i < length xs = omega arith in
    let mine : nat_eq of (get_or (gauges_at c.args.front xs) i gauge).of ≡ nat_eq of gauge.of =
    ap (λ (g : Gauge). nat_eq of g.of) (get_or-map (at_front c.args.front) xs i x gauge inside ∙ ap (at_front c.args.front) (sym c.index-tallies-index.is)) in
    c.joined-steps.ensures step
    ∙ ap₂ (λ a b. a || b) (c.loop-index.invariant step of low are)
    (c.steps_out.ensures step low ∙ ap₂ (λ (g : Gauge) b. is_out c.args.more (at_number (g.number + cond b 1 0) g)) c.at.ensures
    (are i gauge (omega (arith, inside, length-map xs (at_front c.args.front))) ∙ mine))
    ∙ sym (any_more (λ g. is_out c.args.more (raised of g)) (at_front c.args.front) xs i x inside c.index-tallies-index.is)

pub returns : goal.returns
returns c step of low are =
    c.loop-index.invariant step of low are
    ∙ ap (λ l. list_any (λ g. is_out c.args.more (raised of g)) (gauges_at c.args.front l)) (take_all c.loop-index.index c.args.tallies.now (omega arith))
