-- The powers one after another, until one is rounds.
use Rattle.std.proofs.Common.{◌≡◌, ◌+◌, sym, ap, ◌∙◌, arith}
use Rattle.cr_row.specs.Rows.{rounds, product}
use Rattle.cr_model.specs.Dead.{parts_of}
use Rattle.cr_ahead.specs.Home.{is_round_after}
use Rattle.cr_ahead.proofs.PartEnds.{power_more, power_none, ends_early, ends_late, none_more, tested}
use Rattle.cr_ahead.proofs.ends.is_end.Goals as goal

pub loop-passed-init : goal.loop-passed-init
loop-passed-init c = record {
  is = c.rounds-power.ensures.is ∙ ap rounds c.stage.ensures.is ∙ power_none c.args.problem.now.stage c.args.head.now;
  staged = c.rounds-power.ensures.same_stage ∙ c.stage.ensures.is;
  none = λ fewer some few. absurd (omega (arith, some, few));
}

pub returns-then-is_rounds : goal.returns-then-is_rounds
returns-then-is_rounds c =
    let p = c.args.problem.now in
    let next = c.times-power.ensures.is ∙ ap (product c.args.head.now) c.loop-passed.invariant.is ∙ power_more p.stage c.args.head.now c.loop-passed.passed in
    let round = tested p c.args.head.now (c.loop-passed.passed + 1) c.times-power.result c.is_rounds.result next
    (c.times-power.ensures.same_stage ∙ c.requires) c.is_rounds.ensures in
    ends_early p c.args.head.now (c.loop-passed.passed + 1) (omega arith) (omega (arith, c.loop-passed-test.true, c.parts-passed-end.ensures.is, c.loop-passed.auto.passed-end))
    (sym round ∙ c.if-is_rounds.true)

pub loop-passed-preserved : goal.loop-passed-preserved
loop-passed-preserved c =
    let p = c.args.problem.now in
    let next = c.times-power.ensures.is ∙ ap (product c.args.head.now) c.loop-passed.invariant.is ∙ power_more p.stage c.args.head.now c.loop-passed.passed in
    let staged = c.times-power.ensures.same_stage ∙ c.requires in
    let round = tested p c.args.head.now (c.loop-passed.passed + 1) c.times-power.result c.is_rounds.result next staged c.is_rounds.ensures in
    record {
      is = next;
      staged = staged;
      none = none_more p c.args.head.now c.loop-passed.passed c.loop-passed.invariant.none (sym round ∙ c.if-is_rounds.false);
    }

pub returns : goal.returns
returns c =
    let p = c.args.problem.now in
    let all : c.loop-passed.passed + 1 ≡ parts_of p = omega (arith, c.loop-passed-test.false, c.parts-passed-end.ensures.is, c.parts-passed-end.ensures.some, c.loop-passed.auto.passed-end) in
    let next = c.times.ensures.is ∙ ap (product c.args.head.now) c.loop-passed.invariant.is ∙ power_more p.stage c.args.head.now c.loop-passed.passed in
    let round = tested p c.args.head.now (c.loop-passed.passed + 1) c.times.result c.is_rounds-2.result next
    (c.times.ensures.same_stage ∙ c.requires) c.is_rounds-2.ensures in
    round ∙ ap (is_round_after p c.args.head.now) all
    ∙ ends_late p c.args.head.now (λ fewer some less. c.loop-passed.invariant.none fewer some (omega (arith, less, all)))
