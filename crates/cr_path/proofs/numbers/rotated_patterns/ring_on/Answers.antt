use Rattle.std.proofs.Common.{◌<◌, ℕ, List, ◌++◌, length, get_or, take, refl, sym, subst, arith, append-nil}
use Rattle.std.proofs.lemmas.List.{take_all}
use Rattle.cr_path.specs.Best.{IsWay}
use Rattle.cr_path.proofs.Places.{next_start}
use Rattle.cr_path.proofs.Turned.{way_on, way_more}
use Rattle.cr_path.proofs.numbers.rotated_patterns.ring_on.Goals as goal

pub loop-step-init : goal.loop-step-init
loop-step-init c = record {
  base = c.requires.base;
  number = omega arith;
  way = λ word is. subst (λ (w : List ℕ). IsWay c.args.problem.now c.args.numbers.now c.args.pattern.now.cells w c.args.from) (sym (append-nil word)) is;
}

pub place-place-requires-clause-step : goal.place-place-requires-clause-step
place-place-requires-clause-step c =
    let inside : c.loop-step.step-index < length c.args.steps.now = omega (arith, c.loop-step-test.true) in
    let known = c.requires.steps c.loop-step.step-index 0 inside in
    omega (arith, known, c.requires.numbered.counted)

pub loop-step-preserved : goal.loop-step-preserved
loop-step-preserved c =
    let p = c.args.problem.now in
    let t = c.args.numbers.now in
    let cells = c.args.pattern.now.cells in
    let steps : List ℕ = c.args.steps.now in
    let index : ℕ = c.loop-step.step-index in
    let step : ℕ = get_or steps index 0 in
    let inside : index < length steps = omega (arith, c.loop-step-test.true) in
    let known = c.requires.steps index 0 inside in
    let head = c.loop-step.invariant.base in
    record {
      base = next_start p t c.requires.numbered head.row c.loop-step.way.base step c.place-place.result head.is known c.place-place.ensures.is c.lead_at.result c.lead_at.ensures;
      number = omega (arith, c.loop-step.invariant.number, c.at.ensures.few);
      way = λ word is.
          way_more p t c.requires.numbered cells word steps index step _ inside refl
          (way_on p t c.requires.numbered cells (word ++ take index steps) c.loop-step.way step c.place-place.result c.lead_at.result c.args.fitting.now c.at.result
          c.requires.fitting known c.place-place.ensures.is c.lead_at.ensures c.at.ensures.is
          (c.loop-step.invariant.way word is));
    }

pub returns-clause-way : goal.returns-clause-way
returns-clause-way c = λ word is.
    subst (λ (steps : List ℕ). IsWay c.args.problem.now c.args.numbers.now c.args.pattern.now.cells (word ++ steps) c.loop-step.way)
    (take_all c.loop-step.step-index c.args.steps.now (omega (arith, c.loop-step-test.false))) (c.loop-step.invariant.way word is)
