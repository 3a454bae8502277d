use Rattle.std.proofs.Common.{◌<◌, ℕ, List, length, get_or, take, refl, sym, subst, arith}
use Rattle.std.specs.Prelude.{All}
use Rattle.std.proofs.lemmas.List.{take_all}
use Rattle.cr_model.specs.Callings.{changes_of_all, rows_from, last_of}
use Rattle.cr_path.specs.Parts.{IsPassed}
use Rattle.cr_path.proofs.Marking.{within_in}
use Rattle.cr_path.proofs.Passing.{none_passed, next_head, lead_passed, lead_stopped, node_on, node_stopped}
use Rattle.cr_path.proofs.Places.{some_head}
use Rattle.cr_path.proofs.walks.repeats.pass_part.Goals as goal

pub loop-step-init : goal.loop-step-init
loop-step-init g c = record {
  head = c.requires.from;
  passed = λ row rows is tell. none_passed c.args.problem.now c.args.numbers.now rows row c.args.from is;
}

pub place-place-requires-clause-base : goal.place-place-requires-clause-base
place-place-requires-clause-base g c =
    let head = c.loop-step.invariant.head in
    some_head c.args.numbers.now head.row c.loop-step.base head.is.from

pub place-place-requires-clause-step : goal.place-place-requires-clause-step
place-place-requires-clause-step g c =
    let inside : c.loop-step.step-index < length c.args.node.now = omega (arith, c.loop-step-test.true) in
    let known = c.requires.steps c.loop-step.step-index 0 inside in
    omega (arith, known, c.requires.numbered.counted)

pub some_marked-requires : goal.some_marked-requires
some_marked-requires g c =
    let t = c.args.numbers.now in
    subst (λ n. All (λ number. number < n) c.numbers_at.result.now) (sym c.requires.counted)
    (subst (All (λ number. number < t.rows)) (sym c.numbers_at.ensures) (within_in c.args.problem.now t c.requires.numbered c.place-place.result))

pub returns-then-some_marked-clause-passes : goal.returns-then-some_marked-clause-passes
returns-then-some_marked-clause-passes g c = λ row rows is tell.
    let p = c.args.problem.now in
    let t = c.args.numbers.now in
    let index : ℕ = c.loop-step.step-index in
    let node : List ℕ = c.args.node.now in
    let step : ℕ = get_or node index 0 in
    let inside : index < length node = omega (arith, c.loop-step-test.true) in
    let passed = c.loop-step.invariant.passed row rows is tell in
    let here : List ℕ = last_of row (rows_from row (changes_of_all p (take index node))) in
    node_stopped p t rows row c.loop-step.base node index step inside refl passed
    (lead_stopped p t c.requires.numbered here c.loop-step.base step c.place-place.result passed.is (c.requires.steps index 0 inside) c.place-place.ensures.is
    rows c.args.marks.now tell c.numbers_at.result.now c.numbers_at.ensures c.some_marked.result c.some_marked.ensures c.if-some_marked.true)

pub loop-step-preserved : goal.loop-step-preserved
loop-step-preserved g c =
    let p = c.args.problem.now in
    let t = c.args.numbers.now in
    let index : ℕ = c.loop-step.step-index in
    let node : List ℕ = c.args.node.now in
    let step : ℕ = get_or node index 0 in
    let inside : index < length node = omega (arith, c.loop-step-test.true) in
    let known = c.requires.steps index 0 inside in
    let head = c.loop-step.invariant.head in
    record {
      head = next_head p t c.requires.numbered head.row c.loop-step.base step c.place-place.result head.is known c.place-place.ensures.is c.lead_at-base.result c.lead_at-base.ensures;
      passed = λ row rows is tell.
          let passed = c.loop-step.invariant.passed row rows is tell in
          let here : List ℕ = last_of row (rows_from row (changes_of_all p (take index node))) in
          node_on p t rows row c.loop-step.base node index step inside refl passed c.lead_at-base.result.next
          (lead_passed p t c.requires.numbered here c.loop-step.base step c.place-place.result passed.is known c.place-place.ensures.is
          rows c.args.marks.now tell c.numbers_at.result.now c.numbers_at.ensures c.some_marked.result c.some_marked.ensures c.if-some_marked.false c.lead_at-base.result c.lead_at-base.ensures);
    }

pub returns-clause-passes : goal.returns-clause-passes
returns-clause-passes g c = λ row rows is tell.
    let p = c.args.problem.now in
    subst (λ (word : List ℕ). IsPassed p c.args.numbers.now rows row (changes_of_all p word) c.loop-step.base)
    (take_all c.loop-step.step-index c.args.node.now (omega (arith, c.loop-step-test.false)))
    (c.loop-step.invariant.passed row rows is tell)
