use Rattle.std.proofs.Common.{◌≡◌, ◌<◌, List, ℕ, not, ◌∙◌, sym, ap, arith}
use Rattle.std.specs.List.{list_any}
use Rattle.cr_model.specs.Callings.{changes_of_all, rows_from, last_of}
use Rattle.cr_model.specs.Levels.{is_listed}
use Rattle.cr_model.specs.Queries.{repeated}
use Rattle.cr_path.proofs.Passing.{none_passed, part_on, part_stopped}
use Rattle.cr_path.proofs.walks.repeats.bring_new_rows.Goals as goal

pub loop-part-init : goal.loop-part-init
loop-part-init g c = record {
  head = c.requires.head;
  passed = λ from rows is tell. none_passed c.args.problem.now c.args.numbers.now rows from c.args.base is;
}

pub returns-in-None : goal.returns-in-None
returns-in-None g c from rows is tell =
    let p = c.args.problem.now in
    let more : c.loop-part._part < c.args.parts = omega (arith, c.loop-part-test.true) in
    let passed = c.loop-part.invariant.passed from rows is tell in
    let row : List ℕ = last_of from (rows_from from (changes_of_all p (repeated c.loop-part._part c.args.node.now))) in
    sym (ap not (part_stopped p c.args.numbers.now rows from c.loop-part.base c.args.node.now c.loop-part._part passed c.args.parts more
    (c.in-None.ensures.passes row rows passed.is tell)))

pub loop-part-preserved : goal.loop-part-preserved
loop-part-preserved g c = record {
  head = c.in-Some.ensures.head;
  passed = λ from rows is tell.
      let p = c.args.problem.now in
      let passed = c.loop-part.invariant.passed from rows is tell in
      let row : List ℕ = last_of from (rows_from from (changes_of_all p (repeated c.loop-part._part c.args.node.now))) in
      part_on p c.args.numbers.now rows from c.loop-part.base c.args.node.now c.loop-part._part passed c.in-Some.last
      (c.in-Some.ensures.passes row rows passed.is tell);
}

pub returns : goal.returns
returns g c from rows is tell =
    let all : c.loop-part._part ≡ c.args.parts = omega (arith, c.loop-part-test.false) in
    sym (ap (λ n. not (list_any (is_listed rows) (rows_from from (changes_of_all c.args.problem.now (repeated n c.args.node.now))))) (sym all)
    ∙ ap not (c.loop-part.invariant.passed from rows is tell).new)
