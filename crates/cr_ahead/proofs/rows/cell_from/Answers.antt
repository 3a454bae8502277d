-- The ways that begin with one step more.
use Rattle.std.proofs.Common.{◌+◌, ◌-◌, ◌≤◌, sym, subst, arith, rules}
use Rattle.cr_ahead.specs.Moves.{steps_of}
use Rattle.cr_ahead.specs.Cells.{told_by}
use Rattle.cr_ahead.specs.Rows.{IsFew, BeginsBelow, IsAnswerOf}
use Rattle.cr_ahead.proofs.Steps.{first_begun, one_more_begun, all_begun, few_joined}
use Rattle.cr_ahead.proofs.rows.cell_from.Goals as goal

pub loop-step-preserved : goal.loop-step-preserved
loop-step-preserved c =
    let kept = c.loop-step.invariant in
    let by = c.cell_by.ensures in
    let told = sym c.joined-cell.ensures.told in
    record {
      cell = c.joined-cell.ensures.cell;
      few = subst (IsFew c.args.left) told (few_joined c.args.left (told_by c.loop-step.cell) (told_by c.cell_by.result) kept.few by.few);
      is = subst (IsAnswerOf c.args.moves.now c.args.least c.args.greatest c.args.place (c.args.greatest - c.args.left) (BeginsBelow (c.loop-step.step + 1))) told
          (one_more_begun c.args.moves.now c.args.least c.args.greatest c.args.place (c.args.greatest - c.args.left) c.loop-step.step (told_by c.loop-step.cell) (told_by c.cell_by.result)
          kept.is (by.is c.args.least c.args.greatest c.requires.left c.requires.right));
    }

pub returns-clause-is : goal.returns-clause-is
returns-clause-is c =
    let all : steps_of c.args.moves.now ≤ c.loop-step.step = omega (arith, c.loop-step-test.false, c.steps-step-end.ensures) in
    all_begun c.args.moves.now c.args.least c.args.greatest c.args.place (c.args.greatest - c.args.left) c.loop-step.step (told_by c.loop-step.cell) all c.loop-step.invariant.is

pub loop-step-init : goal.loop-step-init
loop-step-init c = record {
  cell = c.stay-cell.ensures.cell;
  few = search rules;
  is = first_begun c.args.moves.now c.args.least c.args.greatest c.args.left c.args.place (told_by c.stay-cell.result) c.requires.left c.stay-cell.ensures.is;
}
