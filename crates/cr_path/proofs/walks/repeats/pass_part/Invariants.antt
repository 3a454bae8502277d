use Rattle.std.proofs.Common.{ℕ, List, take}
use Rattle.cr_model.specs.Callings.{changes_of_all}
use Rattle.cr_path.specs.Marks.{TellOf}
use Rattle.cr_path.specs.Parts.{IsHead, HasHead, IsPassed}
use Rattle.cr_path.proofs.walks.repeats.pass_part.Given as goal

abbrev pub invariant-loop-step : goal.invariant-loop-step
invariant-loop-step g l = record {
  head : HasHead l.problem l.numbers l.base;
  passed : (row : List ℕ) (rows : List (List ℕ)) → IsHead l.problem l.numbers row l.from → TellOf l.problem l.numbers rows l.marks
      → IsPassed l.problem l.numbers rows row (changes_of_all l.problem (take l.step-index l.node)) l.base;
}
