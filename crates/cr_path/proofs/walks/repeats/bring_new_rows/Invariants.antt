use Rattle.std.proofs.Common.{ℕ, List}
use Rattle.cr_model.specs.Callings.{changes_of_all}
use Rattle.cr_model.specs.Queries.{repeated}
use Rattle.cr_path.specs.Marks.{TellOf}
use Rattle.cr_path.specs.Parts.{IsHead, HasHead, IsPassed}
use Rattle.cr_path.proofs.walks.repeats.bring_new_rows.Given as goal

abbrev pub invariant-loop-part : goal.invariant-loop-part
invariant-loop-part g l = record {
  head : HasHead l.problem l.numbers l.base;
  passed : (from : List ℕ) (rows : List (List ℕ)) → IsHead l.problem l.numbers from l.fn.base → TellOf l.problem l.numbers rows l.marks
      → IsPassed l.problem l.numbers rows from (changes_of_all l.problem (repeated l._part l.node)) l.base;
}
