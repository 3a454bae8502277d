use Rattle.std.proofs.Common.{◌≡◌, ℕ, List, length}
use Rattle.cr_model.specs.Problems.{ProblemParts}
use Rattle.cr_model.specs.Callings.{head_of}
use Rattle.cr_model.specs.Queries.{repeated}
use Rattle.cr_log.proofs.finding.power.Given as goal

abbrev pub invariant-loop-part : goal.invariant-loop-part
invariant-loop-part l = record {
  is : (p : ProblemParts) (node : List ℕ) → l.head ≡ head_of p node → l.row ≡ head_of p (repeated l._part node);
  same_stage : length l.row ≡ length l.head;
}
