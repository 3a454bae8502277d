use Rattle.std.proofs.Common.{◌≡◌, ℕ, List, length}
use Rattle.cr_model.specs.Problems.{ProblemParts}
use Rattle.cr_model.specs.Callings.{head_of}
use Rattle.cr_model.specs.Queries.{repeated}
use Rattle.cr_audit.proofs.touches.touch_head.Given as goal

-- the head of so many parts
abbrev pub invariant-loop-more : goal.invariant-loop-more
invariant-loop-more l = record {
  is : (p : ProblemParts) (node : List ℕ) → l.part ≡ head_of p node → l.head ≡ head_of p (repeated l._more node);
  long : length l.head ≡ length l.part;
}
