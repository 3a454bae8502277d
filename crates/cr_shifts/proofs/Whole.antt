-- A search that leaves no node.
use Rattle.std.proofs.Common.{◌≡◌, ℕ, List, [], None, inl, refl, arith}
use Rattle.cr_model.specs.Problems.{ProblemParts}
use Rattle.cr_model.specs.Checkpoints.{CanGoOn, nodes_of_jobs}
use Rattle.cr_model.specs.Nodes.{Splits}
use Rattle.cr_model.specs.Sizes.{most_rows, size_of_all}
use Rattle.cr_board.specs.Partitions.{IsPartition}
use Rattle.cr_shifts.specs.Shifts.{GoesOn}
use Rattle.cr_trail.specs.Runs.{RunsOn}

-- no size is left
abbrev pub NoSize : Type 0
NoSize = (p : ProblemParts) (most : ℕ) → size_of_all p most [] ≡ 0

-- what splits nodes and leaves none is a partition of them
whole : NoSize → (p : ProblemParts) (nodes more : List (List ℕ)) → Splits p nodes more [] → IsPartition p [] nodes more [] (size_of_all p most_rows nodes)
whole none p nodes more split = record {
  each = λ calling kept. omega (arith, split.each calling kept);
  kept = λ k d inside. (split.found_kept k d inside).0;
  independent = split.independent;
  valid = λ k d inside. absurd (omega (arith, inside));
  size = omega (arith, none p most_rows);
}

-- so a search that went so far has gone on to its end
pub whole_run : NoSize → (p : ProblemParts) (found : List (List ℕ)) (jobs : List (List (List ℕ))) (now : List (List ℕ)) → CanGoOn p [] jobs
    → GoesOn p (nodes_of_jobs jobs) found now [] → RunsOn p found jobs None now []
whole_run none p found jobs now on went = record {
  more = went.more;
  behind = went.behind;
  run = record {
    used = size_of_all p most_rows (nodes_of_jobs jobs);
    way = record { began = on; nodes = whole none p (nodes_of_jobs jobs) went.more went.splits; filled = λ k d inside. absurd (omega (arith, inside)) };
    keeps = tt;
    ends = inl refl;
  };
}
