-- A trail of what an input says is the trail of the input.
use Rattle.std.proofs.Common.{ℕ, List, inl, inr, refl, ap}
use Rattle.cr_model.specs.Problems.{ProblemParts}
use Rattle.cr_model.specs.Checkpoints.{CheckFile, IsCheckpoint, nodes_of_jobs}
use Rattle.cr_model.specs.Inputs.{Input, SameCover}
use Rattle.cr_trail.specs.Trails.{IsCoverOf, IsTrailFrom, Says, IsTrail}

-- what an input says, with the nodes of its jobs
pub input_says : (input bytes : List ℕ) (p : ProblemParts) (found : List (List ℕ)) (jobs : List (List (List ℕ))) → Says input bytes p found jobs
    → Input input bytes p found (nodes_of_jobs jobs)
input_says input bytes p found jobs (inl is) = inl (record { begins = is.0; jobs = jobs; file = is.1; nodes_are = refl })
input_says input bytes p found jobs (inr is) =
    inr (record { begins = is.0; bytes_are = is.1; file = is.2; found_are = is.3; nodes_are = ap nodes_of_jobs is.4 })

-- what the law on checkpoints says
abbrev pub Begin : Type 0
Begin = (text bytes : List ℕ) (p : ProblemParts) (found : List (List ℕ)) (jobs : List (List (List ℕ))) → CheckFile text bytes p found jobs → IsCheckpoint text

-- a checkpoint that covers what the input covers
covers_same : Begin → (input bytes : List ℕ) (p : ProblemParts) (found nodes : List (List ℕ)) (text : List ℕ) → Input input bytes p found nodes
    → IsCoverOf p bytes found nodes text → SameCover input text
covers_same begin input bytes p found nodes text is cover = record {
  bytes = bytes;
  p = p;
  found = found;
  nodes = nodes;
  other_found = cover.now;
  other_nodes = nodes_of_jobs cover.left;
  input = is;
  other_input = inl (record { begins = begin text bytes p cover.now cover.left cover.file; jobs = cover.left; file = cover.file; nodes_are = refl });
  covers = cover.covers;
}

pub is_trail : Begin → (input bytes : List ℕ) (p : ProblemParts) (found : List (List ℕ)) (jobs : List (List (List ℕ))) (every : ℕ) (trail : List (List ℕ))
    → Says input bytes p found jobs → IsTrailFrom p bytes found jobs every trail → IsTrail input every trail
is_trail begin input bytes p found jobs every trail says from = record {
  bytes = bytes;
  p = p;
  found = found;
  jobs = jobs;
  says = says;
  some = from.some;
  first = from.first;
  bodies = from.bodies;
  checkpoints = λ k d within. let cover = from.covers k d within in begin _ bytes p cover.now cover.left cover.file;
  same = λ k d within. covers_same begin input bytes p found (nodes_of_jobs jobs) _ (input_says input bytes p found jobs says) (from.covers k d within);
  steps = from.steps;
}
