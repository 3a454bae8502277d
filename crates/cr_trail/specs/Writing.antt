-- A trail that is being written.
use Rattle.std.specs.Prelude.{◌≡◌, ℕ, ◌+◌, ◌≤◌, ◌⊎◌, ◌↔◌, List, [], ◌∷◌, ◌++◌, Result, Ok, Err}
use Rattle.std.specs.List.Sorted.{IsPermutation}
use Rattle.cr_io.specs.Causes.{Rose}
use Rattle.cr_io.specs.Grown.{GrowsByFront}
use Rattle.cr_model.specs.Problems.{ProblemParts}
use Rattle.cr_model.specs.Nodes.{Covers}
use Rattle.cr_model.specs.Checkpoints.{CanGoOn, checkpoint_text, nodes_of_jobs}
use Rattle.cr_store.specs.Blocks.{block, blocks, IsBody}
use Rattle.cr_trail.specs.Runs.{size_of_jobs}
use Rattle.cr_trail.specs.Trails.{IsTrailFrom}
use Rattle.cr_trail.specs.declared.trail.TrailEnd.{TrailEnd}
use Rattle.cr_trail.specs.declared.trail.TrailEnd.TheVariants as ended
use Rattle.cr_trail.specs.declared.trail.Unwritten.{Unwritten}
use Rattle.cr_trail.specs.declared.trail.Unwritten.TheVariants as unwritten

-- how a trail ended
abbrev pub end_of : Result (Unit {0}) Unwritten → TrailEnd
end_of (Ok done) = ended.Done
end_of (Err unwritten.WriteFault) = ended.WriteFault
end_of (Err unwritten.NoMemory) = ended.NoMemory

-- a body was written as a block, or a front of the block and a write failed, or nothing
abbrev pub WritesBlock : {K : Type 0} → (K → K → List ℕ → Type 0) → (K → ℕ) → K → K → List ℕ → Result (Unit {0}) Unwritten → Type 0
WritesBlock grew faults old new body (Ok done) = IsBody body × grew old new (block body) × (faults new ≡ faults old)
WritesBlock grew faults old new body (Err unwritten.WriteFault) =
    IsBody body × GrowsByFront grew old new (block body) × Rose (faults old) (faults new)
WritesBlock grew faults old new body (Err unwritten.NoMemory) = new ≡ old

-- a search went on by so many turns, or until no node was left before
pub record WentBy (p : ProblemParts) (found : List (List ℕ)) (jobs : List (List (List ℕ))) (every : ℕ)
    (now : List (List ℕ)) (left : List (List (List ℕ))) : Type 0 where
  pub goes_on : CanGoOn p now left
  pub covers : (calling : List ℕ) → Covers p now (nodes_of_jobs left) calling ↔ Covers p found (nodes_of_jobs jobs) calling
  pub used : ℕ
  pub size : size_of_jobs p left + used ≡ size_of_jobs p jobs
  pub keeps : used ≤ every
  pub ends : (left ≡ []) ⊎ (every ≡ used)

-- the text is the checkpoint of what is found, once it is put in order, and left
pub record IsReady (p : ProblemParts) (bytes : List ℕ) (found : List (List ℕ)) (left : List (List (List ℕ))) (text : List ℕ)
    (now : List (List ℕ)) : Type 0 where
  pub same : IsPermutation found now
  pub is : text ≡ checkpoint_text p bytes now left

-- so it is after so many turns more
pub record IsReadyAfter (p : ProblemParts) (bytes : List ℕ) (before : List (List ℕ)) (jobs : List (List (List ℕ))) (every : ℕ)
    (found : List (List ℕ)) (left : List (List (List ℕ))) (text : List ℕ) : Type 0 where
  pub now : List (List ℕ)
  pub ready : IsReady p bytes found left text now
  pub went : WentBy p before jobs every now left

-- the trail so far, and what is found and left, which cover what it began with: with their checkpoint behind it, it is a
-- trail again
pub record IsSoFar (p : ProblemParts) (bytes : List ℕ) (found : List (List ℕ)) (jobs : List (List (List ℕ))) (every : ℕ)
    (trail : List (List ℕ)) (now : List (List ℕ)) (left : List (List (List ℕ))) : Type 0 where
  pub goes_on : CanGoOn p now left
  pub covers : (calling : List ℕ) → Covers p found (nodes_of_jobs jobs) calling ↔ Covers p now (nodes_of_jobs left) calling
  pub so_far : (trail ≡ []) ⊎ IsTrailFrom p bytes found jobs every trail
  pub next : IsBody (checkpoint_text p bytes now left) → IsTrailFrom p bytes found jobs every (trail ++ checkpoint_text p bytes now left ∷ [])

-- the trail so far was written, and no write failed
pub record WroteSoFar {K : Type 0} (grew : K → K → List ℕ → Type 0) (faults : K → ℕ) (old new : K)
    (p : ProblemParts) (bytes : List ℕ) (found : List (List ℕ)) (jobs : List (List (List ℕ))) (every : ℕ)
    (now : List (List ℕ)) (left : List (List (List ℕ))) : Type 0 where
  pub trail : List (List ℕ)
  pub under_way : IsSoFar p bytes found jobs every trail now left
  pub grown : grew old new (blocks trail)
  pub calm : faults new ≡ faults old
