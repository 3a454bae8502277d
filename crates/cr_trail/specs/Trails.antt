-- Trails: checkpoints of one search, one after another.
use Rattle.std.specs.Prelude.{◌≡◌, ℕ, ◌+◌, ◌-◌, ◌<◌, ◌≤◌, ◌⊎◌, ◌↔◌, List, [], ◌∷◌, length, get_or, All}
use Rattle.cr_io.specs.Causes.{Rose}
use Rattle.cr_io.specs.Grown.{GrowsByFront}
use Rattle.cr_model.specs.Problems.{ProblemParts}
use Rattle.cr_model.specs.Nodes.{Covers}
use Rattle.cr_model.specs.ProblemFiles.{ProblemFile}
use Rattle.cr_model.specs.Checkpoints.{CheckFile, IsCheckpoint, checkpoint_text, nodes_of_jobs}
use Rattle.cr_model.specs.Inputs.{SameCover}
use Rattle.cr_store.specs.Blocks.{blocks, IsBody}
use Rattle.cr_trail.specs.Runs.{size_of_jobs}
use Rattle.cr_trail.specs.declared.trail.TrailEnd.{TrailEnd}
use Rattle.cr_trail.specs.declared.trail.TrailEnd.TheVariants as ended

-- from one checkpoint to the next: the first has a node. Where the second has one, so many turns made the size of the
-- nodes less; where it has none, at most so many were left
pub record IsStep (p : ProblemParts) (bytes : List ℕ) (every : ℕ) (before after : List ℕ) : Type 0 where
  pub found : List (List ℕ)
  pub jobs : List (List (List ℕ))
  pub now : List (List ℕ)
  pub left : List (List (List ℕ))
  pub from : CheckFile before bytes p found jobs
  pub to : CheckFile after bytes p now left
  pub some : 0 < length (nodes_of_jobs jobs)
  pub falls : 0 < length (nodes_of_jobs left) → size_of_jobs p left + every ≡ size_of_jobs p jobs
  pub ends : nodes_of_jobs left ≡ [] → size_of_jobs p jobs ≤ every

-- the text is a checkpoint of this problem that covers what found touches and nodes cover
pub record IsCoverOf (p : ProblemParts) (bytes : List ℕ) (found nodes : List (List ℕ)) (text : List ℕ) : Type 0 where
  pub now : List (List ℕ)
  pub left : List (List (List ℕ))
  pub file : CheckFile text bytes p now left
  pub covers : (calling : List ℕ) → Covers p found nodes calling ↔ Covers p now (nodes_of_jobs left) calling

-- the trail of a search that goes on from found touches and jobs, with a checkpoint after each so many turns
pub record IsTrailFrom (p : ProblemParts) (bytes : List ℕ) (found : List (List ℕ)) (jobs : List (List (List ℕ))) (every : ℕ)
    (trail : List (List ℕ)) : Type 0 where
  pub some : 0 < length trail
  pub first : get_or trail 0 [] ≡ checkpoint_text p bytes found jobs
  pub bodies : All IsBody trail
  pub covers : All (IsCoverOf p bytes found (nodes_of_jobs jobs)) trail
  pub steps : (i : ℕ) → i + 1 < length trail → IsStep p bytes every (get_or trail i []) (get_or trail (i + 1) [])

-- the last element of a trail has no node
pub record LeavesNone (p : ProblemParts) (bytes : List ℕ) (trail : List (List ℕ)) : Type 0 where
  pub found : List (List ℕ)
  pub file : CheckFile (get_or trail (length trail - 1) []) bytes p found []

-- what an input says: a checkpoint says what stands in it; a problem's file that nothing is found, and that the root is
-- the one node of the one job
abbrev pub Says : List ℕ → List ℕ → ProblemParts → List (List ℕ) → List (List (List ℕ)) → Type 0
Says input bytes p found jobs = (IsCheckpoint input × CheckFile input bytes p found jobs)
    ⊎ ((IsCheckpoint input → ⊥) × (bytes ≡ input) × ProblemFile input p × (found ≡ []) × (jobs ≡ ([] ∷ []) ∷ []))

-- the trail of an input, with a checkpoint after each so many turns. Every checkpoint has 1 to 2^63 - 1 bytes and covers
-- what the input covers, and the first is what the input says
pub record IsTrail (input : List ℕ) (every : ℕ) (trail : List (List ℕ)) : Type 0 where
  pub bytes : List ℕ
  pub p : ProblemParts
  pub found : List (List ℕ)
  pub jobs : List (List (List ℕ))
  pub says : Says input bytes p found jobs
  pub some : 0 < length trail
  pub first : get_or trail 0 [] ≡ checkpoint_text p bytes found jobs
  pub bodies : All IsBody trail
  pub checkpoints : All IsCheckpoint trail
  pub same : All (SameCover input) trail
  pub steps : (i : ℕ) → i + 1 < length trail → IsStep p bytes every (get_or trail i []) (get_or trail (i + 1) [])

-- how writing a trail ends.
-- Done: the sink grew by the blocks of the trail, whose last element has no node, and no write failed.
-- WriteFault: it grew by a front of the blocks of the trail so far, and its count of faults rose.
-- NoMemory: it grew by the blocks of the trail so far, or by nothing, and no write failed
abbrev pub EndsTrail : {K : Type 0} → (K → K → List ℕ → Type 0) → (K → ℕ) → K → K
    → ProblemParts → List ℕ → List (List ℕ) → List (List (List ℕ)) → ℕ → TrailEnd → Type 0
EndsTrail grew faults old new p bytes found jobs every ended.Done =
    (trail : List (List ℕ)) × IsTrailFrom p bytes found jobs every trail × LeavesNone p bytes trail
    × grew old new (blocks trail) × (faults new ≡ faults old)
EndsTrail grew faults old new p bytes found jobs every ended.WriteFault =
    (trail : List (List ℕ)) × IsTrailFrom p bytes found jobs every trail
    × GrowsByFront grew old new (blocks trail) × Rose (faults old) (faults new)
EndsTrail grew faults old new p bytes found jobs every ended.NoMemory =
    (trail : List (List ℕ)) × ((trail ≡ []) ⊎ IsTrailFrom p bytes found jobs every trail)
    × grew old new (blocks trail) × (faults new ≡ faults old)
