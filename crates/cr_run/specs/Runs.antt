-- Boards that were run to their end.
use Rattle.std.specs.Prelude.{◌≡◌, ℕ, zero, suc, ◌+◌, ◌<◌, ◌≤◌, ◌⊎◌, ◌↔◌, List, [], ◌∷◌, ◌++◌, length, flat_map, All, Some}
use Rattle.cr_model.specs.Touches.{Kept}
use Rattle.cr_model.specs.Nodes.{Covers, nodes_above, times_found}
use Rattle.cr_model.specs.Sizes.{most_rows, size_of_all}
use Rattle.cr_board.specs.Jobs.{OpeningParts, opening_nodes}
use Rattle.cr_board.specs.Boards.{BoardParts, held_jobs, jobs_of, nodes_of}
use Rattle.cr_board.specs.declared.event.Event.{Event}
use Rattle.cr_board.specs.declared.event.Event.TheVariants.{Next, Work}

-- no job is left, or all turns of the budget are spent
abbrev pub HasEnded : BoardParts → Type 0
HasEnded b = (jobs_of b ≡ []) ⊎ (b.opening.budget ≡ Some b.spent)

-- a board of this opening that was run: nobody holds a job, and it has ended
pub record IsRun (o : OpeningParts) (b : BoardParts) : Type 0 where
  pub opening : b.opening ≡ o
  pub idle : flat_map held_jobs b.held ≡ []
  pub ended : HasEnded b

-- worker 0 takes its next job, explores it and hands it in, so many times
abbrev pub events_alone : ℕ → List Event
events_alone zero = []
events_alone (suc jobs) = events_alone jobs ++ Next 0 ∷ Work 0 ∷ []

-- the size of what an opening leaves to be searched
abbrev pub opening_size : OpeningParts → ℕ
opening_size o = size_of_all o.problem most_rows (opening_nodes o)

-- nothing is left: each kept touch was found as often as it had been found before or stands below the opening's nodes,
-- which is once at most, and nothing else was found
pub record IsFinished (o : OpeningParts) (b : BoardParts) : Type 0 where
  pub jobs : jobs_of b ≡ []
  pub spent : b.spent ≡ opening_size o
  pub kept : All (Kept o.problem) b.found
  pub each : (calling : List ℕ) → Kept o.problem calling
      → times_found b.found calling ≡ times_found o.found calling + nodes_above o.problem (opening_nodes o) calling
  pub once : (calling : List ℕ) → Kept o.problem calling → times_found b.found calling ≤ 1

-- some nodes are left: with what was found they cover what the opening covered, and each turn took one off the size
pub record IsStopped (o : OpeningParts) (budget : ℕ) (b : BoardParts) : Type 0 where
  pub some : 0 < length (nodes_of b)
  pub spent : b.spent ≡ budget
  pub size : size_of_all o.problem most_rows (nodes_of b) + budget ≡ opening_size o
  pub covers : (calling : List ℕ) → Covers o.problem b.found (nodes_of b) calling ↔ Covers o.problem o.found (opening_nodes o) calling
