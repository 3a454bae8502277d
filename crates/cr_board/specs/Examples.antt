-- A problem on three bells, an opening of two jobs, and what happens on its board.
use Rattle.std.specs.Prelude.{ℕ, List, [], ◌∷◌, map, Option}
use Rattle.cr_row.specs.Rows.{Places}
use Rattle.cr_model.specs.Problems.{LeadParts, ProblemParts}
use Rattle.cr_model.specs.Examples.{asks}
use Rattle.cr_board.specs.Jobs.{OpeningParts}
use Rattle.cr_board.specs.declared.entry.Entry.{Entry}
use Rattle.cr_board.specs.declared.entry.Entry.TheVariants.{Take, Hand, Back}

-- a change on three bells, by the places made
abbrev pub on_three : List ℕ → Places
on_three made = record { stage = 3; made = made }

-- the whole plain hunt on three bells, from one place or from the other: a touch in one lead
abbrev pub hunt : ℕ → ℕ → ℕ → LeadParts
hunt mark first second = record {
  step = record { method = 0; mark = mark };
  changes = map on_three ((first ∷ []) ∷ (second ∷ []) ∷ (first ∷ []) ∷ (second ∷ []) ∷ (first ∷ []) ∷ (second ∷ []) ∷ []);
}

-- step 0 hunts from the front, and step 1 from behind
abbrev pub hunts : ProblemParts
hunts = record { stage = 3; letters = 65 ∷ []; leads = hunt 112 3 1 ∷ hunt 98 1 3 ∷ []; query = asks 1 6 1 }

-- nothing is found, step 1 is job 0 and step 0 is job 1, and there are three workers
abbrev pub two_jobs : Option ℕ → OpeningParts
two_jobs budget = record { problem = hunts; found = []; jobs = ((1 ∷ []) ∷ []) ∷ ((0 ∷ []) ∷ []) ∷ []; budget = budget; workers = 3 }

-- two takes, of which the second steals; one goes back and is taken again; both are handed in, the second with a rest
abbrev pub script : List Entry
script =
    Take 0 0 1 4096
    ∷ Take 1 0 0 4096
    ∷ Back 1 0
    ∷ Take 2 1 0 4096
    ∷ Hand 0 1 10 4 0
    ∷ Hand 2 0 7 1 2
    ∷ []
