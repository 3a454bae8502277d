-- A board as the record of its parts.
use Rattle.std.specs.Prelude.{ℕ, ◌+◌, Bool, false, List, [], ◌∷◌, ◌++◌, length, get_or, set, replicate, map, flat_map, sum_by, Option, Some, None}
use Rattle.cr_board.specs.Jobs.{JobParts, OpeningParts, numbered}
use Rattle.cr_board.specs.declared.held.Held.{Held}
use Rattle.cr_board.specs.declared.entry.Entry.{Entry}

-- for each worker a lane, the job that it holds if any, and whether it resigned
pub record BoardParts : Type 0 where
  pub opening : OpeningParts
  pub lanes : List (List JobParts)
  pub held : List (Option Held)
  pub resigned : List Bool
  pub found : List (List ℕ)
  pub spent : ℕ
  pub next : ℕ
  pub journal : List Entry

-- a worker's lane
abbrev pub lane_at : List (List JobParts) → ℕ → List JobParts
lane_at lanes worker = get_or lanes worker []

-- what a worker holds
abbrev pub held_at : List (Option Held) → ℕ → Option Held
held_at held worker = get_or held worker None

-- the job of what is held
abbrev pub held_jobs : Option Held → List JobParts
held_jobs None = []
held_jobs (Some held) = held.job ∷ []

-- its grant
abbrev pub held_grant : Option Held → ℕ
held_grant None = 0
held_grant (Some held) = held.grant

-- the jobs of all lanes, and those that are held
abbrev pub jobs_in : List (List JobParts) → List (Option Held) → List JobParts
jobs_in lanes held = flat_map (λ lane. lane) lanes ++ flat_map held_jobs held

-- the nodes of some jobs
abbrev pub nodes_in : List JobParts → List (List ℕ)
nodes_in jobs = flat_map (λ job. job.nodes) jobs

abbrev pub jobs_of : BoardParts → List JobParts
jobs_of b = jobs_in b.lanes b.held

abbrev pub nodes_of : BoardParts → List (List ℕ)
nodes_of b = nodes_in (jobs_of b)

-- the nodes of each job of a board: those of the lanes, and then those that are held
abbrev pub board_jobs : BoardParts → List (List (List ℕ))
board_jobs b = map (λ job. job.nodes) (jobs_of b)

-- the turns that are spent or granted
abbrev pub promised : BoardParts → ℕ
promised b = b.spent + sum_by held_grant b.held

-- the board that an opening gives
abbrev pub opened : OpeningParts → BoardParts
opened o = record {
  opening = o;
  lanes = set (replicate o.workers []) 0 (numbered 0 o.jobs);
  held = replicate o.workers None;
  resigned = replicate o.workers false;
  found = o.found;
  spent = 0;
  next = length o.jobs;
  journal = [];
}
