-- The room that jobs which are held need to go back.
use Rattle.std.specs.Prelude.{◌≡◌, ℕ, ◌+◌, ◌^◌, ◌<◌, ◌≤◌, cond, List, get_or, map, sum_by, Option, is_some, true, vec_len, vec_capacity}
use Rattle.std.specs.Global.{Vec}
use Rattle.cr_board.specs.Jobs.{JobParts, OpeningParts}
use Rattle.cr_board.specs.Boards.{BoardParts}
use Rattle.cr_board.specs.Partitions.{IsKept}
use Rattle.cr_board.specs.Choices.{is_holding}
use Rattle.cr_board.specs.declared.held.Held.{Held}
use Rattle.cr_board.specs.declared.state.State.{State}
use Rattle.cr_board.specs.declared.opened.Handing.{Handing}
use Rattle.cr_board.specs.Moves.{halves, opened_jobs}
use Rattle.cr_node.specs.Work.{Work}

-- the jobs of each lane
abbrev pub jobs_on : List (Vec JobParts) → List (List JobParts)
jobs_on lanes = map (λ lane. lane.items) lanes

-- the nodes of each of some jobs
abbrev pub nodes_on : List (Vec (List ℕ)) → List (List (List ℕ))
nodes_on jobs = map (λ job. job.items) jobs

-- a lane has room for so many jobs more
abbrev pub HasRoom : List (Vec JobParts) → ℕ → ℕ → Type 0
HasRoom lanes lane more = (d : Vec JobParts) → vec_len (get_or lanes lane d) + more ≤ vec_capacity (get_or lanes lane d)

-- how many workers hold a job
abbrev pub holding : List (Option Held) → ℕ
holding held = sum_by (λ h. cond (is_some h) 1 0) held

-- the parts of a board
abbrev pub parts_of : OpeningParts → State → BoardParts
parts_of o s = record {
  opening = o;
  lanes = jobs_on s.lanes.items;
  held = s.held.items;
  resigned = s.resigned.items;
  found = s.found.items;
  spent = s.spent;
  next = s.next;
  journal = s.journal.items;
}

-- who holds a job has room for it in its lane, and the journal has room for an entry of each of them
pub record HasRooms (s : State) : Type 0 where
  pub lanes : (worker : ℕ) → is_holding s.held.items worker ≡ true → HasRoom s.lanes.items worker 1
  pub journal : vec_len s.journal + holding s.held.items ≤ vec_capacity s.journal

-- what a board keeps: its facts, and room
pub record IsBoard (o : OpeningParts) (s : State) : Type 0 where
  pub facts : IsKept (parts_of o s)
  pub rooms : HasRooms s

-- room for what a hand-in brings: touches, two jobs, their numbers, and turns
pub record HasHandRoom (s : State) (worker touches : ℕ) : Type 0 where
  pub found : vec_len s.found + touches ≤ vec_capacity s.found
  pub lane : HasRoom s.lanes.items worker 2
  pub next : s.next + 2 < 2 ^ 64
  pub spent : s.spent + 2 ^ 64 ≤ 2 ^ 128

-- what is handed in of finished work
pub record IsHanding (handing : Handing) (work : Work) : Type 0 where
  pub used : handing.used ≡ work.used
  pub found : handing.found.items ≡ work.found
  pub opened : opened_jobs handing.opened ≡ halves work.rest
