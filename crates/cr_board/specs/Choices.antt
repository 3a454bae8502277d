-- What a board answers to a worker that asks for a job.
use Rattle.std.specs.Prelude.{ℕ, ◌-◌, ◌<◌, Bool, false, cond, not, ◌||◌, nat_eq, nat_lt, List, [], ◌++◌, length, get_or, find, Option, Some, None, is_some, option_map, ⊤}
use Rattle.std.specs.List.{range_with_len}
use Rattle.cr_board.specs.Jobs.{JobParts, TicketParts}
use Rattle.cr_board.specs.Boards.{BoardParts, lane_at, held_at, promised}
use Rattle.cr_board.specs.ReplayStates.{granted}
use Rattle.cr_board.specs.declared.held.Held.{Held}
use Rattle.cr_board.specs.declared.refusal.Refusal.{Refusal}
use Rattle.cr_board.specs.declared.refusal.Refusal.TheVariants as refusal
use Rattle.cr_board.specs.declared.place.Place.{Place}
use Rattle.cr_board.specs.declared.taken.Taken.{Taken}
use Rattle.cr_board.specs.declared.taken.Taken.TheVariants as taken
use Rattle.cr_board.specs.declared.taken.Claimed.{Claimed}
use Rattle.cr_board.specs.declared.taken.Claimed.TheVariants as claimed

-- the worker is none of them, or it resigned
abbrev pub is_stranger : BoardParts → ℕ → Bool
is_stranger b worker = not (nat_lt worker b.opening.workers) || get_or b.resigned worker false

-- there is a budget, and all of it is spent or granted
abbrev pub is_spent : Option ℕ → ℕ → Bool
is_spent None used = false
is_spent (Some budget) used = nat_eq budget used

-- why a worker gets no job, if it holds this
abbrev pub refusal_to : BoardParts → Option Held → Option Refusal
refusal_to b (Some held) = Some (refusal.Holding held.job.number)
refusal_to b None = cond (is_spent b.opening.budget (promised b)) (Some refusal.Spent) None

-- the first reason why a worker gets no job, whatever stands in the lanes
abbrev pub refusal_of : BoardParts → ℕ → Option Refusal
refusal_of b worker = cond (is_stranger b worker) (Some refusal.Stranger) (refusal_to b (held_at b.held worker))

-- a lane has a job
abbrev pub is_busy : List (List JobParts) → ℕ → Bool
is_busy lanes lane = nat_lt 0 (length (lane_at lanes lane))

-- a worker holds a job
abbrev pub is_holding : List (Option Held) → ℕ → Bool
is_holding held worker = is_some (held_at held worker)

-- the first number below the end, from a number on, that passes
abbrev pub first_from : (ℕ → Bool) → ℕ → ℕ → Option ℕ
first_from test from end = find test (range_with_len from (end - from))

-- the lanes from a worker's own upwards, and round
abbrev pub round : ℕ → ℕ → List ℕ
round worker workers = range_with_len worker (workers - worker) ++ range_with_len 0 worker

-- of its own lane the last place, and of another's the first
abbrev pub end_of : BoardParts → ℕ → ℕ → Place
end_of b worker lane = record { lane = lane; place = cond (nat_eq lane worker) (length (lane_at b.lanes lane) - 1) 0 }

-- the last job of a worker's own lane, else the first of the next lane that has one
abbrev pub next_place : BoardParts → ℕ → Option Place
next_place b worker = option_map (end_of b worker) (find (is_busy b.lanes) (round worker b.opening.workers))

-- the first place of a lane where a job has this number
abbrev pub is_number : List JobParts → ℕ → ℕ → Bool
is_number lane number place = nat_eq (get_or lane place (record { number = 0; nodes = [] })).number number

abbrev pub place_in : List JobParts → ℕ → Option ℕ
place_in lane number = first_from (is_number lane number) 0 (length lane)

abbrev pub has_number : List (List JobParts) → ℕ → ℕ → Bool
has_number lanes number lane = is_some (place_in (lane_at lanes lane) number)

abbrev pub place_at : List (List JobParts) → ℕ → Option ℕ → Option Place
place_at lanes number None = None
place_at lanes number (Some lane) = option_map (λ place. record { lane = lane; place = place }) (place_in (lane_at lanes lane) number)

-- where the job of a number stands
abbrev pub claim_place : BoardParts → ℕ → Option Place
claim_place b number = place_at b.lanes number (first_from (has_number b.lanes number) 0 b.opening.workers)

-- a job stands at a place
pub record Stands (lanes : List (List JobParts)) (at : Place) : Type 0 where
  pub lane : at.lane < length lanes
  pub place : at.place < length (lane_at lanes at.lane)

abbrev pub job_at : List (List JobParts) → Place → JobParts
job_at lanes place = get_or (lane_at lanes place.lane) place.place (record { number = 0; nodes = [] })

-- the grant of the next take
abbrev pub grant_now : BoardParts → ℕ
grant_now b = granted b.opening.budget (promised b)

abbrev pub ticket_at : BoardParts → Place → TicketParts
ticket_at b place = record { number = (job_at b.lanes place).number; grant = grant_now b; nodes = (job_at b.lanes place).nodes }

-- no lane has a job: the least worker that holds one, if any
abbrev pub waits_for : Option ℕ → Taken
waits_for (Some worker) = taken.Wait worker
waits_for None = taken.Empty

abbrev pub answer_by : BoardParts → Option Refusal → Option Place → Taken
answer_by b (Some refusal.Stranger) place = taken.Stranger
answer_by b (Some (refusal.Holding number)) place = taken.Holding number
answer_by b (Some refusal.Spent) place = taken.Spent
answer_by b None (Some place) = taken.Job (ticket_at b place)
answer_by b None None = waits_for (first_from (is_holding b.held) 0 b.opening.workers)

-- what a worker that asks for its next job is answered
abbrev pub next_answer : BoardParts → ℕ → Taken
next_answer b worker = answer_by b (refusal_of b worker) (next_place b worker)

abbrev pub claimed_by : BoardParts → Option Refusal → Option Place → Claimed
claimed_by b (Some refusal.Stranger) place = claimed.Stranger
claimed_by b (Some (refusal.Holding number)) place = claimed.Holding number
claimed_by b (Some refusal.Spent) place = claimed.Spent
claimed_by b None (Some place) = claimed.Job (ticket_at b place)
claimed_by b None None = claimed.Stale

-- what a worker that asks for the job of a number is answered
abbrev pub claim_answer : BoardParts → ℕ → ℕ → Claimed
claim_answer b worker number = claimed_by b (refusal_of b worker) (claim_place b number)

-- what holds after an answer that is no job
abbrev pub UnlessTaken : Taken → Type 0 → Type 0
UnlessTaken taken.Stranger P = P
UnlessTaken (taken.Holding number) P = P
UnlessTaken taken.Spent P = P
UnlessTaken (taken.Job ticket) P = ⊤
UnlessTaken (taken.Wait worker) P = P
UnlessTaken taken.Empty P = P

abbrev pub UnlessClaimed : Claimed → Type 0 → Type 0
UnlessClaimed claimed.Stranger P = P
UnlessClaimed (claimed.Holding number) P = P
UnlessClaimed claimed.Spent P = P
UnlessClaimed claimed.Stale P = P
UnlessClaimed (claimed.Job ticket) P = ⊤

-- what holds of the job of an answer
abbrev pub IfJob : Taken → (TicketParts → Type 0) → Type 0
IfJob taken.Stranger P = ⊤
IfJob (taken.Holding number) P = ⊤
IfJob taken.Spent P = ⊤
IfJob (taken.Job ticket) P = P ticket
IfJob (taken.Wait worker) P = ⊤
IfJob taken.Empty P = ⊤

abbrev pub IfClaimed : Claimed → (TicketParts → Type 0) → Type 0
IfClaimed claimed.Stranger P = ⊤
IfClaimed (claimed.Holding number) P = ⊤
IfClaimed claimed.Spent P = ⊤
IfClaimed claimed.Stale P = ⊤
IfClaimed (claimed.Job ticket) P = P ticket

-- how many entries the journal gets by an answer
abbrev pub entries_taken : Taken → ℕ
entries_taken taken.Stranger = 0
entries_taken (taken.Holding number) = 0
entries_taken taken.Spent = 0
entries_taken (taken.Job ticket) = 1
entries_taken (taken.Wait worker) = 0
entries_taken taken.Empty = 0

abbrev pub entries_claimed : Claimed → ℕ
entries_claimed claimed.Stranger = 0
entries_claimed (claimed.Holding number) = 0
entries_claimed claimed.Spent = 0
entries_claimed claimed.Stale = 0
entries_claimed (claimed.Job ticket) = 1
