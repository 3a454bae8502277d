-- What a journal says: lanes of job numbers, what each worker holds, the next number, and the turns spent.
use Rattle.std.specs.Prelude.{◌≡◌, ℕ, ◌+◌, ◌-◌, ◌<◌, ◌≤◌, min, cond, nat_eq, List, [], ◌∷◌, ◌++◌, length, get_or, map, set, replicate, sum_by, count_by, Contains, Option, Some, None}
use Rattle.std.specs.List.{range_with_len}
use Rattle.cr_board.specs.Jobs.{JobParts, OpeningParts}
use Rattle.cr_board.specs.Boards.{BoardParts}
use Rattle.cr_board.specs.declared.held.Held.{Held}
use Rattle.cr_board.specs.declared.entry.Entry.{Entry}
use Rattle.cr_board.specs.declared.entry.Entry.TheVariants.{Take, Hand, Back}

-- the number and the grant of a job that is held
pub record Hold : Type 0 where
  pub number : ℕ
  pub grant : ℕ

pub record ReplayState : Type 0 where
  pub lanes : List (List ℕ)
  pub held : List (Option Hold)
  pub next : ℕ
  pub spent : ℕ

abbrev pub numbers_at : ReplayState → ℕ → List ℕ
numbers_at h lane = get_or h.lanes lane []

abbrev pub hold_at : ReplayState → ℕ → Option Hold
hold_at h worker = get_or h.held worker None

abbrev pub grant_of : Option Hold → ℕ
grant_of None = 0
grant_of (Some hold) = hold.grant

-- what may be granted where so many turns are spent or granted: 4,096, or what the budget leaves if that is less
abbrev pub granted : Option ℕ → ℕ → ℕ
granted None used = 4096
granted (Some budget) used = min 4096 (budget - used)

-- numbers without the first that is this one
abbrev pub without : ℕ → List ℕ → List ℕ
without number [] = []
without number (x ∷ xs) = cond (nat_eq x number) xs (x ∷ without number xs)

-- a take: the worker is one of them and holds nothing, the job stands in the lane, and the grant is what may be granted
pub record CanTake (o : OpeningParts) (h : ReplayState) (who lane job granting : ℕ) : Type 0 where
  pub worker : who < o.workers
  pub idle : hold_at h who ≡ None
  pub stands : Contains (numbers_at h lane) job
  pub grant : granting ≡ granted o.budget (h.spent + sum_by grant_of h.held)
  pub some : 0 < granting

-- a worker holds this job, with a grant of at least so many turns
abbrev pub HoldsFor : ReplayState → ℕ → ℕ → ℕ → Type 0
HoldsFor h worker job turns = (grant : ℕ) × (hold_at h worker ≡ Some (record { number = job; grant = grant })) × (turns ≤ grant)

-- an entry is allowed where it stands
abbrev pub IsAllowed : OpeningParts → ReplayState → Entry → Type 0
IsAllowed o h (Take worker lane job grant) = CanTake o h worker lane job grant
IsAllowed o h (Hand worker job used touches opened) = HoldsFor h worker job used × (opened ≤ 2)
IsAllowed o h (Back worker job) = HoldsFor h worker job 0

-- the replay state after an entry
abbrev pub after_entry : ReplayState → Entry → ReplayState
after_entry h (Take worker lane job grant) = record {
  lanes = set h.lanes lane (without job (numbers_at h lane));
  held = set h.held worker (Some (record { number = job; grant = grant }));
  next = h.next;
  spent = h.spent;
}
after_entry h (Hand worker job used touches opened) = record {
  lanes = set h.lanes worker (numbers_at h worker ++ range_with_len h.next opened);
  held = set h.held worker None;
  next = h.next + opened;
  spent = h.spent + used;
}
after_entry h (Back worker job) = record {
  lanes = set h.lanes worker (numbers_at h worker ++ job ∷ []);
  held = set h.held worker None;
  next = h.next;
  spent = h.spent;
}

-- the replay state before the first entry
abbrev pub start : OpeningParts → ReplayState
start o = record {
  lanes = set (replicate o.workers []) 0 (range_with_len 0 (length o.jobs));
  held = replicate o.workers None;
  next = length o.jobs;
  spent = 0;
}

-- the replay state after some entries
abbrev pub after_entries : ReplayState → List Entry → ReplayState
after_entries h [] = h
after_entries h (entry ∷ entries) = after_entries (after_entry h entry) entries

-- each entry is allowed where it stands
abbrev pub AreAllowed : OpeningParts → ReplayState → List Entry → Type 0
AreAllowed o h [] = Unit {0}
AreAllowed o h (entry ∷ entries) = IsAllowed o h entry × AreAllowed o (after_entry h entry) entries

-- a journal replayed from an opening
abbrev pub replay : OpeningParts → List Entry → ReplayState
replay o journal = after_entries (start o) journal

-- what a board's lanes and held jobs are in a replay state
abbrev pub hold_of : Option Held → Option Hold
hold_of None = None
hold_of (Some held) = Some (record { number = held.job.number; grant = held.grant })

abbrev pub numbers_of : List JobParts → List ℕ
numbers_of jobs = map (λ job. job.number) jobs

abbrev pub replay_state_of : BoardParts → ReplayState
replay_state_of b = record { lanes = map numbers_of b.lanes; held = map hold_of b.held; next = b.next; spent = b.spent }

-- the touches that an entry hands in
abbrev pub touches_of : Entry → ℕ
touches_of (Take worker lane job grant) = 0
touches_of (Hand worker job used touches opened) = touches
touches_of (Back worker job) = 0

-- the journal tells the board: each entry is allowed, lanes, held jobs, next number and turns are its replay, and as
-- many touches were found since the opening as its entries say
pub record IsReplayed (b : BoardParts) : Type 0 where
  pub allowed : AreAllowed b.opening (start b.opening) b.journal
  pub replay_state : replay_state_of b ≡ replay b.opening b.journal
  pub found : (more : List (List ℕ)) × (b.found ≡ b.opening.found ++ more) × (length more ≡ sum_by touches_of b.journal)

-- how often a job number stands in lanes and is held
abbrev pub hold_times : ℕ → Option Hold → ℕ
hold_times number None = 0
hold_times number (Some hold) = cond (nat_eq hold.number number) 1 0

abbrev pub times_in : ReplayState → ℕ → ℕ
times_in h number = sum_by (count_by (λ x. nat_eq x number)) h.lanes + sum_by (hold_times number) h.held

-- the entries of all held jobs that go back, from a worker on
abbrev pub backs : ℕ → List (Option Held) → List Entry
backs worker [] = []
backs worker (None ∷ held) = backs (worker + 1) held
backs worker (Some mine ∷ held) = Back worker mine.job.number ∷ backs (worker + 1) held
