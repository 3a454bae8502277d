-- What a worker that asks at a desk is answered, and what it is to do.
use Rattle.std.specs.Prelude.{◌≡◌, ◌≢◌, ◌⊎◌, ℕ, Option, Some, None, Result, Ok, Err, ⊤}
use Rattle.cr_row.specs.declared.NoMemory.{NoMemory}
use Rattle.cr_model.specs.Problems.{ProblemParts}
use Rattle.cr_board.specs.Jobs.{TicketParts}
use Rattle.cr_board.specs.Boards.{BoardParts}
use Rattle.cr_board.specs.Choices.{next_answer, claim_answer}
use Rattle.cr_board.specs.Moves.{after_next, after_claim}
use Rattle.cr_board.specs.declared.taken.Taken.{Taken}
use Rattle.cr_board.specs.declared.taken.Taken.TheVariants as taken
use Rattle.cr_board.specs.declared.taken.Claimed.{Claimed}
use Rattle.cr_board.specs.declared.taken.Claimed.TheVariants as claimed
use Rattle.cr_desk.specs.declared.duty.Duty.{Duty}
use Rattle.cr_desk.specs.declared.duty.Duty.TheVariants as duty

-- a worker's asking with a problem, by its answer, and the board after it: nothing comes of it where the board is of
-- another problem, or where no memory is left
abbrev pub Asks : BoardParts → ProblemParts → ℕ → Result (Option Taken) NoMemory → BoardParts → Type 0
Asks b p worker (Ok None) after = (b.opening.problem ≢ p) × (after ≡ b)
Asks b p worker (Ok (Some answer)) after = (b.opening.problem ≡ p) × (answer ≡ next_answer b worker) × (after ≡ after_next b worker)
Asks b p worker (Err e) after = after ≡ b

-- a worker's claim of the job of a number, likewise
abbrev pub Claims : BoardParts → ProblemParts → ℕ → ℕ → Result (Option Claimed) NoMemory → BoardParts → Type 0
Claims b p worker number (Ok None) after = (b.opening.problem ≢ p) × (after ≡ b)
Claims b p worker number (Ok (Some answer)) after = (b.opening.problem ≡ p) × (answer ≡ claim_answer b worker number) × (after ≡ after_claim b worker number)
Claims b p worker number (Err e) after = after ≡ b

-- what holds of the job that is to be explored
abbrev pub IfExplore : Duty → (TicketParts → Type 0) → Type 0
IfExplore (duty.Explore ticket) P = P ticket
IfExplore duty.Resign P = ⊤
IfExplore duty.Leave P = ⊤

-- what holds where it is to leave
abbrev pub IfLeave : Duty → Type 0 → Type 0
IfLeave (duty.Explore ticket) P = ⊤
IfLeave duty.Resign P = ⊤
IfLeave duty.Leave P = P

-- an answer after which a worker gets no job any more: it is a stranger, the budget is spent, or no job is left
abbrev pub EndsWork : Taken → Type 0
EndsWork taken.Stranger = ⊤
EndsWork (taken.Holding number) = ⊥
EndsWork taken.Spent = ⊤
EndsWork (taken.Job ticket) = ⊥
EndsWork (taken.Wait worker) = ⊥
EndsWork taken.Empty = ⊤

-- there is nothing to do at this board for a worker that explores this problem: the board is of another one, or it
-- answers the worker so
abbrev pub HasNoWork : BoardParts → ProblemParts → ℕ → Type 0
HasNoWork b p worker = (b.opening.problem ≢ p) ⊎ EndsWork (next_answer b worker)

-- what holds where a worker is answered that it has nothing to do
abbrev pub IfNoWork : Result (Option Taken) NoMemory → Type 0 → Type 0
IfNoWork (Err e) P = ⊤
IfNoWork (Ok None) P = P
IfNoWork (Ok (Some taken.Stranger)) P = P
IfNoWork (Ok (Some (taken.Holding number))) P = ⊤
IfNoWork (Ok (Some taken.Spent)) P = P
IfNoWork (Ok (Some (taken.Job ticket))) P = ⊤
IfNoWork (Ok (Some (taken.Wait worker))) P = ⊤
IfNoWork (Ok (Some taken.Empty)) P = P

-- what holds where the answer to a claim is that a worker gets no job any more: it is a stranger, or the budget is spent
abbrev pub IfEnded : Claimed → Type 0 → Type 0
IfEnded claimed.Stranger P = P
IfEnded (claimed.Holding number) P = ⊤
IfEnded claimed.Spent P = P
IfEnded claimed.Stale P = ⊤
IfEnded (claimed.Job ticket) P = ⊤

-- what holds where a worker that claims a job is answered that it has nothing to do
abbrev pub IfNoClaim : Result (Option Claimed) NoMemory → Type 0 → Type 0
IfNoClaim (Err e) P = ⊤
IfNoClaim (Ok None) P = P
IfNoClaim (Ok (Some answer)) P = IfEnded answer P
