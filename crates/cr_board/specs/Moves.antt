-- The board after a take, a hand-in, a resignation and a recall.
use Rattle.std.specs.Prelude.{◌≡◌, ◌≢◌, ℕ, zero, suc, ◌+◌, ◌/◌, ◌<◌, ◌≤◌, true, false, List, [], ◌∷◌, ◌++◌, length, take, drop, set, remove, replicate, Option, Some, None, option_map}
use Rattle.cr_node.specs.Work.{Work}
use Rattle.cr_board.specs.Jobs.{numbered}
use Rattle.cr_board.specs.Boards.{BoardParts, lane_at, held_at}
use Rattle.cr_board.specs.Choices.{refusal_of, next_place, claim_place, job_at, grant_now}
use Rattle.cr_board.specs.declared.held.Held.{Held}
use Rattle.cr_board.specs.declared.place.Place.{Place}
use Rattle.cr_board.specs.declared.refusal.Refusal.{Refusal}
use Rattle.cr_board.specs.declared.entry.Entry.TheVariants.{Take, Hand, Back}
use Rattle.cr_board.specs.declared.verdict.Verdict.{Verdict}
use Rattle.cr_board.specs.declared.verdict.Verdict.TheVariants as verdict
use Rattle.cr_board.specs.declared.opened.Opened.{Opened}
use Rattle.cr_board.specs.declared.opened.Opened.TheVariants as opened
use Rattle.cr_board.specs.declared.handed.Handed.{Handed}
use Rattle.cr_board.specs.declared.handed.Handed.TheVariants as handed

-- the job at a place leaves its lane, and the worker holds it
abbrev pub taken_at : BoardParts → ℕ → Place → BoardParts
taken_at b worker place = record b {
  lanes = set b.lanes place.lane (remove (lane_at b.lanes place.lane) place.place);
  held = set b.held worker (Some (record { job = job_at b.lanes place; grant = grant_now b }));
  journal = b.journal ++ Take worker place.lane (job_at b.lanes place).number (grant_now b) ∷ [];
}

-- the board after a worker asked, where it is refused, or a job stands at a place, or none does
abbrev pub after_ask : BoardParts → ℕ → Option Refusal → Option Place → BoardParts
after_ask b worker (Some refusal) place = b
after_ask b worker None (Some place) = taken_at b worker place
after_ask b worker None None = b

abbrev pub after_next : BoardParts → ℕ → BoardParts
after_next b worker = after_ask b worker (refusal_of b worker) (next_place b worker)

abbrev pub after_claim : BoardParts → ℕ → ℕ → BoardParts
after_claim b worker number = after_ask b worker (refusal_of b worker) (claim_place b number)

-- the jobs that the rest of a job is opened as: none, one, or two halves of which the second has the odd node
abbrev pub halves : List (List ℕ) → List (List (List ℕ))
halves [] = []
halves (node ∷ []) = (node ∷ []) ∷ []
halves (node ∷ next ∷ rest) = take (length (node ∷ next ∷ rest) / 2) (node ∷ next ∷ rest) ∷ drop (length (node ∷ next ∷ rest) / 2) (node ∷ next ∷ rest) ∷ []

-- a worker hands in this job's work
abbrev pub handed_in : BoardParts → ℕ → ℕ → Work → BoardParts
handed_in b worker number work = record b {
  lanes = set b.lanes worker (lane_at b.lanes worker ++ numbered b.next (halves work.rest));
  held = set b.held worker None;
  found = b.found ++ work.found;
  spent = b.spent + work.used;
  next = b.next + length (halves work.rest);
  journal = b.journal ++ Hand worker number work.used (length work.found) (length (halves work.rest)) ∷ [];
}

-- what a worker holds goes back to the end of its lane
abbrev pub put_back : BoardParts → ℕ → Option Held → BoardParts
put_back b worker None = b
put_back b worker (Some held) = record b {
  lanes = set b.lanes worker (lane_at b.lanes worker ++ held.job ∷ []);
  held = set b.held worker None;
  journal = b.journal ++ Back worker held.job.number ∷ [];
}

abbrev pub given_back : BoardParts → ℕ → BoardParts
given_back b worker = put_back b worker (held_at b.held worker)

-- a worker resigns
abbrev pub after_resigning : BoardParts → ℕ → BoardParts
after_resigning b worker = record (given_back b worker) { resigned = set b.resigned worker true }

-- the workers below a number give back what they hold, in their order
abbrev pub back_below : BoardParts → ℕ → BoardParts
back_below b zero = b
back_below b (suc worker) = given_back (back_below b worker) worker

-- all give back what they hold, and nobody has resigned
abbrev pub after_recall : BoardParts → BoardParts
after_recall b = record (back_below b b.opening.workers) { resigned = replicate b.opening.workers false }

-- the number of what is held
abbrev pub number_of : Option Held → Option ℕ
number_of held = option_map (λ h. h.job.number) held

-- finished work is that of the problem, of the job that a worker holds by this number, and within its grant
pub record IsDue (b : BoardParts) (worker number : ℕ) (work : Work) : Type 0 where
  pub held : Held
  pub holds : held_at b.held worker ≡ Some held
  pub number_is : held.job.number ≡ number
  pub problem : work.problem ≡ b.opening.problem
  pub job : work.job ≡ held.job.nodes
  pub within : work.used ≤ held.grant

-- the worker holds the job of this number
pub record IsOfHeld (b : BoardParts) (worker number : ℕ) (mine : Held) : Type 0 where
  pub holds : held_at b.held worker ≡ Some mine
  pub number_is : mine.job.number ≡ number

-- what finished work on the job of a number deserves: the first of these that holds
abbrev pub Judges : BoardParts → ℕ → ℕ → Work → Verdict → Type 0
Judges b worker number work (verdict.NotHeld other) = (other ≡ number_of (held_at b.held worker)) × (other ≢ Some number)
Judges b worker number work verdict.OtherProblem = ((mine : Held) × IsOfHeld b worker number mine) × (work.problem ≢ b.opening.problem)
Judges b worker number work verdict.OtherJob = (mine : Held) × IsOfHeld b worker number mine
    × (work.problem ≡ b.opening.problem) × (work.job ≢ mine.job.nodes)
Judges b worker number work (verdict.Over grant) = (mine : Held) × IsOfHeld b worker number mine
    × (work.problem ≡ b.opening.problem) × (work.job ≡ mine.job.nodes) × (grant ≡ mine.grant) × (grant < work.used)
Judges b worker number work verdict.Due = IsDue b worker number work

-- what finished work that is handed in is answered, and the board after it
abbrev pub HandsIn : BoardParts → ℕ → ℕ → Work → Handed → BoardParts → Type 0
HandsIn b worker number work handed.In after = Judges b worker number work verdict.Due × (after ≡ handed_in b worker number work)
HandsIn b worker number work (handed.NotHeld back other) after = (back ≡ work) × Judges b worker number work (verdict.NotHeld other) × (after ≡ b)
HandsIn b worker number work (handed.OtherProblem back) after = (back ≡ work) × Judges b worker number work verdict.OtherProblem × (after ≡ b)
HandsIn b worker number work (handed.OtherJob back mine) after = (back ≡ work) × (mine ≡ number) × Judges b worker number work verdict.OtherJob × (after ≡ b)
HandsIn b worker number work (handed.Over back grant) after = (back ≡ work) × Judges b worker number work (verdict.Over grant) × (after ≡ b)
HandsIn b worker number work (handed.NoMemory back) after = (back ≡ work) × Judges b worker number work verdict.Due × (after ≡ b)

-- the jobs of what was opened
abbrev pub opened_jobs : Opened → List (List (List ℕ))
opened_jobs opened.Nothing = []
opened_jobs (opened.Whole nodes) = nodes.items ∷ []
opened_jobs (opened.Halves first second) = first.items ∷ second.items ∷ []
