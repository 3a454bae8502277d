-- Events on a board, one after another.
use Rattle.std.specs.Prelude.{◌≡◌, ℕ, ◌+◌, ◌≤◌, ◌⊎◌, cond, nat_lt, List, [], ◌∷◌, Option, Some, None}
use Rattle.cr_model.specs.Nodes.{Splits}
use Rattle.cr_model.specs.Sizes.{most_rows, size_of_all}
use Rattle.cr_node.specs.Work.{Work}
use Rattle.cr_board.specs.Boards.{BoardParts, held_at}
use Rattle.cr_board.specs.Moves.{after_next, after_claim, handed_in, after_resigning, after_recall}
use Rattle.cr_board.specs.declared.held.Held.{Held}
use Rattle.cr_board.specs.declared.event.Event.{Event}
use Rattle.cr_board.specs.declared.event.Event.TheVariants.{Next, Claim, Work as Works, Resign, Recall}

-- work on a held job: it is split into what was found and what is left, each turn took one off its size, and it ends
-- where nothing is left or all granted turns are used
pub record IsWorked (b : BoardParts) (held : Held) (work : Work) : Type 0 where
  pub splits : Splits b.opening.problem held.job.nodes work.found work.rest
  pub size : size_of_all b.opening.problem most_rows work.rest + work.used ≡ size_of_all b.opening.problem most_rows held.job.nodes
  pub within : work.used ≤ held.grant
  pub ends : (work.rest ≡ []) ⊎ (work.used ≡ held.grant)

-- a worker works on what it holds and hands it in, or does nothing where it holds nothing
abbrev pub WorkStep : BoardParts → ℕ → Option Held → BoardParts → Type 0
WorkStep b worker None after = after ≡ b
WorkStep b worker (Some held) after = (work : Work) × IsWorked b held work × (after ≡ handed_in b worker held.job.number work)

-- the board before and after an event
abbrev pub EventStep : BoardParts → Event → BoardParts → Type 0
EventStep b (Next worker) after = after ≡ after_next b worker
EventStep b (Claim worker number) after = after ≡ after_claim b worker number
EventStep b (Works worker) after = WorkStep b worker (held_at b.held worker) after
EventStep b (Resign worker) after = after ≡ cond (nat_lt worker b.opening.workers) (after_resigning b worker) b
EventStep b Recall after = after ≡ after_recall b

-- the board before and after some events
abbrev pub Ran : BoardParts → List Event → BoardParts → Type 0
Ran b [] after = after ≡ b
Ran b (event ∷ events) after = (middle : BoardParts) × EventStep b event middle × Ran middle events after
