-- What is held of leads, and of a node's first leads, as many as bring no row again.
use Rattle.std.specs.Prelude.{◌≡◌, ℕ, ◌+◌, ◌<◌, ◌≤◌, List, length, take, Option, Some, None}
use Rattle.cr_model.specs.Problems.{ProblemParts}
use Rattle.cr_model.specs.Callings.{rows_of, head_of, AllDiffer}
use Rattle.cr_model.specs.Sizes.{child}
use Rattle.cr_prune.specs.Ends.{end_of}
use Rattle.cr_prune.specs.Heads.{HeadsParts, heads_from}
use Rattle.cr_prune.specs.Rung.{room_of}
use Rattle.cr_prune.specs.declared.ends.LeadEnd.{LeadEnd}
use Rattle.cr_prune.specs.declared.held.Held.{Held}
use Rattle.cr_prune.specs.declared.held.Held.TheVariants.{Rows, Heads}

-- Rows: the rows of these leads, with room for those of a node. Heads: the leads themselves
abbrev pub IsHeld : ProblemParts → List ℕ → Held → Type 0
IsHeld p leads (Rows stack) = stack ≡ record { rows = rows_of p leads; room = room_of p }
IsHeld p leads (Heads heads) = heads ≡ heads_from p leads

-- heads are those of this problem
abbrev pub IsOf : ProblemParts → Held → Type 0
IsOf p (Rows stack) = Unit {0}
IsOf p (Heads heads) = heads.problem ≡ p

-- one more lead of so many changes has room, and is rung from the end of the others
pub record IsNext (heads : HeadsParts) (from : LeadEnd) (step : ℕ) : Type 0 where
  pub end : from ≡ end_of heads.problem heads.leads
  pub known : step < length heads.problem.leads
  pub few : length heads.leads < 1024
  pub short : from.rung ≤ 12000

abbrev pub CanRing : Held → LeadEnd → ℕ → ℕ → Type 0
CanRing (Rows stack) from step number = length stack.rows + number ≤ stack.room
CanRing (Heads heads) from step number = IsNext heads from step

-- one more lead: it brings no row again, is held, and this is its last row, or it brings one, and nothing is changed
abbrev pub Rings : ProblemParts → List ℕ → ℕ → Held → Option (List ℕ) → Held → Type 0
Rings p leads step old (Some last) new =
    (last ≡ head_of p (child leads step)) × IsHeld p (child leads step) new × (AllDiffer (rows_of p leads) → AllDiffer (rows_of p (child leads step)))
Rings p leads step old None new = (new ≡ old) × (AllDiffer (rows_of p (child leads step)) → ⊥)

-- there are so many rows to be cut back to, or there is a lead to be taken back
abbrev pub HasMore : Held → ℕ → Type 0
HasMore (Rows stack) rung = rung ≤ length stack.rows
HasMore (Heads heads) rung = 0 < length heads.leads

-- so many first leads of a node bring no row again, and the next one, if there is one, brings one
pub record AreFresh (p : ProblemParts) (node : List ℕ) (fresh : ℕ) : Type 0 where
  pub within : fresh ≤ length node
  pub differ : AllDiffer (rows_of p (take fresh node))
  pub again : fresh < length node → AllDiffer (rows_of p (take (fresh + 1) node)) → ⊥

-- and they are held
pub record AreFirst (p : ProblemParts) (node : List ℕ) (held : Held) (fresh : ℕ) : Type 0 where
  pub are_fresh : AreFresh p node fresh
  pub are_held : IsHeld p (take fresh node) held
