-- The last whole block of a text of blocks that is cut.
use Rattle.std.specs.Prelude.{◌≡◌, ℕ, ◌+◌, ◌<◌, ◌≤◌, List, [], length, take, get_or, Result, Ok, Err}
use Rattle.cr_store.specs.Blocks.{blocks}
use Rattle.cr_trail.specs.Lasts.{place_of}
use Rattle.cr_trail.specs.declared.last.TrailFault.{TrailFault}
use Rattle.cr_trail.specs.declared.last.TrailFault.TheVariants as fault

-- so many of the first bytes hold no whole block of a body from this one on
abbrev pub NoneFrom : List (List ℕ) → ℕ → ℕ → Type 0
NoneFrom bodies first many = (j : ℕ) → first ≤ j → j < length bodies → many < length (blocks (take (j + 1) bodies))

-- of the bodies whose blocks are whole in so many of the first bytes this is the last: where it stands, and how many
-- bytes it has
pub record IsLastWhole (bodies : List (List ℕ)) (many place size : ℕ) : Type 0 where
  pub index : ℕ
  pub inside : index < length bodies
  pub whole : length (blocks (take (index + 1) bodies)) ≤ many
  pub none : NoneFrom bodies (index + 1) many
  pub place_is : place ≡ place_of (length (blocks (take index bodies))) (get_or bodies index [])
  pub size_is : size ≡ length (get_or bodies index [])

-- the last body whose block is whole in so many of the first bytes, or there is none
abbrev pub TellsLastWhole : List (List ℕ) → ℕ → Result (ℕ × ℕ) TrailFault → Type 0
TellsLastWhole bodies many (Ok last) = IsLastWhole bodies many last.0 last.1
TellsLastWhole bodies many (Err fault.Nothing) = NoneFrom bodies 0 many
TellsLastWhole bodies many (Err (fault.Form place)) = ⊥
