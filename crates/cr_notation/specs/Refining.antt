-- What the reader's fields are, as the state of reading.
use Rattle.std.specs.Prelude.{◌≡◌, ℕ, ◌≤◌, List, [], ◌∷◌, ◌++◌, get_or, Result, Ok, Err}
use Rattle.cr_row.specs.Rows.{Places}
use Rattle.cr_model.specs.declared.notation.NotationFault.{NotationFault}
use Rattle.cr_model.specs.declared.notation.NotationFault.TheVariants.{NoMemory}
use Rattle.cr_model.specs.Notation.{IsNamed}
use Rattle.cr_notation.specs.declared.reader.Last.{Last}
use Rattle.cr_notation.specs.declared.reader.Last.TheVariants as last
use Rattle.cr_notation.specs.declared.reader.Reader.{Reader}
use Rattle.cr_notation.specs.Reading.{State, closed, kept, kept_read, cross_on}

-- the reader's fields, each list without where it lies in memory
abbrev pub state_of : Reader → State
state_of reader = record {
  comma_seen = reader.comma_seen;
  done = reader.done;
  block = reader.block;
  named = reader.named.items;
  last = reader.last;
}

-- the open group is closed: what is kept of the block is what is kept of it with the group's change
pub record IsShut (n : ℕ) (before after : State) : Type 0 where
  pub block : kept after.block ≡ kept (closed n before)
  pub named : after.named ≡ []
  pub done : after.done ≡ before.done
  pub comma_seen : after.comma_seen ≡ before.comma_seen
  pub last : after.last ≡ before.last

-- a change is added to the block, and no place is named any more
pub record IsAdded (change : Places) (before after : Reader) : Type 0 where
  pub block : kept after.block ≡ kept (before.block ++ change ∷ [])
  pub named : after.named.items ≡ []
  pub done : after.done ≡ before.done
  pub comma_seen : after.comma_seen ≡ before.comma_seen
  pub last : after.last ≡ before.last
  pub stage : after.stage ≡ before.stage
  pub cross : after.cross ≡ before.cross

-- the places of an open group follow the rules, from 1 on
abbrev pub IsReadyBy : ℕ → Last → List ℕ → Type 0
IsReadyBy n last.Group named = IsNamed n named × (1 ≤ get_or named 0 0)
IsReadyBy n _ named = Unit {0}

-- a reader for a stage, between two bytes
pub record IsReady (n : ℕ) (reader : Reader) : Type 0 where
  pub stage : reader.stage ≡ n
  pub cross : reader.cross ≡ cross_on n
  pub rules : IsReadyBy n reader.last reader.named.items

-- a fault that reading gives, or want of memory
abbrev pub Fails : {Y : Type 0} → NotationFault → Result Y NotationFault → Type 0
Fails NoMemory read = Unit {0}
Fails fault read = read ≡ Err fault

-- what a call returned, and what it kept, is what a step gives, unless memory ran out
abbrev pub Steps : {X : Type 0} → Result X NotationFault → Result State NotationFault → State → Type 0
Steps (Ok x) read after = kept_read read ≡ kept_read (Ok after)
Steps (Err fault) read after = Fails fault read

-- what a call returned, seen by a view, is what reading gives, unless memory ran out
abbrev pub Gives : {X Y : Type 0} → (X → Y) → Result X NotationFault → Result Y NotationFault → Type 0
Gives view (Ok x) read = read ≡ Ok (view x)
Gives view (Err fault) read = Fails fault read
