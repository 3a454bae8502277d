-- What a push answers, and what it leaves.
use Rattle.std.specs.Prelude.{◌≡◌, ℕ, ◌<◌, List, [], ◌∷◌, ◌++◌, length, get_or, Contains}
use Rattle.cr_rowset.specs.Stacks.{StackParts}
use Rattle.cr_rowset.specs.declared.pushed.Pushed.{Pushed}
use Rattle.cr_rowset.specs.declared.pushed.Pushed.TheVariants.{Fresh, Again, Full}

-- the row stands at a place of a list
pub record StandsAt (rows : List (List ℕ)) (row : List ℕ) (place : ℕ) : Type 0 where
  pub within : place < length rows
  pub is : get_or rows place [] ≡ row

-- Fresh: the row stood nowhere, there was room, and it is now last. Again: it stood at that place. Full: it stood
-- nowhere, and there was no room. After Again and Full nothing is changed
abbrev pub Pushes : StackParts → List ℕ → Pushed → StackParts → Type 0
Pushes old row Fresh new =
    (Contains old.rows row → ⊥) × (length old.rows < old.room) × (new ≡ record { rows = old.rows ++ row ∷ []; room = old.room })
Pushes old row (Again place) new = StandsAt old.rows row place × (new ≡ old)
Pushes old row Full new = (Contains old.rows row → ⊥) × (length old.rows ≡ old.room) × (new ≡ old)
