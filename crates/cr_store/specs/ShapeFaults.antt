-- Where a text that has no checkpoint's shape goes wrong first.
use Rattle.std.specs.Prelude.{◌≡◌, ℕ, ◌+◌, ◌<◌, ◌≤◌, ◌⊎◌, List, ◌++◌, length, take, codes}
use Rattle.cr_model.specs.Checkpoints.{number_line}
use Rattle.cr_model.specs.Texts.{IsNumber}
use Rattle.cr_store.specs.Shapes.{ShapeParts, HasShape, line_feeds}

-- some text with a shape begins so
pub record CanBeginShape (front : List ℕ) : Type 0 where
  pub shape : ShapeParts
  pub more : List ℕ
  pub has : HasShape (front ++ more) shape

-- the text has no shape, and of its lines, which are counted from 1 and end with their line feeds, those before this
-- one can begin a text that has a shape, and with this one they cannot; or the text ends within this line
pub record IsFirstWrongLine (text : List ℕ) (line : ℕ) : Type 0 where
  pub none : (s : ShapeParts) → HasShape text s → ⊥
  pub front : List ℕ
  pub rest : List ℕ
  pub is : text ≡ front ++ rest
  pub before : CanBeginShape front
  pub line_is : line ≡ 1 + line_feeds front
  pub here : (upto others : List ℕ) → text ≡ upto ++ others → line ≤ line_feeds upto → CanBeginShape upto → ⊥

-- fewer bytes are left after the second line than it says that the problem has
pub record IsShort (text : List ℕ) : Type 0 where
  pub version : ℕ
  pub size : ℕ
  pub rest : List ℕ
  pub known : (version ≡ 1) ⊎ (version ≡ 2)
  pub fits : IsNumber size
  pub is : text ≡ number_line (codes "ringsearch checkpoint") version ++ number_line (codes "problem") size ++ rest
  pub few : length rest < size

-- the line on which a text goes wrong first: the second, where it is short of the problem's bytes
abbrev pub IsFormFault : List ℕ → ℕ → Type 0
IsFormFault text line = (IsShort text × (line ≡ 2)) ⊎ ((IsShort text → ⊥) × IsFirstWrongLine text line)

-- the same by bytes: the text has no shape, those before this place can begin one that has, and with the byte there
-- they cannot, or the text ends there
pub record IsFirstWrongPlace (text : List ℕ) (place : ℕ) : Type 0 where
  pub none : (s : ShapeParts) → HasShape text s → ⊥
  pub within : place ≤ length text
  pub before : CanBeginShape (take place text)
  pub here : place < length text → CanBeginShape (take (place + 1) text) → ⊥
