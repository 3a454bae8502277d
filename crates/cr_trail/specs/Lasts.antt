-- The last whole block of a text.
use Rattle.std.specs.Prelude.{◌≡◌, ℕ, ◌+◌, ◌<◌, ◌⊎◌, List, [], ◌∷◌, ◌++◌, length, All, Option, Some, None, Result, Ok, Err, codes}
use Rattle.cr_model.specs.Checkpoints.{number_line}
use Rattle.cr_store.specs.Blocks.{block, blocks, IsBody, IsTorn, IsNext}
use Rattle.cr_store.specs.declared.blocks.Next.TheVariants as next
use Rattle.cr_trail.specs.declared.last.TrailFault.{TrailFault}
use Rattle.cr_trail.specs.declared.last.TrailFault.TheVariants as fault

-- a text of blocks is over here: nothing is left, or the front of a block
abbrev pub IsOver : List ℕ → Type 0
IsOver rest = (rest ≡ []) ⊎ ((0 < length rest) × IsTorn rest)

-- where the body of a block stands behind so many bytes
abbrev pub place_of : ℕ → List ℕ → ℕ
place_of at body = at + length (number_line (codes "block") (length body))

-- the text is blocks, and then it is over; this is where the last body stands, and how many bytes it has
pub record IsLastBody (text : List ℕ) (place size : ℕ) : Type 0 where
  pub before : List (List ℕ)
  pub are : All IsBody before
  pub body : List ℕ
  pub is_body : IsBody body
  pub rest : List ℕ
  pub is : text ≡ blocks before ++ (block body ++ rest)
  pub over : IsOver rest
  pub place_is : place ≡ place_of (length (blocks before)) body
  pub size_is : size ≡ length body

-- the text is blocks, behind which stands none: this is the first byte that cannot be
pub record IsWrongBehind (text : List ℕ) (place : ℕ) : Type 0 where
  pub before : List (List ℕ)
  pub are : All IsBody before
  pub rest : List ℕ
  pub is : text ≡ blocks before ++ rest
  pub wrong : IsNext text (length (blocks before)) (next.Form place)

-- the last whole body of a text of blocks, or why there is none
abbrev pub IsLast : List ℕ → Result (ℕ × ℕ) TrailFault → Type 0
IsLast text (Ok last) = IsLastBody text last.0 last.1
IsLast text (Err (fault.Form place)) = IsWrongBehind text place
IsLast text (Err fault.Nothing) = IsOver text

-- the last body so far, if there is one, and where it stands
abbrev pub Ends : List (List ℕ) → Option (ℕ × ℕ) → Type 0
Ends before None = before ≡ []
Ends before (Some last) = (front : List (List ℕ)) × (body : List ℕ) × (before ≡ front ++ body ∷ [])
    × (last.0 ≡ place_of (length (blocks front)) body) × (last.1 ≡ length body)

-- the text was read up to this place, block by block
pub record IsReadTo (text : List ℕ) (at : ℕ) (last : Option (ℕ × ℕ)) : Type 0 where
  pub before : List (List ℕ)
  pub are : All IsBody before
  pub rest : List ℕ
  pub is : text ≡ blocks before ++ rest
  pub at_is : at ≡ length (blocks before)
  pub ends : Ends before last
