-- Byte strings written as blocks, and what stands at a place of a text of blocks.
use Rattle.std.specs.Prelude.{◌≡◌, ℕ, ◌+◌, ◌-◌, ◌<◌, ◌≤◌, ◌⊎◌, List, [], ◌++◌, length, take, drop, flat_map, codes, decimal}
use Rattle.cr_model.specs.Checkpoints.{number_line}
use Rattle.cr_model.specs.Texts.{IsNumber}
use Rattle.cr_store.specs.declared.blocks.Next.{Next}
use Rattle.cr_store.specs.declared.blocks.Next.TheVariants as next
use Rattle.cr_store.specs.declared.blocks.Head.{Head}
use Rattle.cr_store.specs.declared.blocks.Head.TheVariants as head

-- a body as a block: the word, the number of its bytes, a line feed, and the bytes
abbrev pub block : List ℕ → List ℕ
block body = number_line (codes "block") (length body) ++ body

-- bodies as blocks, one after another
abbrev pub blocks : List (List ℕ) → List ℕ
blocks bodies = flat_map block bodies

-- how many bytes a body may have: 1 to 2^63 - 1
abbrev pub IsSize : ℕ → Type 0
IsSize n = (0 < n) × IsNumber n

-- a body may stand in a block
abbrev pub IsBody : List ℕ → Type 0
IsBody body = IsSize (length body)

-- the text is the front of a block, or the whole of it
pub record IsFront (text : List ℕ) : Type 0 where
  pub body : List ℕ
  pub size : IsSize (length body)
  pub rest : List ℕ
  pub is : block body ≡ text ++ rest

-- the text is the front of a block, and not the whole of it
pub record IsTorn (text : List ℕ) : Type 0 where
  pub body : List ℕ
  pub size : IsSize (length body)
  pub rest : List ℕ
  pub some : 0 < length rest
  pub is : block body ≡ text ++ rest

-- the text is blocks of the first bodies of a list, and then it is over or has the front of the next block
pub record IsCutAt (bodies : List (List ℕ)) (text : List ℕ) : Type 0 where
  pub whole : ℕ
  pub among : whole ≤ length bodies
  pub rest : List ℕ
  pub is : text ≡ blocks (take whole bodies) ++ rest
  pub ends : (rest ≡ []) ⊎ ((0 < length rest) × IsTorn rest)

-- the text begins with the block of a body
pub record Begins (text body : List ℕ) : Type 0 where
  pub size : IsSize (length body)
  pub rest : List ℕ
  pub is : text ≡ block body ++ rest

-- what stands at a place.
-- End: nothing, the text is over there. Block: a whole block, whose body begins at this place and has so many bytes.
-- Torn: the front of a block, at which the text is over. Form: neither; up to this place it is the front of a block, and
-- with the byte at it it is not
abbrev pub IsNext : List ℕ → ℕ → Next → Type 0
IsNext bytes at next.End = at ≡ length bytes
IsNext bytes at (next.Block place size) = (body : List ℕ) × Begins (drop at bytes) body
    × (place ≡ at + length (number_line (codes "block") (length body))) × (size ≡ length body)
IsNext bytes at next.Torn = (at < length bytes) × IsTorn (drop at bytes)
IsNext bytes at (next.Form place) = (at ≤ place) × (place < length bytes) × IsTorn (take (place - at) (drop at bytes))
    × (IsFront (take (place + 1 - at) (drop at bytes)) → ⊥)

-- so far, the digits of a size behind the word, or none yet
pub record Sizing (text : List ℕ) (place size : ℕ) : Type 0 where
  pub from : 6 ≤ place
  pub to : place ≤ length text
  pub begun : ((place ≡ 6) × (size ≡ 0)) ⊎ ((6 < place) × IsSize size × (take (place - 6) (drop 6 text) ≡ decimal size))

-- what the line before a body is: whole, with the size that it tells and the place behind it; torn; or wrong at a place
abbrev pub IsHead : List ℕ → Head → Type 0
IsHead text (head.Whole start size) = IsSize size × (start ≤ length text) × (take start text ≡ number_line (codes "block") size)
IsHead text head.Torn = IsTorn text
IsHead text (head.Wrong place) = (place < length text) × IsTorn (take place text) × (IsFront (take (place + 1) text) → ⊥)
