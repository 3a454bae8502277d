-- Why a text is no place notation: the first fault from the left.
use Rattle.std.specs.Prelude.{◌≡◌, ℕ, ◌+◌, ◌-◌, ◌%◌, ◌<◌, ◌⊎◌, Bool, true, false, cond, ◌||◌, nat_eq, nat_lt}
use Rattle.std.specs.Prelude.{nat_le, List, [], ◌∷◌, ◌++◌, length, reverse, Option, Some, None}
use Rattle.std.specs.List.{list_any}
use Rattle.cr_row.specs.Rows.{Places}
use Rattle.cr_model.specs.declared.notation.NotationFault.{NotationFault}
use Rattle.cr_model.specs.declared.notation.NotationFault.TheVariants.{Symbol, Above, Order, Gap, CrossOnOdd}
use Rattle.cr_model.specs.declared.notation.NotationFault.TheVariants.{Dot, EmptyBlock, SecondComma, Long}
use Rattle.cr_model.specs.Notation.{Sign, cross, place, dot, comma, other, end_of_text, is_blank, sign_of, StandsFor}

-- a byte that is no blank, or the end, with its place
pub record Mark : Type 0 where
  pub at : ℕ
  pub sign : Sign

-- the marks of a text whose first byte has place k
abbrev pub marks_from : ℕ → List ℕ → List Mark
marks_from k [] = record { at = k; sign = end_of_text } ∷ []
marks_from k (byte ∷ bytes) =
    cond (is_blank byte) (marks_from (k + 1) bytes)
    (record { at = k; sign = sign_of byte } ∷ marks_from (k + 1) bytes)

abbrev pub marks_of : List ℕ → List Mark
marks_of text = marks_from 0 text

abbrev pub is_comma : Sign → Bool
is_comma comma = true
is_comma _ = false

abbrev pub is_dot : Sign → Bool
is_dot dot = true
is_dot _ = false

-- a cross, or a place of a group
abbrev pub is_of_item : Sign → Bool
is_of_item cross = true
is_of_item (place p) = true
is_of_item _ = false

-- In what follows `before` are the marks before one, the nearest first.

-- nothing of the block stands before
abbrev pub starts_block : List Mark → Bool
starts_block [] = true
starts_block (mark ∷ before) = is_comma mark.sign

-- the nearest is a dot
abbrev pub follows_dot : List Mark → Bool
follows_dot [] = false
follows_dot (mark ∷ before) = is_dot mark.sign

-- the place of the nearest
abbrev pub nearest_at : List Mark → ℕ
nearest_at [] = 0
nearest_at (mark ∷ before) = mark.at

-- the block has an item
abbrev pub has_item : List Mark → Bool
has_item [] = false
has_item (mark ∷ before) = cond (is_comma mark.sign) false (is_of_item mark.sign || has_item before)

abbrev pub has_comma : List Mark → Bool
has_comma before = list_any (λ mark. is_comma mark.sign) before

-- place p right after place q in a group: not above it, or an odd number of places between them
abbrev pub order_fault : ℕ → ℕ → ℕ → Option NotationFault
order_fault k q p = cond (nat_le p q) (Some (Order k)) (cond (nat_eq ((p - q - 1) % 2) 1) (Some (Gap k)) None)

-- a place right after a sign: in its group if that is a place, else at the start of a group
abbrev pub group_fault : ℕ → Sign → ℕ → Option NotationFault
group_fault k (place q) p = order_fault k q p
group_fault k _ p = None

abbrev pub place_fault : ℕ → List Mark → ℕ → Option NotationFault
place_fault k [] p = None
place_fault k (mark ∷ before) p = group_fault k mark.sign p

-- a comma or the end where the block has no item
abbrev pub empty_fault : List Mark → ℕ → Option NotationFault
empty_fault before k = cond (has_item before) None (Some (EmptyBlock k))

-- the fault at a mark with place k, if there is one: of several, the first of this table
abbrev pub fault_at : ℕ → List Mark → ℕ → Sign → Option NotationFault
fault_at n before k other = Some (Symbol k)
fault_at n before k (place p) = cond (nat_lt n p) (Some (Above k)) (place_fault k before p)
fault_at n before k cross = cond (nat_eq (n % 2) 1) (Some (CrossOnOdd k)) None
fault_at n before k dot = cond (starts_block before || follows_dot before) (Some (Dot k)) None
fault_at n before k comma =
    cond (follows_dot before) (Some (Dot (nearest_at before)))
    (cond (has_comma before) (Some (SecondComma k)) (empty_fault before k))
fault_at n before k end_of_text = cond (follows_dot before) (Some (Dot (nearest_at before))) (empty_fault before k)

-- no fault at any of these marks, the nearest first
abbrev pub Faultless : ℕ → List Mark → Type 0
Faultless n [] = Unit {0}
Faultless n (mark ∷ before) = (fault_at n before mark.at mark.sign ≡ None) × Faultless n before

-- the fault comes at a mark, and none at those in front of it
pub record FaultAt (n : ℕ) (text : List ℕ) (fault : NotationFault) : Type 0 where
  pub front : List Mark
  pub here : Mark
  pub rest : List Mark
  pub split : marks_of text ≡ front ++ here ∷ rest
  pub faultless : Faultless n (reverse front)
  pub comes : fault_at n (reverse front) here.at here.sign ≡ Some fault

-- no fault comes at a mark, and there are more than 128 changes
pub record TooLong (n : ℕ) (text : List ℕ) (fault : NotationFault) : Type 0 where
  pub faultless : Faultless n (reverse (marks_of text))
  pub changes : List Places
  pub stands : StandsFor n text changes
  pub many : 128 < length changes
  pub is : fault ≡ Long (length text)

abbrev pub FirstFault : ℕ → List ℕ → NotationFault → Type 0
FirstFault n text fault = FaultAt n text fault ⊎ TooLong n text fault
