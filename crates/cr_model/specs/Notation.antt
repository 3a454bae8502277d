-- Place notation: which texts spell which changes.
use Rattle.std.specs.Prelude.{◌≡◌, ℕ, ◌-◌, ◌%◌, ◌≤◌, ◌⊎◌, Bool, true, false, cond, ◌||◌, nat_eq, List, [], ◌∷◌}
use Rattle.std.specs.Prelude.{◌++◌, length, map, drop, reverse}
use Rattle.std.specs.List.{range_with_len}
use Rattle.cr_row.specs.Rows.{Places, IsNext}
use Rattle.cr_row.specs.Symbols.{symbol_of}
use Rattle.cr_model.specs.Limits.{most_lead_changes}

-- what a byte stands for. The end of a text counts as one more sign
pub data Sign : Type 0 where
  cross : Sign
  place : ℕ → Sign
  dot : Sign
  comma : Sign
  other : Sign
  end_of_text : Sign

-- a space or a tab, which is ignored everywhere
abbrev pub is_blank : ℕ → Bool
is_blank byte = nat_eq byte 32 || nat_eq byte 9

-- x, X or -
abbrev pub is_cross : ℕ → Bool
is_cross byte = nat_eq byte 120 || nat_eq byte 88 || nat_eq byte 45

-- the one of these places whose symbol the byte is
abbrev pub place_of : List ℕ → ℕ → Sign
place_of [] byte = other
place_of (p ∷ ps) byte = cond (nat_eq byte (symbol_of p)) (place p) (place_of ps byte)

-- a cross, a dot, a comma, the symbol of one of the places 1 to 16, or none of these
abbrev pub sign_of : ℕ → Sign
sign_of byte =
    cond (is_cross byte) cross
    (cond (nat_eq byte 46) dot (cond (nat_eq byte 44) comma (place_of (range_with_len 1 16) byte)))

-- the text without blanks
abbrev pub signs_of : List ℕ → List Sign
signs_of [] = []
signs_of (byte ∷ bytes) = cond (is_blank byte) (signs_of bytes) (sign_of byte ∷ signs_of bytes)

-- an item: a cross, or a group of named places
pub data Item : Type 0 where
  crossing : Item
  group : List ℕ → Item

abbrev pub is_crossing : Item → Bool
is_crossing crossing = true
is_crossing (group places) = false

-- how an item is written
abbrev pub item_signs : Item → List Sign
item_signs crossing = cross ∷ []
item_signs (group places) = map place places

-- named places: one or more, each at most the stage, ascending, an even number of places between two neighbours
abbrev pub IsNamed : ℕ → List ℕ → Type 0
IsNamed n [] = ⊥
IsNamed n (p ∷ []) = p ≤ n
IsNamed n (p ∷ q ∷ ps) = (p ≤ n) × IsNext p q × IsNamed n (q ∷ ps)

-- a cross needs an even stage
abbrev pub IsItem : ℕ → Item → Type 0
IsItem n crossing = n % 2 ≡ 0
IsItem n (group places) = IsNamed n places

-- between two items stands a dot, or nothing if one of them is a cross
abbrev pub IsBetween : Item → Item → List Sign → Type 0
IsBetween item next signs = (signs ≡ dot ∷ []) ⊎ ((signs ≡ []) × ((is_crossing item || is_crossing next) ≡ true))

-- the items that follow an item
abbrev pub Follow : ℕ → Item → List Item → List Sign → Type 0
Follow n item [] signs = signs ≡ []
Follow n item (next ∷ items) signs =
    (between rest : List Sign) × IsBetween item next between × IsItem n next
    × Follow n next items rest × (signs ≡ between ++ (item_signs next ++ rest))

-- a block: one or more items
abbrev pub IsBlock : ℕ → List Item → List Sign → Type 0
IsBlock n [] signs = ⊥
IsBlock n (item ∷ items) signs =
    (rest : List Sign) × IsItem n item × Follow n item items rest × (signs ≡ item_signs item ++ rest)

-- place 1, if an odd number of places stands before the first named one
abbrev pub first_implied : List ℕ → List ℕ
first_implied [] = []
first_implied (p ∷ ps) = cond (nat_eq ((p - 1) % 2) 1) (1 ∷ []) []

abbrev pub last_named : List ℕ → ℕ
last_named [] = 0
last_named (p ∷ []) = p
last_named (p ∷ q ∷ ps) = last_named (q ∷ ps)

-- the last place, if an odd number of places stands after the last named one
abbrev pub last_implied : ℕ → List ℕ → List ℕ
last_implied n places = cond (nat_eq ((n - last_named places) % 2) 1) (n ∷ []) []

-- what an item stands for: the change without places, or that of the named and the implied places
abbrev pub change_of : ℕ → Item → Places
change_of n crossing = record { stage = n; made = [] }
change_of n (group places) = record { stage = n; made = first_implied places ++ (places ++ last_implied n places) }

-- the changes in their order
abbrev pub changes_of_items : ℕ → List Item → List Places
changes_of_items n items = map (change_of n) items

-- the changes to the last one and back to the first
abbrev pub mirrored : List Places → List Places
mirrored changes = changes ++ drop 1 (reverse changes)

-- without a comma: one block
abbrev pub IsPlain : ℕ → List Sign → List Places → Type 0
IsPlain n signs changes = (items : List Item) × IsBlock n items signs × (changes ≡ changes_of_items n items)

-- with a comma: two blocks, each mirrored
abbrev pub IsSymmetric : ℕ → List Sign → List Places → Type 0
IsSymmetric n signs changes =
    (first second : List Item) × (left right : List Sign) × IsBlock n first left × IsBlock n second right
    × (signs ≡ left ++ comma ∷ right)
    × (changes ≡ mirrored (changes_of_items n first) ++ mirrored (changes_of_items n second))

-- the text stands for these changes, however many they are
abbrev pub StandsFor : ℕ → List ℕ → List Places → Type 0
StandsFor n text changes = IsPlain n (signs_of text) changes ⊎ IsSymmetric n (signs_of text) changes

-- the text spells these changes, of which there are as many as a lead may have
pub record Spells (n : ℕ) (text : List ℕ) (changes : List Places) : Type 0 where
  pub stands : StandsFor n text changes
  pub at_least : 1 ≤ length changes
  pub at_most : length changes ≤ most_lead_changes
