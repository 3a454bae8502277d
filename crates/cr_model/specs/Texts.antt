-- Numbers and words in the lines of texts, and the bytes that these lack.
use Rattle.std.specs.Prelude.{◌≡◌, ℕ, ◌<◌, ◌≤◌, ◌^◌, true, false, nat_eq, decimal, List, ◌++◌, length, get_or}
use Rattle.std.specs.List.{list_any, list_all}
use Rattle.std.specs.Char.{is_ascii_digit}

-- a number that a line may have, at most 2^63 - 1
abbrev pub IsNumber : ℕ → Type 0
IsNumber n = n < 2 ^ 63

-- 1 to 19 digits, of which the first is no zero that others follow
pub record IsNumeral (digits : List ℕ) : Type 0 where
  pub some : 0 < length digits
  pub few : length digits ≤ 19
  pub plain : get_or digits 0 0 ≡ 48 → length digits ≡ 1
  pub all : list_all is_ascii_digit digits ≡ true

-- a number after a word
abbrev pub named : List ℕ → ℕ → List ℕ
named word n = word ++ decimal n

-- the byte does not stand in the text
abbrev pub Lacks : ℕ → List ℕ → Type 0
Lacks byte text = list_any (nat_eq byte) text ≡ false

-- no known value has this text
abbrev pub NoneTells : {V : Type 0} → (V → List ℕ) → (V → Type 0) → List ℕ → Type 0
NoneTells {V} text Known all = (value : V) → Known value → all ≡ text value → ⊥
