-- What reading pieces of a line tells.
use Rattle.std.specs.Prelude.{◌≡◌, ℕ, codes, decimal, List, ◌++◌}
use Rattle.cr_model.specs.Texts.{IsNumber}

-- two numbers with a space between them, and the same after a word
abbrev pub two : ℕ → ℕ → List ℕ
two m n = decimal m ++ codes " " ++ decimal n

abbrev pub two_named : List ℕ → ℕ → ℕ → List ℕ
two_named word m n = word ++ two m n

-- the text is that of no two numbers after a word
abbrev pub NeverTwo : List ℕ → List ℕ → Type 0
NeverTwo word text = (m n : ℕ) → IsNumber m → IsNumber n → text ≡ two_named word m n → ⊥
