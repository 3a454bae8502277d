-- A number of each front of a node.
use Rattle.std.specs.Prelude.{ℕ, zero, suc, ◌+◌, List, [], ◌∷◌, get_or}

-- a list with a number at an index: where it is too short, with zeros before it
abbrev pub with_number : ℕ → ℕ → List ℕ → List ℕ
with_number zero number [] = number ∷ []
with_number zero number (_ ∷ numbers) = number ∷ numbers
with_number (suc index) number [] = 0 ∷ with_number index number []
with_number (suc index) number (first ∷ numbers) = first ∷ with_number index number numbers

-- the numbers where that of the front after one is so many more
abbrev pub counted_on : ℕ → ℕ → List ℕ → List ℕ
counted_on front more numbers = with_number (front + 1) (get_or numbers front 0 + more) numbers
