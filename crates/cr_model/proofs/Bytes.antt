-- Texts cut at a byte.
use Rattle.std.proofs.Common.{◌≡◌, ℕ, nat_eq, List, [], ◌∷◌, ◌++◌, length, get_or, drop, refl, sym, ap, arith}
use Rattle.std.specs.List.{list_any}
use Rattle.std.proofs.lemmas.Bool.{or_parts, eqb-false}
use Rattle.cr_model.specs.Texts.{Lacks}

-- a byte that the text lacks is not its first
not_first : (byte x : ℕ) (text : List ℕ) → Lacks byte (x ∷ text) → byte ≡ x → ⊥
not_first byte x text lacks = eqb-false byte x (or_parts (nat_eq byte x) (list_any (nat_eq byte) text) lacks).0

pub lacks_rest : (byte x : ℕ) (text : List ℕ) → Lacks byte (x ∷ text) → Lacks byte text
lacks_rest byte x text lacks = (or_parts (nat_eq byte x) (list_any (nat_eq byte) text) lacks).1

-- the first of a list that is not empty, and its others
heads : (x y : ℕ) (xs ys : List ℕ) → x ∷ xs ≡ y ∷ ys → x ≡ y
heads x y xs ys same = ap (λ l. get_or l 0 0) same

tails : (x y : ℕ) (xs ys : List ℕ) → x ∷ xs ≡ y ∷ ys → xs ≡ ys
tails x y xs ys same = ap (drop 1) same

-- texts are cut in one way at the first such byte
pub cut : (byte : ℕ) (a b x y : List ℕ) → Lacks byte a → Lacks byte b → a ++ byte ∷ x ≡ b ++ byte ∷ y → (a ≡ b) × (x ≡ y)
cut byte [] [] x y lacks also same = (refl, tails byte byte x y same)
cut byte [] (d ∷ b) x y lacks also same = absurd (not_first byte d b also (heads byte d x (b ++ byte ∷ y) same))
cut byte (c ∷ a) [] x y lacks also same = absurd (not_first byte c a lacks (sym (heads c byte (a ++ byte ∷ x) y same)))
cut byte (c ∷ a) (d ∷ b) x y lacks also same =
    let later = cut byte a b x y (lacks_rest byte c a lacks) (lacks_rest byte d b also) (tails c d (a ++ byte ∷ x) (b ++ byte ∷ y) same) in
    let first : c ≡ d = heads c d (a ++ byte ∷ x) (b ++ byte ∷ y) same in
    (cc, later.1)

-- a text that lacks the byte has no such part
pub uncut : (byte : ℕ) (a x text : List ℕ) → Lacks byte text → text ≡ a ++ byte ∷ x → ⊥
uncut byte [] x [] lacks same = let some : 0 ≡ length (byte ∷ x) = ap length same in absurd (omega arith)
uncut byte [] x (y ∷ text) lacks same = not_first byte y text lacks (sym (heads y byte text x same))
uncut byte (c ∷ a) x [] lacks same = let some : 0 ≡ length (c ∷ a ++ byte ∷ x) = ap length same in absurd (omega arith)
uncut byte (c ∷ a) x (y ∷ text) lacks same = uncut byte a x text (lacks_rest byte y text lacks) (tails y c text (a ++ byte ∷ x) same)
