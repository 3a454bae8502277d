-- The signs of bytes.
use Rattle.std.proofs.Common.{◌≡◌, ℕ, zero, suc, ◌+◌, ◌<◌, ◌≤◌, true, false, cond, Ok, Err, refl, sym, ap, ◌∙◌, arith}
use Rattle.std.specs.Prelude.{nat_eq, nat_lt}
use Rattle.std.specs.List.{range_with_len}
use Rattle.std.proofs.lemmas.Bool.Decides.{nat_tests}
use Rattle.cr_row.specs.Symbols.{symbol_of}
use Rattle.cr_model.specs.declared.notation.NotationFault.TheVariants.{Symbol}
use Rattle.cr_model.specs.Notation.{Sign, cross, place, dot, comma, other, is_blank, is_cross, place_of, sign_of}
use Rattle.cr_notation.specs.Reading.{State, byte_step, step, place_step, cross_step, dot_step, comma_step}

-- a place's symbol is no blank, its sign is the place, and it is one byte
pub symbol_sign : (p : ℕ) → 1 ≤ p → p ≤ 16 → (is_blank (symbol_of p) ≡ false) × (sign_of (symbol_of p) ≡ place p) × (nat_lt (symbol_of p) 128 ≡ true)
symbol_sign zero low high = absurd (omega arith)
symbol_sign (suc zero) low high = (refl, refl, refl)
symbol_sign (suc (suc zero)) low high = (refl, refl, refl)
symbol_sign (suc (suc (suc zero))) low high = (refl, refl, refl)
symbol_sign (suc (suc (suc (suc zero)))) low high = (refl, refl, refl)
symbol_sign (suc (suc (suc (suc (suc zero))))) low high = (refl, refl, refl)
symbol_sign (suc (suc (suc (suc (suc (suc zero)))))) low high = (refl, refl, refl)
symbol_sign (suc (suc (suc (suc (suc (suc (suc zero))))))) low high = (refl, refl, refl)
symbol_sign (suc (suc (suc (suc (suc (suc (suc (suc zero)))))))) low high = (refl, refl, refl)
symbol_sign (suc (suc (suc (suc (suc (suc (suc (suc (suc zero))))))))) low high = (refl, refl, refl)
symbol_sign (suc (suc (suc (suc (suc (suc (suc (suc (suc (suc zero)))))))))) low high = (refl, refl, refl)
symbol_sign (suc (suc (suc (suc (suc (suc (suc (suc (suc (suc (suc zero))))))))))) low high = (refl, refl, refl)
symbol_sign (suc (suc (suc (suc (suc (suc (suc (suc (suc (suc (suc (suc zero)))))))))))) low high = (refl, refl, refl)
symbol_sign (suc (suc (suc (suc (suc (suc (suc (suc (suc (suc (suc (suc (suc zero))))))))))))) low high = (refl, refl, refl)
symbol_sign (suc (suc (suc (suc (suc (suc (suc (suc (suc (suc (suc (suc (suc (suc zero)))))))))))))) low high = (refl, refl, refl)
symbol_sign (suc (suc (suc (suc (suc (suc (suc (suc (suc (suc (suc (suc (suc (suc (suc zero))))))))))))))) low high = (refl, refl, refl)
symbol_sign (suc (suc (suc (suc (suc (suc (suc (suc (suc (suc (suc (suc (suc (suc (suc (suc zero)))))))))))))))) low high = (refl, refl, refl)
symbol_sign (suc (suc (suc (suc (suc (suc (suc (suc (suc (suc (suc (suc (suc (suc (suc (suc (suc p))))))))))))))))) low high = absurd (omega arith)

no_place : (n a byte : ℕ) → ((p : ℕ) → a ≤ p → p < a + n → symbol_of p ≡ byte → ⊥) → place_of (range_with_len a n) byte ≡ other
no_place zero a byte none = refl
no_place (suc n) a byte none =
    let this : nat_eq byte (symbol_of a) ≡ false = differs byte (symbol_of a) (none a (omega arith) (omega arith)) in
    let rest : place_of (range_with_len (a + 1) n) byte ≡ other = no_place n (a + 1) byte (λ p low high e. none p (omega arith) (omega arith) e) in
    ap (λ b. cond b (place a) (place_of (range_with_len (a + 1) n) byte)) this ∙ rest
  where
    differs : (x y : ℕ) → (y ≡ x → ⊥) → nat_eq x y ≡ false
    differs x y h = grind (arith, nat_tests)

pub blank_step : (n k byte : ℕ) (s : State) → is_blank byte ≡ true → byte_step n s k byte ≡ Ok s
unfolding byte_step
blank_step n k byte s h = ap (λ b. cond b (Ok s) (step n s k (sign_of byte))) h

sign_step : (n k byte : ℕ) (s : State) (sign : Sign) → is_blank byte ≡ false → sign_of byte ≡ sign → byte_step n s k byte ≡ step n s k sign
unfolding byte_step
sign_step n k byte s sign h is = ap (λ b. cond b (Ok s) (step n s k (sign_of byte))) h ∙ ap (step n s k) is

pub cross_byte : (n k byte : ℕ) (s : State) → is_blank byte ≡ false → is_cross byte ≡ true → byte_step n s k byte ≡ cross_step n s k
unfolding step
cross_byte n k byte s h is = sign_step n k byte s cross h (ap (λ b. cond b cross (cond (nat_eq byte 46) dot (cond (nat_eq byte 44) comma (place_of (range_with_len 1 16) byte)))) is)

pub dot_byte : (n k byte : ℕ) (s : State) → byte ≡ 46 → byte_step n s k byte ≡ dot_step n s k
unfolding step byte_step
dot_byte n k byte s is = ap (byte_step n s k) is

pub comma_byte : (n k byte : ℕ) (s : State) → byte ≡ 44 → byte_step n s k byte ≡ comma_step n s k
unfolding step byte_step
comma_byte n k byte s is = ap (byte_step n s k) is

pub place_byte : (n k byte p : ℕ) (s : State) → 1 ≤ p → p ≤ 16 → symbol_of p ≡ byte → byte_step n s k byte ≡ place_step n s k p
unfolding step
place_byte n k byte p s low high is =
    let both = symbol_sign p low high in
    sign_step n k byte s (place p) (ap is_blank (sym is) ∙ both.0) (ap sign_of (sym is) ∙ both.1)

pub other_byte : (n k byte : ℕ) (s : State) → is_blank byte ≡ false → is_cross byte ≡ false → (byte ≡ 46 → ⊥) → (byte ≡ 44 → ⊥) → ((p : ℕ) → 1 ≤ p → p ≤ 16 → symbol_of p ≡ byte → ⊥) → byte_step n s k byte ≡ Err (Symbol k)
unfolding step
other_byte n k byte s blank crossing no_dot no_comma none =
    let a : nat_eq byte 46 ≡ false = grind (arith, nat_tests) in
    let b : nat_eq byte 44 ≡ false = grind (arith, nat_tests) in
    let c : place_of (range_with_len 1 16) byte ≡ other = no_place 16 1 byte (λ p low high e. none p low (omega arith) e) in
    sign_step n k byte s other blank
    (ap (λ x. cond x cross (cond (nat_eq byte 46) dot (cond (nat_eq byte 44) comma (place_of (range_with_len 1 16) byte)))) crossing
    ∙ ap (λ x. cond x dot (cond (nat_eq byte 44) comma (place_of (range_with_len 1 16) byte))) a
    ∙ ap (λ x. cond x comma (place_of (range_with_len 1 16) byte)) b ∙ c)

-- a symbol is one byte
pub symbol_low : (p : ℕ) → 1 ≤ p → p ≤ 16 → symbol_of p < 128
symbol_low p low high = below (symbol_of p) (symbol_sign p low high).2
  where
    below : (x : ℕ) → nat_lt x 128 ≡ true → x < 128
    below x h = grind (arith, nat_tests)
