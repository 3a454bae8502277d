-- Laws of rotations.
use Rattle.std.proofs.Common.{◌≡◌, ℕ, ◌⊎◌, List, [], ◌∷◌, ◌++◌, length, Ordering, Less, Equal, Greater, inl, inr, refl, sym, ap, ap₂, ◌∙◌, ◌+◌, ◌-◌, arith, append_assoc, append-nil, nat_cmp, replicate, take, drop, take_at, drop_at, length-append}
use Rattle.std.proofs.lemmas.List.{length-replicate, take-replicate, drop-replicate, replicate-append-replicate}
use Rattle.std.specs.Cmp.Lexicographic.{slice_cmp}
use Rattle.std.specs.Ordering.{ordering_reverse, is_eq}
use Rattle.std.proofs.lemmas.Cmp.{nat_list_cmp_total}
use Rattle.std.proofs.lemmas.Map.Text.{is_eq-slice_cmp}
use Rattle.std.proofs.lemmas.Slice.Eq.{bytes_eq-Decides}
use Rattle.cr_model.specs.Problems.{ProblemParts}
use Rattle.cr_model.specs.Touches.{IsRotation, Kept}

-- two cuts of a list: the second lies in the first part or in the second
pub two_cuts : (a b c d : List ℕ) → a ++ b ≡ c ++ d → ((m : List ℕ) × (a ≡ c ++ m) × (d ≡ m ++ b)) ⊎ ((m : List ℕ) × (c ≡ a ++ m) × (b ≡ m ++ d))
two_cuts [] b c d e = inr (c, refl, e)
two_cuts (x ∷ a) b [] d e = inl (x ∷ a, refl, sym e)
two_cuts (x ∷ a) b (y ∷ c) d e =
    let first : x ≡ y = cc in
    let rest : a ++ b ≡ c ++ d = cc in
    elim (two_cuts a b c d rest) [
      | inl cut ↦ inl (cut.0, (let at : a ≡ c ++ cut.0 = cut.1 in cc), cut.2)
      | inr cut ↦ inr (cut.0, (let at : c ≡ a ++ cut.0 = cut.1 in cc), cut.2)
    ]

-- a calling is a rotation of itself
pub itself : (calling : List ℕ) → IsRotation calling calling
itself calling = ([], calling, refl, sym (append-nil calling))

-- and of its rotations
pub back : (calling other : List ℕ) → IsRotation calling other → IsRotation other calling
back calling other turned = (turned.1, turned.0, turned.3, turned.2)

-- a rotation of a rotation is one
pub onward : (calling other third : List ℕ) → IsRotation calling other → IsRotation other third → IsRotation calling third
onward calling other third one two =
    elim (two_cuts one.1 one.0 two.0 two.1 (sym one.3 ∙ two.2)) [
      | inl cut ↦ (
        one.0 ++ two.0,
        cut.0,
        one.2 ∙ ap (λ l. one.0 ++ l) cut.1 ∙ sym (append_assoc one.0 two.0 cut.0),
        two.3 ∙ ap (λ l. l ++ two.0) cut.2 ∙ append_assoc cut.0 one.0 two.0,
      )
      | inr cut ↦ (
        cut.0,
        two.1 ++ one.1,
        one.2 ∙ ap (λ l. l ++ one.1) cut.2 ∙ append_assoc cut.0 two.1 one.1,
        two.3 ∙ ap (λ l. two.1 ++ l) cut.1 ∙ sym (append_assoc two.1 one.1 cut.0),
      )
    ]

-- a rotation of equal steps is itself
pub rotation_of_equal : (step number : ℕ) (other : List ℕ) → IsRotation (replicate number step) other → replicate number step ≡ other
rotation_of_equal step number other turned =
    let front = turned.0 in
    let whole : number ≡ length front + length turned.1 = sym (length-replicate number step) ∙ ap length turned.2 ∙ length-append front turned.1 in
    let begin : front ≡ replicate (length front) step = sym (ap (take (length front)) turned.2 ∙ take_at front turned.1 (length front) refl) ∙ take-replicate (length front) number step (omega arith) in
    let end : turned.1 ≡ replicate (number - length front) step = sym (ap (drop (length front)) turned.2 ∙ drop_at front turned.1 (length front) refl) ∙ drop-replicate (length front) number step in
    let again : number ≡ number - length front + length front = omega arith in
    ap (λ n. replicate n step) again ∙ sym (replicate-append-replicate (number - length front) (length front) step) ∙ ap₂ ◌++◌ (sym end) (sym begin) ∙ sym turned.3

-- lists that compare as equal are one
pub same_when_equal : (xs ys : List ℕ) → slice_cmp nat_cmp xs ys ≡ Equal → xs ≡ ys
same_when_equal xs ys h = (bytes_eq-Decides xs ys).0 (sym (is_eq-slice_cmp xs ys) ∙ ap is_eq h)

-- two kept rotations are one
pub kept_once : (p : ProblemParts) (calling other : List ℕ) → Kept p calling → Kept p other → IsRotation calling other → calling ≡ other
kept_once p calling other one two turned = by (slice_cmp nat_cmp calling other) refl
  where
    by : (answer : Ordering) → slice_cmp nat_cmp calling other ≡ answer → calling ≡ other
    by Less h = absurd (two.least calling (back calling other turned) one.wanted h)
    by Equal h = same_when_equal calling other h
    by Greater h = absurd (one.least other turned two.wanted (nat_list_cmp_total.antisymm other calling ∙ ap ordering_reverse h))
