-- The least wanted rotation of a calling.
use Rattle.std.proofs.Common.{◌≡◌, ℕ, zero, suc, ◌+◌, ◌<◌, Bool, true, false, List, ◌++◌, length, take, drop, Ordering, Less, Equal, Greater, is_lt, nat_cmp, inl, inr, refl, sym, ap, ◌∙◌, subst, arith, take-append-drop, take_at, drop_at, length-append}
use Rattle.std.specs.Cmp.Lexicographic.{slice_cmp}
use Rattle.std.proofs.lemmas.Bool.{cases_eq, and_from, and_parts, false≢true}
use Rattle.std.proofs.lemmas.Cmp.{nat_list_cmp_total}
use Rattle.cr_model.specs.Problems.{ProblemParts}
use Rattle.cr_model.specs.Decided.{is_wanted, rotated, is_better}
use Rattle.cr_model.specs.Touches.{Wanted, IsRotation, IsLess, Kept}
use Rattle.cr_model.proofs.InOrder.{never_itself}
use Rattle.cr_model.proofs.Rotations.{itself, onward}
use Rattle.cr_model.proofs.Deciding.{is_wanted_decided}

-- each rotation begins at a later lead
pub rotated_is : (calling other : List ℕ) → IsRotation calling other → (k : ℕ) × (k < length calling + 1) × (other ≡ rotated k calling)
rotated_is calling other turned =
    let front = turned.0 in
    let whole : length calling ≡ length front + length turned.1 = ap length turned.2 ∙ length-append front turned.1 in
    let end : drop (length front) calling ≡ turned.1 = ap (drop (length front)) turned.2 ∙ drop_at front turned.1 (length front) refl in
    let begin : take (length front) calling ≡ front = ap (take (length front)) turned.2 ∙ take_at front turned.1 (length front) refl in
    (length front, omega arith, turned.3 ∙ ap (λ l. l ++ front) (sym end) ∙ ap (λ l. drop (length front) calling ++ l) (sym begin))

-- of the rotations by less than n leads, no wanted one is less than the best
record Best (p : ProblemParts) (calling best : List ℕ) (n : ℕ) : Type 0 where
  rotation : IsRotation calling best
  wanted : Wanted p best
  least : (k : ℕ) → k < n → Wanted p (rotated k calling) → IsLess (rotated k calling) best → ⊥

-- the test of `Less`
pub less_from_test : (o : Ordering) → is_lt o ≡ true → o ≡ Less
less_from_test Less h = refl
less_from_test Equal h = absurd (false≢true h)
less_from_test Greater h = absurd (false≢true h)

-- a better one is the best so far
takes : (p : ProblemParts) (calling best : List ℕ) (n : ℕ) → Best p calling best n → Wanted p (rotated n calling) → IsLess (rotated n calling) best → Best p calling (rotated n calling) (suc n)
takes p calling best n so_far wanted less = record {
  rotation = (take n calling, drop n calling, sym (take-append-drop n calling), refl);
  wanted = wanted;
  least = λ k inside other lesser. elim (cases_eq k n) [
    | inl e ↦ never_itself nat_list_cmp_total (rotated n calling) (subst (λ (j : ℕ). IsLess (rotated j calling) (rotated n calling)) e lesser)
    | inr e ↦ so_far.least k (omega arith) other (nat_list_cmp_total.trans (rotated k calling) (rotated n calling) best lesser less)
  ];
}

-- where it is not better, the best stays
keeps : (p : ProblemParts) (calling best : List ℕ) (n : ℕ) → Best p calling best n → (Wanted p (rotated n calling) → IsLess (rotated n calling) best → ⊥) → Best p calling best (suc n)
keeps p calling best n so_far no_better = record {
  rotation = so_far.rotation;
  wanted = so_far.wanted;
  least = λ k inside other lesser. elim (cases_eq k n) [
    | inl e ↦ no_better (subst (λ (j : ℕ). Wanted p (rotated j calling)) e other) (subst (λ (j : ℕ). IsLess (rotated j calling) best) e lesser)
    | inr e ↦ so_far.least k (omega arith) other lesser
  ];
}

-- one rotation more
one_more : (p : ProblemParts) (calling best : List ℕ) (n : ℕ) → Best p calling best n → (b : Bool) → is_better p best (rotated n calling) ≡ b → (next : List ℕ) × Best p calling next (suc n)
one_more p calling best n so_far true h =
    let both = and_parts (is_wanted p (rotated n calling)) (is_lt (slice_cmp nat_cmp (rotated n calling) best)) h in
    (rotated n calling, takes p calling best n so_far ((is_wanted_decided p (rotated n calling)).0 both.0) (less_from_test (slice_cmp nat_cmp (rotated n calling) best) both.1))
one_more p calling best n so_far false h =
    (best, keeps p calling best n so_far (λ wanted less. false≢true (sym h ∙ and_from (is_wanted p (rotated n calling)) (is_lt (slice_cmp nat_cmp (rotated n calling) best)) ((is_wanted_decided p (rotated n calling)).1 wanted) (ap is_lt less))))

-- the best of the rotations by less than n leads
best_of : (p : ProblemParts) (calling : List ℕ) → Wanted p calling → (n : ℕ) → (best : List ℕ) × Best p calling best n
best_of p calling wanted zero = (calling, record { rotation = itself calling; wanted = wanted; least = λ k inside other lesser. absurd (omega arith) })
best_of p calling wanted (suc n) =
    let so_far = best_of p calling wanted n in
    one_more p calling so_far.0 n so_far.1 (is_better p so_far.0 (rotated n calling)) refl

-- some rotation of a wanted touch is kept
pub kept_rotation : (p : ProblemParts) (calling : List ℕ) → Wanted p calling → (kept : List ℕ) × IsRotation calling kept × Kept p kept
kept_rotation p calling wanted =
    let (best, facts) = best_of p calling wanted (length calling + 1) in (
      best,
      facts.rotation,
      record {
        wanted = facts.wanted;
        least = λ other turned other_wanted lesser.
            let (k, inside, is) = rotated_is calling other (onward calling best other facts.rotation turned) in
            facts.least k inside (subst (Wanted p) is other_wanted) (subst (λ (c : List ℕ). IsLess c best) is lesser);
      },
    )
