-- The test of what is kept decides it.
use Rattle.std.proofs.Common.{◌≡◌, ℕ, ◌<◌, Bool, true, not, List, ◌++◌, length, get_or, take, drop, take-append-drop, Decides, All, is_lt, nat_cmp, inl, inr, refl, sym, ap, ◌∙◌, subst, arith}
use Rattle.std.specs.Cmp.Lexicographic.{slice_cmp}
use Rattle.std.specs.List.{range_with_len}
use Rattle.std.proofs.lemmas.Bool.{cases_eq, and_from, and_parts}
use Rattle.std.proofs.lemmas.Bool.Decides.{Decides-and, Decides-like, Decides-not}
use Rattle.std.proofs.lemmas.Cmp.{nat_list_cmp_total}
use Rattle.std.proofs.lemmas.List.{take_all, drop_all}
use Rattle.std.proofs.lemmas.List.FromFn.{get_or-range_with_len, length-range_with_len}
use Rattle.cr_model.specs.Problems.{ProblemParts}
use Rattle.cr_model.specs.Decided.{is_wanted, rotated, is_better, is_kept}
use Rattle.cr_model.specs.Touches.{Wanted, IsRotation, IsLess, Kept}
use Rattle.cr_model.proofs.Deciding.{all_decided, is_wanted_decided}
use Rattle.cr_model.proofs.InOrder.{never_itself}
use Rattle.cr_model.proofs.LeastRotation.{rotated_is, less_from_test}

-- no rotation by less than the length is wanted and less
abbrev NoneBetter : ProblemParts → List ℕ → Type 0
NoneBetter p calling = All (λ k. is_better p calling (rotated k calling) ≡ true → ⊥) (range_with_len 0 (length calling))

-- a test decides that it is true
itself_decided : (b : Bool) → Decides b (b ≡ true)
itself_decided b = (λ h. h, λ h. h)

-- so no rotation is
none_less : (p : ProblemParts) (calling : List ℕ) → NoneBetter p calling → (other : List ℕ) → IsRotation calling other → Wanted p other → IsLess other calling → ⊥
none_less p calling none other turned wanted less =
    let (k, inside, is) = rotated_is calling other turned in
    elim (cases_eq k (length calling)) [
      | inl e ↦
          let whole : rotated k calling ≡ calling = ap (λ n. rotated n calling) e ∙ ap (λ l. l ++ take (length calling) calling) (drop_all (length calling) calling (omega arith)) ∙ take_all (length calling) calling (omega arith) in
          never_itself nat_list_cmp_total calling (subst (λ (c : List ℕ). IsLess c calling) (is ∙ whole) less)
      | inr e ↦
          let short : k < length (range_with_len 0 (length calling)) = omega (arith, length-range_with_len 0 (length calling)) in
          let at : get_or (range_with_len 0 (length calling)) k 0 ≡ k = get_or-range_with_len 0 (length calling) k 0 (omega arith) ∙ omega arith in
          let better : is_better p calling (rotated k calling) ≡ true = and_from (is_wanted p (rotated k calling)) (is_lt (slice_cmp nat_cmp (rotated k calling) calling))
          ((is_wanted_decided p (rotated k calling)).1 (subst (Wanted p) is wanted))
          (ap (λ c. is_lt (slice_cmp nat_cmp c calling)) (sym is) ∙ ap is_lt less) in
          none k 0 short (subst (λ (j : ℕ). is_better p calling (rotated j calling) ≡ true) (sym at) better)
    ]

-- and where none is, none by less than the length is
none_better : (p : ProblemParts) (calling : List ℕ) → ((other : List ℕ) → IsRotation calling other → Wanted p other → IsLess other calling → ⊥) → NoneBetter p calling
none_better p calling least i d inside better =
    let k : ℕ = get_or (range_with_len 0 (length calling)) i d in
    let both = and_parts (is_wanted p (rotated k calling)) (is_lt (slice_cmp nat_cmp (rotated k calling) calling)) better in
    least (rotated k calling) (take k calling, drop k calling, sym (take-append-drop k calling), refl) ((is_wanted_decided p (rotated k calling)).0 both.0) (less_from_test (slice_cmp nat_cmp (rotated k calling) calling) both.1)

-- the test of what is kept
pub is_kept_decided : (p : ProblemParts) (calling : List ℕ) → Decides (is_kept p calling) (Kept p calling)
is_kept_decided p calling =
    Decides-like (is_kept p calling)
    (λ h. record { wanted = h.0; least = none_less p calling h.1 })
    (λ kept. (kept.wanted, none_better p calling kept.least))
    (Decides-and (is_wanted p calling) _ (is_wanted_decided p calling)
    (all_decided (λ k. not (is_better p calling (rotated k calling))) (λ k. is_better p calling (rotated k calling) ≡ true → ⊥)
    (λ k. Decides-not (is_better p calling (rotated k calling)) (itself_decided (is_better p calling (rotated k calling)))) (range_with_len 0 (length calling))))
