-- No job is left where no lane is busy and nobody holds one.
use Rattle.std.proofs.Common.{◌≡◌, ℕ, zero, suc, ◌+◌, ◌-◌, ◌<◌, ◌≤◌, Bool, true, false, not, List, [], ◌∷◌, ◌++◌, length, get_or, flat_map, Option, Some, None, is_some, ◌↔◌, refl, sym, ap, ap₂, ◌∙◌, arith}
use Rattle.std.specs.Prelude.{IsTrue}
use Rattle.std.proofs.lemmas.Bool.{ltb-false, le-ltb, false≢true}
use Rattle.std.proofs.lemmas.List.Concat.{flat_map-cons}
use Rattle.cr_board.specs.Jobs.{JobParts}
use Rattle.cr_board.specs.Boards.{lane_at, held_at, held_jobs, jobs_in}
use Rattle.cr_board.specs.Choices.{is_busy, is_holding, first_from}
use Rattle.cr_board.specs.declared.held.Held.{Held}
use Rattle.cr_board.proofs.Finding.{none_is, none_found}

-- a list of no elements
no_length : {X : Type 0} (xs : List X) → length xs ≤ 0 → xs ≡ []
no_length [] none = refl
no_length (x ∷ xs) none = absurd (omega arith)

both_empty : {X : Type 0} (xs ys : List X) → xs ++ ys ≡ [] → (xs ≡ []) × (ys ≡ [])
both_empty [] ys e = (refl, e)
both_empty (x ∷ xs) ys e = let none : length (x ∷ (xs ++ ys)) ≡ 0 = ap length e in absurd (omega (arith, none))

module _ {X A : Type 0} (g : X → List A) where
  -- joined lists are empty where each of them is
  all_empty : (xs : List X) (d : X) → ((k : ℕ) → k < length xs → g (get_or xs k d) ≡ []) → flat_map g xs ≡ []
  all_empty [] d none = refl
  all_empty (x ∷ xs) d none = flat_map-cons g x xs ∙ ap₂ (λ a b. a ++ b) (none zero (omega arith)) (all_empty xs d (λ k inside. none (suc k) (omega arith)))

  each_empty : (xs : List X) (d : X) → flat_map g xs ≡ [] → (k : ℕ) → k < length xs → g (get_or xs k d) ≡ []
  each_empty [] d e k inside = absurd (omega arith)
  each_empty (x ∷ xs) d e zero inside = (both_empty (g x) (flat_map g xs) (sym (flat_map-cons g x xs) ∙ e)).0
  each_empty (x ∷ xs) d e (suc k) inside = each_empty xs d (both_empty (g x) (flat_map g xs) (sym (flat_map-cons g x xs) ∙ e)).1 k (omega arith)

not_held : (h : Option Held) → is_some h ≡ false → held_jobs h ≡ []
not_held None e = refl
not_held (Some held) e = absurd (false≢true (sym e))

no_job_held : (h : Option Held) → held_jobs h ≡ [] → is_some h ≡ false
no_job_held None e = refl
no_job_held (Some held) e = let none : length (held.job ∷ []) ≡ 0 = ap length e in absurd (omega (arith, none))

is_none_from : {X : Type 0} (o : Option X) → is_some o ≡ false → o ≡ None
is_none_from None e = refl
is_none_from (Some x) e = absurd (false≢true (sym e))

module _ (lanes : List (List JobParts)) (held : List (Option Held)) where
  pub none_left : first_from (is_busy lanes) 0 (length lanes) ≡ None → first_from (is_holding held) 0 (length held) ≡ None → jobs_in lanes held ≡ []
  none_left idle free =
      let number : length lanes - 0 ≡ length lanes = omega arith in
      let count : length held - 0 ≡ length held = omega arith in
      ap₂ (λ a b. a ++ b)
      (all_empty (λ lane. lane) lanes [] (λ k inside. no_length (lane_at lanes k)
      (ltb-false 0 (length (lane_at lanes k)) (let at : k ≡ 0 + k = omega arith in ap (is_busy lanes) at ∙ none_found (is_busy lanes) 0 (length lanes - 0) idle k (omega arith)))))
      (all_empty held_jobs held None (λ k inside. not_held (held_at held k)
      (let at : k ≡ 0 + k = omega arith in ap (is_holding held) at ∙ none_found (is_holding held) 0 (length held - 0) free k (omega arith))))

  lanes_idle : jobs_in lanes held ≡ [] → first_from (is_busy lanes) 0 (length lanes) ≡ None
  lanes_idle none = none_is (is_busy lanes) 0 (length lanes - 0) (λ k inside.
      let empty = each_empty (λ lane. lane) lanes [] (both_empty (flat_map (λ lane. lane) lanes) (flat_map held_jobs held) none).0 k (omega arith) in
      let at : 0 + k ≡ k = omega arith in
      ap (is_busy lanes) at ∙ le-ltb 0 (length (lane_at lanes k)) (omega (arith, ap length empty)))

  nothing_held : jobs_in lanes held ≡ [] → first_from (is_holding held) 0 (length held) ≡ None
  nothing_held none = none_is (is_holding held) 0 (length held - 0) (λ k inside.
      let at : 0 + k ≡ k = omega arith in
      ap (is_holding held) at ∙ no_job_held (held_at held k) (each_empty held_jobs held None (both_empty (flat_map (λ lane. lane) lanes) (flat_map held_jobs held) none).1 k (omega arith)))

  -- both tests tell that no job is left
  pub done_tells : is_some (first_from (is_busy lanes) 0 (length lanes)) ≡ false → (free : Bool)
      → is_some (first_from (is_holding held) 0 (length held)) ≡ not free → IsTrue free ↔ (jobs_in lanes held ≡ [])
  done_tells idle true is = (
    λ h. none_left (is_none_from (first_from (is_busy lanes) 0 (length lanes)) idle) (is_none_from (first_from (is_holding held) 0 (length held)) is),
    λ none. refl,
  )
  done_tells idle false is = (λ h. absurd (false≢true h), λ none. sym (ap is_some (nothing_held none)) ∙ is)

  pub not_done_tells : is_some (first_from (is_busy lanes) 0 (length lanes)) ≡ true → (idle : Bool) → idle ≡ false → IsTrue idle ↔ (jobs_in lanes held ≡ [])
  not_done_tells busy idle is = (λ h. absurd (false≢true (sym is ∙ h)), λ none. absurd (false≢true (sym (ap is_some (lanes_idle none)) ∙ busy)))
