-- A split of some nodes among others.
use Rattle.std.proofs.Common.{◌≡◌, ◌≢◌, ℕ, ◌+◌, ◌-◌, ◌<◌, true, false, cond, List, [], ◌++◌, length, get_or, All, Any, Contains, inl, inr, refl, sym, ap, ap₂, ◌∙◌, arith, length-append}
use Rattle.std.proofs.lemmas.Bool.{cases_lt, true≢false, false_from_ne_true}
use Rattle.std.proofs.lemmas.List.{get_or_default, get_or_append_left, get_or-append_right}
use Rattle.std.proofs.lemmas.List.Elements.{All-append}
use Rattle.std.proofs.lemmas.List.Sums.{sum_by-append}
use Rattle.cr_model.specs.Problems.{ProblemParts}
use Rattle.cr_model.specs.Nodes.{part_of, is_prefix, is_above, IsValid, nodes_above, Independent, Splits}
use Rattle.cr_model.proofs.Counting.{passing}
use Rattle.cr_model.proofs.Prefixes.{begins_itself, begins_onward, one_begins}

module _ (p : ProblemParts) (job found rest others : List (List ℕ)) (one : Splits p job found rest) (valid : All (IsValid p) others) (apart : Independent p [] (others ++ job)) where
  -- one of the others and one of the job don't begin each other
  other_job_apart : (i k : ℕ) → i < length others → k < length job → (is_prefix (get_or others i []) (get_or job k []) ≡ false) × (is_prefix (get_or job k []) (get_or others i []) ≡ false)
  other_job_apart i k inside within =
      let first : get_or (others ++ job) i [] ≡ get_or others i [] = get_or_append_left others job [] i inside in
      let place : length others + k - length others ≡ k = omega arith in
      let second : get_or (others ++ job) (length others + k) [] ≡ get_or job k [] = get_or-append_right others job (length others) (length others + k) [] refl (omega arith) ∙ ap (λ n. get_or job n []) place in (
        ap₂ is_prefix (sym first) (sym second) ∙ apart.nodes_apart i (length others + k) (omega (arith, length-append others job)) (omega (arith, length-append others job)) (λ e. omega arith),
        ap₂ is_prefix (sym second) (sym first) ∙ apart.nodes_apart (length others + k) i (omega (arith, length-append others job)) (omega (arith, length-append others job)) (λ e. omega arith),
      )

  -- so none of the others begins what one of the job begins, or the other way round
  not_begun_too : (i : ℕ) (node steps : List ℕ) → i < length others → Contains job node → is_prefix node steps ≡ true → is_prefix (get_or others i []) steps ≡ true → ⊥
  not_begun_too i node steps inside held begins too =
      let at : get_or job held.0 [] ≡ node = get_or_default job held.0 [] node held.1 ∙ held.2 in
      let both = other_job_apart i held.0 inside held.1 in
      elim (one_begins (get_or others i []) node steps too begins) [
        | inl h ↦ true≢false (sym h ∙ ap (is_prefix (get_or others i [])) (sym at) ∙ both.0)
        | inr h ↦ true≢false (sym h ∙ ap (λ n. is_prefix n (get_or others i [])) (sym at) ∙ both.1)
      ]

  -- what is left begins with one of the job
  job_of : (k : ℕ) → k < length rest → (node : List ℕ) × Contains job node × (is_prefix node (get_or rest k []) ≡ true)
  job_of k inside =
      let (i, above, within, at, begins) = (one.rest_valid k [] inside).1 in
      (above, (i, within, at), begins)

  -- two places of the others and what is left
  nodes_apart : (i j : ℕ) → i < length (others ++ rest) → j < length (others ++ rest) → i ≢ j → is_prefix (get_or (others ++ rest) i []) (get_or (others ++ rest) j []) ≡ false
  nodes_apart i j inside within differ = elim (cases_lt i (length others)) [
    | inl first ↦ elim (cases_lt j (length others)) [
      | inl second ↦
          ap₂ is_prefix (get_or_append_left others rest [] i first ∙ sym (get_or_append_left others job [] i first)) (get_or_append_left others rest [] j second ∙ sym (get_or_append_left others job [] j second))
          ∙ apart.nodes_apart i j (omega (arith, length-append others job)) (omega (arith, length-append others job)) differ
      | inr second ↦
          let short : j - length others < length rest = omega (arith, length-append others rest) in
          let (node, held, begins) = job_of (j - length others) short in
          ap₂ is_prefix (get_or_append_left others rest [] i first) (get_or-append_right others rest (length others) j [] refl second)
          ∙ false_from_ne_true (is_prefix (get_or others i []) (get_or rest (j - length others) [])) (λ h. not_begun_too i node (get_or rest (j - length others) []) first held begins h)
    ]
    | inr first ↦
        let short : i - length others < length rest = omega (arith, length-append others rest) in
        elim (cases_lt j (length others)) [
          | inl second ↦
              let (node, held, begins) = job_of (i - length others) short in
              ap₂ is_prefix (get_or-append_right others rest (length others) i [] refl first) (get_or_append_left others rest [] j second)
              ∙ false_from_ne_true (is_prefix (get_or rest (i - length others) []) (get_or others j [])) (λ h.
              not_begun_too j node (get_or others j []) second held (begins_onward node (get_or rest (i - length others) []) (get_or others j []) begins h) (begins_itself (get_or others j [])))
          | inr second ↦
              ap₂ is_prefix (get_or-append_right others rest (length others) i [] refl first) (get_or-append_right others rest (length others) j [] refl second)
              ∙ one.independent.nodes_apart (i - length others) (j - length others) short (omega (arith, length-append others rest)) (λ e. differ (omega arith))
        ]
  ]

  -- and none of them is above what was found
  found_apart : (i j : ℕ) → i < length (others ++ rest) → j < length found → is_above p (get_or (others ++ rest) i []) (get_or found j []) ≡ false
  found_apart i j inside within = elim (cases_lt i (length others)) [
    | inl first ↦
        let (kept, some) = one.found_kept j [] within in
        let (node, held, above) = passing (λ n. is_above p n (get_or found j [])) job some in
        ap (λ n. is_above p n (get_or found j [])) (get_or_append_left others rest [] i first)
        ∙ false_from_ne_true (is_above p (get_or others i []) (get_or found j [])) (λ h. not_begun_too i node (part_of p (get_or found j [])) first held above h)
    | inr second ↦
        ap (λ n. is_above p n (get_or found j [])) (get_or-append_right others rest (length others) i [] refl second)
        ∙ one.independent.found_apart (i - length others) j (omega (arith, length-append others rest)) within
  ]

  -- nodes above a touch, in joined lists
  joined_above : (more : List (List ℕ)) (calling : List ℕ) → nodes_above p (others ++ more) calling ≡ nodes_above p others calling + nodes_above p more calling
  joined_above more calling = sum_by-append (λ n. cond (is_above p n calling) 1 0) others more

  -- one of the job, among all
  any_later : (P : List ℕ → Type 0) → Any P job → Any P (others ++ job)
  any_later P h =
      let place : length others + h.0 - length others ≡ h.0 = omega arith in
      let inside : h.0 < length job = h.2 in
      (length others + h.0, h.1, omega (arith, length-append others job), get_or-append_right others job (length others) (length others + h.0) h.1 refl (omega arith) ∙ ap (λ n. get_or job n h.1) place ∙ h.3, h.4)

  -- the split of all
  pub among_others : Splits p (others ++ job) found (others ++ rest)
  among_others = record {
    each = λ calling kept. omega (arith, one.each calling kept, joined_above job calling, joined_above rest calling);
    found_kept = λ k d inside. let (kept, some) = one.found_kept k d inside in (kept, omega (arith, joined_above job (get_or found k d)));
    rest_valid = All-append (λ node. IsValid p node × Any (λ above. is_prefix above node ≡ true) (others ++ job)) others rest
        (λ k d inside. (valid k d inside, (k, get_or others k d, omega (arith, length-append others job), get_or_append_left others job (get_or others k d) k inside ∙ get_or_default others k (get_or others k d) d inside, begins_itself (get_or others k d))))
        (λ k d inside. let (is_valid, begun) = one.rest_valid k d inside in (is_valid, any_later (λ above. is_prefix above (get_or rest k d) ≡ true) begun));
    independent = record { nodes_apart = nodes_apart; found_apart = found_apart };
  }
