-- The ends of a node, with the last one changed, one more and one less.
use Rattle.std.proofs.Common.{◌≡◌, ℕ, ◌+◌, ◌-◌, ◌<◌, List, [], ◌∷◌, ◌++◌, length, get_or, take, sym, ap, ◌∙◌, subst, inl, inr, arith}
use Rattle.std.proofs.lemmas.Bool.{cases_eq}
use Rattle.std.proofs.lemmas.List.{get_or_append_left, get_or_push, get_or-take, length_push, length-take-le, take_all, take-append-le, take-take}
use Rattle.cr_model.specs.Problems.{ProblemParts}
use Rattle.cr_model.specs.Sizes.{child}
use Rattle.cr_path.specs.declared.walks.ends.LeadEnd.{LeadEnd}
use Rattle.cr_path.specs.Ends.{final_step, IsEnd, AreEnds}
use Rattle.cr_path.specs.Numbers.{NumberParts}
use Rattle.cr_path.specs.Sets.{AreUncut}

module _ (p : ProblemParts) (t : NumberParts) (node : List ℕ) (next : ℕ) (ends : List LeadEnd) (end : LeadEnd) (are : AreEnds p t node next (ends ++ end ∷ [])) where
  counted : length ends ≡ length node
  counted = omega (arith, are.number, length_push ends end)

  -- the last one is the node's
  pub last_end : IsEnd p t node end
  last_end =
      subst (λ word. IsEnd p t word end) (take_all (length node) node (omega arith))
      (subst (IsEnd p t (take (length node) node)) (get_or_push ends end end (length node) counted) (are.each (length node) end (omega arith)))

  pub last_left : AreUncut p node next end.left
  last_left = subst (λ (e : LeadEnd). AreUncut p node next e.left) (get_or_push ends end end (length node) counted) (are.left end)

  -- with other children left
  pub left_kept : (after left : ℕ) → AreUncut p node after left → AreEnds p t node after (ends ++ record { base = end.base; rung = end.rung; left = left; round = end.round } ∷ [])
  left_kept after left uncut =
      let other : LeadEnd = record { base = end.base; rung = end.rung; left = left; round = end.round } in
      let is = last_end in
      let at_other : IsEnd p t node other = record { from = is.from; by_records = is.by_records; long = is.long; round = is.round } in
      let same : (i : ℕ) (d : LeadEnd) → i < length ends → get_or (ends ++ end ∷ []) i d ≡ get_or (ends ++ other ∷ []) i d =
      (λ i d low. get_or_append_left ends (end ∷ []) d i low ∙ sym (get_or_append_left ends (other ∷ []) d i low)) in
      record {
        number = omega (arith, counted, length_push ends other);
        each = λ i d within. elim (cases_eq i (length ends)) [
          | inl here ↦
              subst (IsEnd p t (take i node)) (sym (get_or_push ends other d i (sym here)))
              (subst (λ word. IsEnd p t word other) (sym (take_all i node (omega (arith, here, counted)))) at_other)
          | inr differs ↦ subst (IsEnd p t (take i node)) (same i d (omega (arith, within, counted, differs))) (are.each i d within)
        ];
        tried = λ i d low. subst (λ (e : LeadEnd). AreUncut p (take i node) (get_or node i 0 + 1) e.left) (same i d (omega (arith, low, counted))) (are.tried i d low);
        left = λ d. subst (λ (e : LeadEnd). AreUncut p node after e.left) (sym (get_or_push ends other d (length node) counted)) uncut;
      }

-- one end more
pub end_more : (p : ProblemParts) (t : NumberParts) (node : List ℕ) (step after : ℕ) (ends : List LeadEnd) (end : LeadEnd) → AreEnds p t node (step + 1) ends → IsEnd p t (child node step) end
    → AreUncut p (child node step) after end.left → AreEnds p t (child node step) after (ends ++ end ∷ [])
end_more p t node step after ends end are is uncut =
    let more : length (child node step) ≡ length node + 1 = length_push node step in
    let front : (i : ℕ) → i < length ends → take i (child node step) ≡ take i node = (λ i low. take-append-le i node (step ∷ []) (omega (arith, low, are.number))) in
    let same : (i : ℕ) (d : LeadEnd) → i < length ends → get_or ends i d ≡ get_or (ends ++ end ∷ []) i d = (λ i d low. sym (get_or_append_left ends (end ∷ []) d i low)) in
    record {
      number = omega (arith, are.number, more, length_push ends end);
      each = λ i d within. elim (cases_eq i (length ends)) [
        | inl here ↦
            subst (IsEnd p t (take i (child node step))) (sym (get_or_push ends end d i (sym here)))
            (subst (λ word. IsEnd p t word end) (sym (take_all i (child node step) (omega (arith, here, are.number, more)))) is)
        | inr differs ↦
            let low : i < length ends = omega (arith, within, more, are.number, differs) in
            subst (λ word. IsEnd p t word (get_or (ends ++ end ∷ []) i d)) (sym (front i low))
            (subst (IsEnd p t (take i node)) (same i d low) (are.each i d (omega (arith, low, are.number))))
      ];
      tried = λ i d low.
          let inside : i < length ends = omega (arith, low, more, are.number) in
          subst (λ (e : LeadEnd). AreUncut p (take i (child node step)) (get_or (child node step) i 0 + 1) e.left) (same i d inside)
          (subst (λ word. AreUncut p word (get_or (child node step) i 0 + 1) (get_or ends i d).left) (sym (front i inside))
          (elim (cases_eq i (length node)) [
            | inl here ↦
                let at_step : get_or (child node step) i 0 ≡ step = get_or_push node step 0 i (sym here) in
                let whole : take i node ≡ node = take_all i node (omega (arith, here)) in
                let place : get_or ends (length node) d ≡ get_or ends i d = ap (λ n. get_or ends n d) (sym here) in
                subst (λ n. AreUncut p (take i node) (n + 1) (get_or ends i d).left) (sym at_step)
                (subst (λ word. AreUncut p word (step + 1) (get_or ends i d).left) (sym whole)
                (subst (λ (e : LeadEnd). AreUncut p node (step + 1) e.left) place (are.left d)))
            | inr differs ↦
                let before : i < length node = omega (arith, low, more, differs) in
                subst (λ n. AreUncut p (take i node) (n + 1) (get_or ends i d).left) (sym (get_or_append_left node (step ∷ []) 0 i before)) (are.tried i d before)
          ]));
      left = λ d. subst (λ (e : LeadEnd). AreUncut p (child node step) after e.left) (sym (get_or_push ends end d (length (child node step)) (omega (arith, are.number, more)))) uncut;
    }

-- one end less
pub end_less : (p : ProblemParts) (t : NumberParts) (node : List ℕ) (next : ℕ) (ends : List LeadEnd) (end : LeadEnd) → 0 < length node → AreEnds p t node next (ends ++ end ∷ [])
    → AreEnds p t (take (length node - 1) node) (final_step node + 1) ends
end_less p t node next ends end some are =
    let counted : length ends ≡ length node = omega (arith, are.number, length_push ends end) in
    let less : length (take (length node - 1) node) ≡ length node - 1 = length-take-le (length node - 1) node (omega arith) in
    let same : (i : ℕ) (d : LeadEnd) → i < length ends → get_or (ends ++ end ∷ []) i d ≡ get_or ends i d = (λ i d low. get_or_append_left ends (end ∷ []) d i low) in
    record {
      number = omega (arith, less, counted, some);
      each = λ i d within.
          let low : i < length ends = omega (arith, within, less, counted, some) in
          subst (λ word. IsEnd p t word (get_or ends i d)) (sym (take-take i (length node - 1) node (omega (arith, within, less))))
          (subst (IsEnd p t (take i node)) (same i d low) (are.each i d (omega (arith, within, less))));
      tried = λ i d below.
          let low : i < length ends = omega (arith, below, less, counted, some) in
          let at_step : get_or (take (length node - 1) node) i 0 ≡ get_or node i 0 = get_or-take (length node - 1) node i 0 (omega (arith, below, less)) in
          subst (λ word. AreUncut p word (get_or (take (length node - 1) node) i 0 + 1) (get_or ends i d).left) (sym (take-take i (length node - 1) node (omega (arith, below, less))))
          (subst (λ n. AreUncut p (take i node) (n + 1) (get_or ends i d).left) (sym at_step)
          (subst (λ (e : LeadEnd). AreUncut p (take i node) (get_or node i 0 + 1) e.left) (same i d low) (are.tried i d (omega (arith, below, less)))));
      left = λ d.
          let low : length node - 1 < length ends = omega (arith, counted, some) in
          let place : get_or ends (length node - 1) d ≡ get_or ends (length (take (length node - 1) node)) d = ap (λ n. get_or ends n d) (sym less) in
          subst (λ (e : LeadEnd). AreUncut p (take (length node - 1) node) (final_step node + 1) e.left) (same (length node - 1) d low ∙ place) (are.tried (length node - 1) d (omega (arith, some)));
    }
