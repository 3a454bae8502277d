-- Splits: a job that is not begun, and one split after another.
use Rattle.std.proofs.Common.{◌≡◌, ℕ, ◌+◌, ◌-◌, ◌<◌, ◌≤◌, true, false, List, [], ◌++◌, length, get_or, All, Any, inl, inr, refl, sym, ap, ◌∙◌, subst, arith, length-append}
use Rattle.std.proofs.lemmas.Bool.{cases_lt, false_from_ne_true, true≢false}
use Rattle.std.proofs.lemmas.List.{get_or_default, get_or_append_left, get_or-append_right}
use Rattle.std.proofs.lemmas.List.Elements.{All-nil, All-append}
use Rattle.std.proofs.lemmas.List.Sums.{sum_by-append}
use Rattle.cr_model.specs.Problems.{ProblemParts}
use Rattle.cr_model.specs.Nodes.{part_of, is_prefix, is_above, IsValid, nodes_above, times_found, Independent, Splits}
use Rattle.cr_model.specs.Touches.{Kept}
use Rattle.cr_model.proofs.Prefixes.{begins_itself, begins_onward}

-- a job that is not begun is split into itself
pub not_begun : (p : ProblemParts) (nodes : List (List ℕ)) → All (IsValid p) nodes → Independent p [] nodes → Splits p nodes [] nodes
not_begun p nodes valid independent = record {
  each = λ calling kept. omega arith;
  found_kept = All-nil (λ calling. Kept p calling × (1 ≤ nodes_above p nodes calling));
  rest_valid = λ k d inside. (valid k d inside, (k, get_or nodes k d, inside, get_or_default nodes k (get_or nodes k d) d inside, begins_itself (get_or nodes k d)));
  independent = independent;
}

module _ (p : ProblemParts) (job found rest more left : List (List ℕ)) (one : Splits p job found rest) (two : Splits p rest more left) where
  -- nothing is lost, nothing is there twice
  each : (calling : List ℕ) → Kept p calling → nodes_above p job calling ≡ times_found (found ++ more) calling + nodes_above p left calling
  each calling kept =
      let both : times_found (found ++ more) calling ≡ times_found found calling + times_found more calling = sum_by-append _ found more in
      omega (arith, one.each calling kept, two.each calling kept)

  -- what was found later is kept, and the job had it
  more_kept : All (λ calling. Kept p calling × (1 ≤ nodes_above p job calling)) more
  more_kept k d inside =
      let (kept, some) = two.found_kept k d inside in
      (kept, omega (arith, one.each (get_or more k d) kept))

  -- what is left is valid, and below the job
  left_valid : All (λ node. IsValid p node × Any (λ above. is_prefix above node ≡ true) job) left
  left_valid k d inside =
      let (valid, (i, above, within, at, begins)) = two.rest_valid k d inside in
      let (_, (j, top, within', at', begins')) = one.rest_valid i above within in
      (valid, (j, top, within', at', begins_onward top above (get_or left k d) (subst (λ (node : List ℕ). is_prefix top node ≡ true) at begins') begins))

  -- no node that is left is above what was found first
  apart : (calling node : List ℕ) → Any (λ above. is_prefix above node ≡ true) rest → ((i : ℕ) → i < length rest → is_above p (get_or rest i []) calling ≡ false) → is_above p node calling ≡ false
  apart calling node below none =
      let (i, above, within, at, begins) = below in
      false_from_ne_true (is_above p node calling) (λ h.
      let at' : get_or rest i [] ≡ above = get_or_default rest i [] above within ∙ at in
      true≢false (sym (begins_onward above node (part_of p calling) begins h) ∙ ap (λ n. is_above p n calling) (sym at') ∙ none i within))

  -- no node that is left is above what was found
  found_apart : (i j : ℕ) → i < length left → j < length (found ++ more) → is_above p (get_or left i []) (get_or (found ++ more) j []) ≡ false
  found_apart i j inside within = elim (cases_lt j (length found)) [
    | inl first ↦
        ap (λ calling. is_above p (get_or left i []) calling) (get_or_append_left found more [] j first)
        ∙ apart (get_or found j []) (get_or left i []) (two.rest_valid i [] inside).1 (λ k below. one.independent.found_apart k j below first)
    | inr later ↦
        ap (λ calling. is_above p (get_or left i []) calling) (get_or-append_right found more (length found) j [] refl later)
        ∙ two.independent.found_apart i (j - length found) inside (omega (arith, length-append found more))
  ]

  -- the two splits are one
  pub one_after_another : Splits p job (found ++ more) left
  one_after_another = record {
    each = each;
    found_kept = All-append (λ calling. Kept p calling × (1 ≤ nodes_above p job calling)) found more one.found_kept more_kept;
    rest_valid = left_valid;
    independent = record { nodes_apart = two.independent.nodes_apart; found_apart = found_apart };
  }
