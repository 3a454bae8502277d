-- The order of rows, and when changes are equal.
use Rattle.std.specs.Prelude.{◌≡◌, ℕ, Bool, true, List, length, reverse, nat_eq}
use Rattle.std.specs.Bool.{Decides}
use Rattle.std.specs.Cmp.{IsTotalOrder, IsEquivalence, tied_then}
use Rattle.std.specs.Cmp.Lexicographic.{slice_cmp, pointwise}
use Rattle.std.specs.Ordering.{nat_cmp, on, then_cmp, eq_of_both, is_eq}
use Rattle.std.specs.declared.cmp.Ordering.{Ordering}
use Rattle.std.proofs.Common.{ap, sym, ◌∙◌, subst}
use Rattle.std.proofs.lemmas.Bool.{and_parts}
use Rattle.std.proofs.lemmas.Bool.Decides.{same_from_decides}
use Rattle.std.proofs.lemmas.Cmp.{on_total, then_total, on_equiv, and_equiv, nat_eq_equiv, nat_list_eq_equiv, nat_cmp_total, nat_list_cmp_total, tied_itself}
use Rattle.std.proofs.lemmas.List.{reverse-reverse}
use Rattle.std.proofs.lemmas.Map.Text.{is_eq-slice_cmp}
use Rattle.std.proofs.lemmas.Slice.Eq.{bytes_eq-Decides}
use Rattle.cr_row.specs.Rows.{Places}

-- by the number of bells, and then by the bells from the last place back
abbrev pub row_cmp : List ℕ → List ℕ → Ordering
row_cmp = then_cmp (on length nat_cmp) (on reverse (slice_cmp nat_cmp))

pub row_cmp_total : IsTotalOrder row_cmp
row_cmp_total = then_total (on_total length nat_cmp_total) (on_total reverse nat_list_cmp_total)

-- rows that tie are one
ties_are_one : (a b : List ℕ) → Decides (is_eq (row_cmp a b)) (a ≡ b)
ties_are_one a b = (
  λ e.
      let long = nat_cmp (length a) (length b) in
      let back = slice_cmp nat_cmp (reverse a) (reverse b) in
      let parts = and_parts (is_eq long) (is_eq back) (tied_then long back ∙ e) in
      let turned : reverse a ≡ reverse b =
      (bytes_eq-Decides (reverse a) (reverse b)).0 (sym (is_eq-slice_cmp (reverse a) (reverse b)) ∙ parts.1) in
      sym (reverse-reverse a) ∙ ap reverse turned ∙ reverse-reverse b,
  λ e. subst (λ (l : List ℕ). is_eq (row_cmp a l) ≡ true) e (ap is_eq (tied_itself row_cmp_total a)),
)

pub row_eq_ties : (a b : List ℕ) → pointwise nat_eq a b ≡ is_eq (row_cmp a b)
row_eq_ties a b =
    same_from_decides (pointwise nat_eq a b) (is_eq (row_cmp a b)) (bytes_eq-Decides a b) (ties_are_one a b)

-- one stage, and the same places made
abbrev pub places_eq : Places → Places → Bool
places_eq = eq_of_both (on (λ c. c.stage) nat_eq) (on (λ c. c.made) (pointwise nat_eq))

pub places_eq_equiv : IsEquivalence places_eq
places_eq_equiv =
    and_equiv (on_equiv (λ (c : Places). c.stage) nat_eq_equiv) (on_equiv (λ (c : Places). c.made) nat_list_eq_equiv)
