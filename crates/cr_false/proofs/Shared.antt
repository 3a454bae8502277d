-- Two leads rung from two heads share a row exactly where the row between the heads is false.
use Rattle.std.proofs.Common.{◌≡◌, ◌↔◌, ℕ, ◌<◌, List, [], ◌∷◌, length, map, refl, sym, ap, ◌∙◌, subst, append-nil}
use Rattle.std.specs.Prelude.{Contains}
use Rattle.std.proofs.lemmas.List.Elements.{All-nil, All-cons, All-contains}
use Rattle.cr_row.specs.Rows.{Places, IsRow, rounds, product, IsInverse, after}
use Rattle.cr_model.specs.Problems.{ProblemParts}
use Rattle.cr_model.specs.Callings.{changes_of, rows_from}
use Rattle.cr_leads.specs.Tables.{AreRows, lead_table, lead_rows, rows_of_step, leads_counted}
use Rattle.cr_false.specs.Sets.{IsFalse, ShareARow}
use Rattle.cr_false.proofs.Adding.{in_map, from_map}

-- the laws that shared rows rest on
pub record Laws : Type 0 where
  pub rung : (stage : ℕ) (row : List ℕ) (changes : List Places) → length row ≡ stage → rows_from row changes ≡ map (product row) (rows_from (rounds stage) changes)
  pub after_row : (c : Places) (r : List ℕ) → IsRow r → IsRow (after c r)
  pub after_long : (c : Places) (r : List ℕ) → length (after c r) ≡ length r
  pub associates : (g h r : List ℕ) → IsRow r → length h ≡ length r → product (product g h) r ≡ product g (product h r)
  pub product_row : (h r : List ℕ) → IsRow h → IsRow r → length h ≡ length r → IsRow (product h r)
  pub product_long : (h r : List ℕ) → length (product h r) ≡ length r
  pub rounds_row : (n : ℕ) → IsRow (rounds n)
  pub rounds_long : (n : ℕ) → length (rounds n) ≡ n
  pub left : (r : List ℕ) → IsRow r → product (rounds (length r)) r ≡ r

-- changes rung from a row make rows
pub rung_are_rows : Laws → (stage : ℕ) (row : List ℕ) (changes : List Places) → IsRow row → length row ≡ stage → AreRows stage (rows_from row changes)
rung_are_rows laws stage row [] is long = All-nil (λ row. IsRow row × (length row ≡ stage))
rung_are_rows laws stage row (change ∷ changes) is long =
    let next : length (after change row) ≡ stage = laws.after_long change row ∙ long in
    All-cons (λ row. IsRow row × (length row ≡ stage)) (after change row) (rows_from (after change row) changes) (laws.after_row change row is, next)
    (rung_are_rows laws stage (after change row) changes (laws.after_row change row is) next)

module _ (laws : Laws) (stage : ℕ) (h k inverse r s : List ℕ) (h_row : IsRow h) (k_row : IsRow k) (h_long : length h ≡ stage) (k_long : length k ≡ stage)
    (undoes : IsInverse h inverse) (r_row : IsRow r) (s_row : IsRow s) (r_long : length r ≡ stage) (s_long : length s ≡ stage) where
  inverse_long : length inverse ≡ stage
  inverse_long = sym (laws.product_long h inverse) ∙ ap length undoes.right ∙ laws.rounds_long (length h) ∙ h_long

  -- h·(h⁻¹·k)·s = k·s
  forth : product (product inverse k) s ≡ r → product h r ≡ product k s
  forth e =
      let further : product (product inverse k) s ≡ product inverse (product k s) = laws.associates inverse k s s_row (k_long ∙ sym s_long) in
      let row : IsRow (product k s) = laws.product_row k s k_row s_row (k_long ∙ sym s_long) in
      let long : length (product k s) ≡ stage = laws.product_long k s ∙ s_long in
      ap (product h) (sym e ∙ further) ∙ sym (laws.associates h inverse (product k s) row (inverse_long ∙ sym long))
      ∙ ap (λ x. product x (product k s)) (undoes.right ∙ ap rounds (h_long ∙ sym long)) ∙ laws.left (product k s) row

  back : product h r ≡ product k s → product (product inverse k) s ≡ r
  back e =
      laws.associates inverse k s s_row (k_long ∙ sym s_long) ∙ ap (product inverse) (sym e) ∙ sym (laws.associates inverse h r r_row (h_long ∙ sym r_long))
      ∙ ap (λ x. product x r) (undoes.left ∙ ap rounds (h_long ∙ sym r_long)) ∙ laws.left r r_row

module _ (laws : Laws) (stage : ℕ) (h k inverse : List ℕ) (rows others : List (List ℕ)) (h_row : IsRow h) (k_row : IsRow k) (h_long : length h ≡ stage)
    (k_long : length k ≡ stage) (undoes : IsInverse h inverse) (rows_are : AreRows stage rows) (others_are : AreRows stage others) where
  of_rows : (r : List ℕ) → Contains rows r → IsRow r × (length r ≡ stage)
  of_rows r has = All-contains (λ row. IsRow row × (length row ≡ stage)) rows r rows_are has

  of_others : (s : List ℕ) → Contains others s → IsRow s × (length s ≡ stage)
  of_others s has = All-contains (λ row. IsRow row × (length row ≡ stage)) others s others_are has

  pub shared : IsFalse rows others (product inverse k) ↔ ShareARow (map (product h) rows) (map (product k) others)
  shared = (
    λ f.
        let one = of_rows f.first f.has_first in
        let two = of_others f.second f.has_second in
        let same = forth laws stage h k inverse f.first f.second h_row k_row h_long k_long undoes one.0 two.0 one.1 two.1 f.is in
        record {
          shared = product h f.first;
          has_first = in_map (product h) rows f.first f.has_first;
          has_second = subst (λ (x : List ℕ). Contains (map (product k) others) x) (sym same) (in_map (product k) others f.second f.has_second);
        },
    λ both.
        let (r, has_r, is_r) = from_map (product h) rows both.shared both.has_first in
        let (s, has_s, is_s) = from_map (product k) others both.shared both.has_second in
        let one = of_rows r has_r in
        let two = of_others s has_s in
        record {
          first = r;
          second = s;
          has_first = has_r;
          has_second = has_s;
          same_length = laws.product_long inverse k ∙ k_long ∙ sym two.1;
          is = back laws stage h k inverse r s h_row k_row h_long k_long undoes one.0 two.0 one.1 two.1 (sym is_r ∙ is_s);
        },
  )

-- the rows of a step of a problem's lead table
pub step_rows : (p : ProblemParts) (step : ℕ) → step < length p.leads → lead_rows (lead_table p) step ≡ rows_from (rounds p.stage) (changes_of p step)
step_rows p step within =
    rows_of_step (lead_table p) p step refl (subst (λ n. step < n) (sym (leads_counted (lead_table p) p refl)) within)
    ∙ ap (rows_from (rounds p.stage)) (append-nil (changes_of p step))

pub shared_rung : Laws → (p : ProblemParts) (a b : ℕ) (h k inverse : List ℕ) → a < length p.leads → b < length p.leads
    → IsRow h → IsRow k → length h ≡ p.stage → length k ≡ p.stage → IsInverse h inverse
    → IsFalse (lead_rows (lead_table p) a) (lead_rows (lead_table p) b) (product inverse k) ↔ ShareARow (rows_from h (changes_of p a)) (rows_from k (changes_of p b))
shared_rung laws p a b h k inverse a_in b_in h_row k_row h_long k_long undoes =
    let rows = rows_from (rounds p.stage) (changes_of p a) in
    let others = rows_from (rounds p.stage) (changes_of p b) in
    let rows_are : AreRows p.stage rows = rung_are_rows laws p.stage (rounds p.stage) (changes_of p a) (laws.rounds_row p.stage) (laws.rounds_long p.stage) in
    let others_are : AreRows p.stage others = rung_are_rows laws p.stage (rounds p.stage) (changes_of p b) (laws.rounds_row p.stage) (laws.rounds_long p.stage) in
    rw (step_rows p a a_in, step_rows p b b_in, laws.rung p.stage h (changes_of p a) h_long, laws.rung p.stage k (changes_of p b) k_long)
    (shared laws p.stage h k inverse rows others h_row k_row h_long k_long undoes rows_are others_are)
