-- The row before a row is its product with the inverse of the lead's head.
use Rattle.std.proofs.Common.{◌≡◌, ℕ, ◌+◌, List, [], ◌∷◌, ◌++◌, length, map, reverse, refl, sym, ap, ap₂, ◌∙◌, arith}
use Rattle.std.proofs.lemmas.List.{append-nil, map-append}
use Rattle.std.proofs.lemmas.List.FromFn.{map-range_with_len_more}
use Rattle.cr_row.specs.Rows.{IsRow, Places, rounds, product, IsInverse, after}
use Rattle.cr_model.specs.Problems.{ProblemParts}
use Rattle.cr_model.specs.Callings.{changes_of, rows_from, last_of, head_of}
use Rattle.cr_model.specs.Levels.{head_from, row_before}
use Rattle.cr_model.proofs.RingingBack.{back_and_there}
use Rattle.cr_leads.specs.Tables.{TableParts, lead_table}
use Rattle.cr_reach.specs.Spreading.{LeadBack}

-- the laws that this rests on
pub record BackLaws : Type 0 where
  pub rung : (stage : ℕ) (row : List ℕ) (changes : List Places) → length row ≡ stage
      → rows_from row changes ≡ map (product row) (rows_from (rounds stage) changes)
  pub long : (c : Places) (r : List ℕ) → length (after c r) ≡ length r
  pub twice : (c : Places) (r : List ℕ) → after c (after c r) ≡ r
  pub associates : (g h r : List ℕ) → IsRow r → length h ≡ length r → product (product g h) r ≡ product g (product h r)
  pub product_long : (h r : List ℕ) → length (product h r) ≡ length r
  pub neutral : (h : List ℕ) → product h (rounds (length h)) ≡ h
  pub cancel : (g h r : List ℕ) → IsRow r → length g ≡ length r → length h ≡ length r → product g r ≡ product h r → g ≡ h

-- the last of mapped rows
last_mapped : (f : List ℕ → List ℕ) (row : List ℕ) (rows : List (List ℕ)) → last_of (f row) (map f rows) ≡ f (last_of row rows)
last_mapped f row [] = refl
last_mapped f row (next ∷ rows) = last_mapped f next rows

-- changes keep the number of bells
head_long : BackLaws → (row : List ℕ) (changes : List Places) → length (head_from row changes) ≡ length row
head_long laws row [] = refl
head_long laws row (change ∷ changes) = head_long laws (after change row) changes ∙ laws.long change row

-- a lead rung from a row gives its product with the lead's head
lead_multiplies : BackLaws → (p : ProblemParts) (row : List ℕ) (step : ℕ) → length row ≡ p.stage
    → head_from row (changes_of p step) ≡ product row (head_of p (step ∷ []))
lead_multiplies laws p row step long =
    ap₂ last_of
    (sym (laws.neutral row) ∙ ap (λ n. product row (rounds n)) long)
    (laws.rung p.stage row (changes_of p step) long)
    ∙ last_mapped (product row) (rounds p.stage) (rows_from (rounds p.stage) (changes_of p step))
    ∙ ap (λ changes. product row (head_from (rounds p.stage) changes)) (sym (append-nil (changes_of p step)))

-- the row before a row
pub before_is : BackLaws → (p : ProblemParts) (row head inverse : List ℕ) (step : ℕ) → length row ≡ p.stage
    → head ≡ head_of p (step ∷ []) → IsRow head → length head ≡ p.stage → length inverse ≡ length head → IsInverse head inverse
    → product row inverse ≡ row_before p row step
before_is laws p row head inverse step long is is_row head_is inverse_is undoes =
    let before = row_before p row step in
    let before_long : length before ≡ p.stage = head_long laws row (reverse (changes_of p step)) ∙ long in
    let on : product before head ≡ row =
    ap (product before) is ∙ sym (lead_multiplies laws p before step before_long) ∙ back_and_there laws.twice row (changes_of p step) in
    let back : product (product row inverse) head ≡ row =
    laws.associates row inverse head is_row inverse_is ∙ ap (product row) undoes.left
    ∙ ap (λ n. product row (rounds n)) (head_is ∙ sym long) ∙ laws.neutral row in
    laws.cancel (product row inverse) before head is_row (laws.product_long row inverse ∙ inverse_is) (before_long ∙ sym head_is) (back ∙ sym on)

-- one step more
pub lead_back_more : BackLaws → (table : TableParts) (step : ℕ) (inverses : List (List ℕ)) (head inverse : List ℕ)
    → LeadBack table step inverses → ((p : ProblemParts) → table ≡ lead_table p → head ≡ head_of p (step ∷ []))
    → IsRow head → length head ≡ table.stage → length inverse ≡ length head → IsInverse head inverse
    → LeadBack table (step + 1) (inverses ++ inverse ∷ [])
lead_back_more laws table step inverses head inverse so_far of_problem is_row head_is inverse_is undoes p is row long =
    let staged : table.stage ≡ p.stage = ap (λ (t : TableParts). t.stage) is in
    map-append (product row) inverses (inverse ∷ [])
    ∙ ap₂ (λ (xs : List (List ℕ)) (x : List ℕ). xs ++ x ∷ []) (so_far p is row long)
    (before_is laws p row head inverse step (long ∙ staged) (of_problem p is) is_row (head_is ∙ staged) inverse_is undoes)
    ∙ sym (map-range_with_len_more (row_before p row) 0 step step (omega arith))
