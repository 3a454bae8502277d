-- Steps rung one after another, by the rows that each has from rounds.
use Rattle.std.proofs.Common.{◌≡◌, ℕ, ◌+◌, ◌<◌, List, [], ◌∷◌, ◌++◌, length, get_or, map, take, sym, ap, ap₂, ◌∙◌, subst}
use Rattle.std.proofs.lemmas.List.{take_more}
use Rattle.std.proofs.lemmas.List.Elements.{All-map, All-append, All-weaker}
use Rattle.cr_row.specs.Rows.{IsRow, rounds, product}
use Rattle.cr_model.proofs.Ringing.{last_of-append}
use Rattle.cr_model.specs.Problems.{ProblemParts}
use Rattle.cr_model.specs.Callings.{last_of, rows_of, head_of}
use Rattle.cr_leads.specs.Tables.{TableParts, lead_table, AreRows}
use Rattle.cr_leads.proofs.LastRows.{last_holds}

-- the laws of products that ringing by leads rests on
pub record ProductLaws : Type 0 where
  pub rows : (p : ProblemParts) (calling more : List ℕ) → rows_of p (calling ++ more) ≡ rows_of p calling ++ map (product (head_of p calling)) (rows_of p more)
  pub row : (h r : List ℕ) → IsRow h → IsRow r → length h ≡ length r → IsRow (product h r)
  pub long : (h r : List ℕ) → length (product h r) ≡ length r

-- heads multiply
abbrev pub Heads : Type 0
Heads = (p : ProblemParts) (calling more : List ℕ) → head_of p (calling ++ more) ≡ product (head_of p calling) (head_of p more)

-- a row of a stage
abbrev pub IsRowOf : ℕ → List ℕ → Type 0
IsRowOf stage row = IsRow row × (length row ≡ stage)

-- the head after the steps below an index
pub record IsHead (table : TableParts) (steps : List ℕ) (index : ℕ) (head : List ℕ) : Type 0 where
  pub is : (p : ProblemParts) → table ≡ lead_table p → head ≡ head_of p (take index steps)
  pub row : IsRowOf table.stage head

-- the rows of the steps below an index, and the last of them
pub record AreRung (table : TableParts) (steps : List ℕ) (index : ℕ) (head : List ℕ) (rows : List (List ℕ)) : Type 0 where
  pub is : (p : ProblemParts) → table ≡ lead_table p → rows ≡ rows_of p (take index steps)
  pub last : head ≡ last_of (rounds table.stage) rows
  pub are_rows : AreRows table.stage rows
  pub row : IsRowOf table.stage head

-- a product of rows of a stage
product_row : ProductLaws → (stage : ℕ) (head row : List ℕ) → IsRowOf stage head → IsRowOf stage row
    → IsRowOf stage (product head row)
product_row laws stage head row h r = (laws.row head row h.0 r.0 (h.1 ∙ sym r.1), laws.long head row ∙ r.1)

products_are_rows : ProductLaws → (stage : ℕ) (head : List ℕ) (lead : List (List ℕ)) → IsRowOf stage head
    → AreRows stage lead
    → AreRows stage (map (product head) lead)
products_are_rows laws stage head lead h all =
    All-map (IsRowOf stage) (product head) lead (All-weaker (IsRowOf stage) (λ row. IsRowOf stage (product head row)) (λ row r. product_row laws stage head row h r) lead all)

-- one more step
taken : (steps : List ℕ) (index step : ℕ) → index < length steps → step ≡ get_or steps index 0
    → take (index + 1) steps ≡ take index steps ++ step ∷ []
taken steps index step within at = take_more steps index 0 within ∙ ap (λ s. take index steps ++ s ∷ []) (sym at)

pub head_more : Heads → (table : TableParts) (steps : List ℕ) (index step : ℕ) (head next : List ℕ)
    → IsHead table steps index head → index < length steps → step ≡ get_or steps index 0
    → ((p : ProblemParts) → table ≡ lead_table p → next ≡ product head (head_of p (step ∷ []))) → IsRowOf table.stage next
    → IsHead table steps (index + 1) next
head_more heads table steps index step head next before within at is row = record {
  is = λ p table_is.
      is p table_is
      ∙ ap (λ h. product h (head_of p (step ∷ []))) (before.is p table_is)
      ∙ sym (heads p (take index steps) (step ∷ []))
      ∙ ap (head_of p) (sym (taken steps index step within at));
  row = row;
}

pub rows_more : ProductLaws
    → (table : TableParts) (steps : List ℕ) (index step : ℕ) (head next : List ℕ) (rows lead now : List (List ℕ))
    → AreRung table steps index head rows → index < length steps → step ≡ get_or steps index 0
    → ((p : ProblemParts) → table ≡ lead_table p → lead ≡ rows_of p (step ∷ [])) → AreRows table.stage lead
    → now ≡ rows ++ map (product head) lead → next ≡ last_of head (map (product head) lead)
    → AreRung table steps (index + 1) next now
rows_more laws table steps index step head next rows lead now before within at of_problem all is last_is =
    let more = map (product head) lead in
    let are : AreRows table.stage more = products_are_rows laws table.stage head lead before.row all in
    record {
      is = λ p table_is.
          let came : head ≡ head_of p (take index steps) =
          before.last ∙ ap₂ (λ (t : TableParts) rung. last_of (rounds t.stage) rung) table_is (before.is p table_is) in
          is
          ∙ ap₂ (λ rung lead_rows. rung ++ map (product head) lead_rows) (before.is p table_is) (of_problem p table_is)
          ∙ ap (λ row. rows_of p (take index steps) ++ map (product row) (rows_of p (step ∷ []))) came
          ∙ sym (laws.rows p (take index steps) (step ∷ []))
          ∙ ap (rows_of p) (sym (taken steps index step within at));
      last = last_is ∙ ap (λ row. last_of row more) before.last ∙ sym (last_of-append (rounds table.stage) rows more) ∙ ap (last_of (rounds table.stage)) (sym is);
      are_rows = subst (AreRows table.stage) (sym is) (All-append (IsRowOf table.stage) rows more before.are_rows are);
      row = subst (IsRowOf table.stage) (sym last_is) (last_holds (IsRowOf table.stage) head more before.row are);
    }
