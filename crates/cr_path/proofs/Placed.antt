-- Rows by their places among others.
use Rattle.std.proofs.Common.{◌≡◌, ℕ, ◌+◌, ◌<◌, List, [], ◌∷◌, ◌++◌, length, get_or, map, inl, inr, refl, sym, ap, ap₂, ◌∙◌, subst, arith, length-append}
use Rattle.std.specs.Prelude.{All}
use Rattle.std.proofs.lemmas.Bool.{cases_eq}
use Rattle.std.proofs.lemmas.List.{length-map, get_or-map, get_or_append_left, get_or_push}
use Rattle.std.proofs.lemmas.List.Elements.{All-nil, All-push, All-head, All-tail, All-map, All-weaker}
use Rattle.cr_row.specs.Rows.{product}
use Rattle.cr_model.specs.Problems.{ProblemParts}
use Rattle.cr_path.specs.RungLeads.{IsKept, HasNumber, AreNumbered}
use Rattle.cr_path.specs.ToldRows.{ToldParts, ArePlaces, AreToldRows}
use Rattle.cr_path.proofs.Grown.{same_rows, all_kept}

-- the numbers of rows on a stack are their places
pub numbered_places : (old rung new : List (List ℕ)) (numbers : List ℕ) → AreNumbered old [] rung new numbers → ArePlaces new rung numbers
numbered_places old rung new numbers is = subst (ArePlaces new rung) (sym is.joined) (record { within = is.within; are = is.are })

pub places_kept : (old new some : List (List ℕ)) (places : List ℕ) → IsKept old new → ArePlaces old some places → ArePlaces new some places
places_kept old new some places kept is = record {
  within = all_kept old new places kept is.within;
  are = same_rows old new places kept is.within ∙ is.are;
}

-- a row that is put last has the stage of the others
pub staged_more : (old new : List (List ℕ)) (row : List ℕ) (number stage : ℕ) → HasNumber old row number new → length row ≡ stage
    → All (λ (other : List ℕ). length other ≡ stage) old → All (λ (other : List ℕ). length other ≡ stage) new
staged_more old new row number stage has long all = elim has.grown [
  | inl same ↦ subst (All (λ (other : List ℕ). length other ≡ stage)) (sym same) all
  | inr more ↦ subst (All (λ (other : List ℕ). length other ≡ stage)) (sym more) (All-push (λ (other : List ℕ). length other ≡ stage) old row all long)
]

-- the rows that tell one more lead
module _ (p : ProblemParts) (told : List (List (List ℕ))) where
  abbrev parts : List (List ℕ) → List (List ℕ) → ToldParts
  parts rows leads = record { told = told; rows = rows; leads = leads }

  pub told_none : AreToldRows p (parts [] []) 0
  told_none = record {
    counted = refl;
    staged = All-nil (λ (row : List ℕ). length row ≡ p.stage);
    each = λ step low. absurd (omega (arith, low));
  }

  pub told_more : (old new leads later : List (List ℕ)) (lead : List ℕ) (done : ℕ) → AreToldRows p (parts old leads) done
      → All (λ (row : List ℕ). length row ≡ p.stage) new → AreNumbered old [] (get_or told done []) new lead → later ≡ leads ++ lead ∷ []
      → AreToldRows p (parts new later) (done + 1)
  told_more old new leads later lead done are staged numbered is = record {
    counted = ap length is ∙ length-append leads (lead ∷ []) ∙ ap (λ n. n + 1) are.counted;
    staged = staged;
    each = λ step low. elim (cases_eq step done) [
      | inl last ↦
          let here : lead ≡ get_or later step [] = sym (ap₂ (λ (xs : List (List ℕ)) (n : ℕ). get_or xs n []) is last ∙ get_or_push leads lead [] done are.counted) in
          subst (ArePlaces new (get_or told step [])) here
          (subst (λ (n : ℕ). ArePlaces new (get_or told n []) lead) (sym last) (numbered_places old (get_or told done []) new lead numbered))
      | inr earlier ↦
          let below : step < done = omega (arith, low, earlier) in
          let here : get_or leads step [] ≡ get_or later step [] =
          sym (ap (λ (xs : List (List ℕ)). get_or xs step []) is ∙ get_or_append_left leads (lead ∷ []) [] step (omega (arith, below, are.counted))) in
          subst (ArePlaces new (get_or told step [])) here
          (places_kept old new (get_or told step []) (get_or leads step []) numbered.kept (are.each step below))
    ];
  }

-- the rows that tell a lead, rung from a head, by the names of all that tell leads
module _ (rows : List (List ℕ)) (head : List ℕ) (told : List (List ℕ)) (names : List ℕ) (named : ArePlaces rows (map (product head) told) names) where
  counted : length names ≡ length told
  counted = sym (length-map names (λ name. get_or rows name [])) ∙ ap length named.are ∙ length-map told (product head)

  name_of_row : (place : ℕ) → place < length told → get_or rows (get_or names place 0) [] ≡ product head (get_or told place [])
  name_of_row place low =
      sym (get_or-map (λ name. get_or rows name []) names place 0 [] (omega (arith, low, counted)))
      ∙ ap (λ (xs : List (List ℕ)). get_or xs place []) named.are
      ∙ get_or-map (product head) told place [] [] low

  names_of_rows : (places : List ℕ) → All (λ place. place < length told) places
      → map (λ name. get_or rows name []) (map (λ place. get_or names place 0) places) ≡ map (product head) (map (λ place. get_or told place []) places)
  names_of_rows [] all = refl
  names_of_rows (place ∷ places) all =
      ap₂ (λ (row : List ℕ) (more : List (List ℕ)). row ∷ more)
      (name_of_row place (All-head (λ k. k < length told) place places all))
      (names_of_rows places (All-tail (λ k. k < length told) place places all))

  pub named_lead : (some : List (List ℕ)) (places : List ℕ) → ArePlaces told some places
      → ArePlaces rows (map (product head) some) (map (λ place. get_or names place 0) places)
  named_lead some places is = record {
    within = All-map (λ name. name < length rows) (λ place. get_or names place 0) places
        (All-weaker (λ place. place < length told) (λ place. get_or names place 0 < length rows)
        (λ place low. named.within place 0 (omega (arith, low, counted))) places is.within);
    are = names_of_rows places is.within ∙ ap (map (product head)) is.are;
  }

-- so they are numbered, and no row is new
pub placed_numbered : (rows some : List (List ℕ)) (before now more : List ℕ) → ArePlaces rows some more → now ≡ before ++ more → IsKept rows rows
    → AreNumbered rows before some rows now
placed_numbered rows some before now more is joined kept = record { kept = kept; more = more; joined = joined; within = is.within; are = is.are }
