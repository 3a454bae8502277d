-- Changes rung from the last to the first lead back.
use Rattle.std.proofs.Common.{◌≡◌, ℕ, List, [], ◌∷◌, ◌++◌, reverse, refl, sym, ap, ◌∙◌}
use Rattle.std.proofs.lemmas.List.{reverse-append, reverse-reverse}
use Rattle.cr_row.specs.Rows.{Places, after}
use Rattle.cr_model.specs.Callings.{rows_from, last_of}
use Rattle.cr_model.specs.Levels.{head_from}
use Rattle.cr_model.proofs.Ringing.{rows_from-append, last_of-append}

-- further changes lead on
pub head_onward : (row : List ℕ) (changes more : List Places) → head_from row (changes ++ more) ≡ head_from (head_from row changes) more
head_onward row changes more = ap (last_of row) (rows_from-append row changes more) ∙ last_of-append row (rows_from row changes) (rows_from (last_of row (rows_from row changes)) more)

module _ (twice : (c : Places) (r : List ℕ) → after c (after c r) ≡ r) where
  -- changes and then the same back
  pub there_and_back : (row : List ℕ) (changes : List Places) → head_from (head_from row changes) (reverse changes) ≡ row
  there_and_back row [] = refl
  there_and_back row (change ∷ changes) =
      ap (head_from (head_from (after change row) changes)) (reverse-append (change ∷ []) changes)
      ∙ head_onward (head_from (after change row) changes) (reverse changes) (change ∷ [])
      ∙ ap (after change) (there_and_back (after change row) changes)
      ∙ twice change row

  -- back and then the same forth
  pub back_and_there : (row : List ℕ) (changes : List Places) → head_from (head_from row (reverse changes)) changes ≡ row
  back_and_there row changes = ap (head_from (head_from row (reverse changes))) (sym (reverse-reverse changes)) ∙ there_and_back row (reverse changes)
