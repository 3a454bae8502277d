-- A lead on its way onto a stack of rows.
use Rattle.std.proofs.Common.{◌≡◌, ℕ, suc, ◌+◌, ◌≤◌, List, [], ◌∷◌, ◌++◌, length, get_or, take, refl, sym, ap, ◌∙◌, subst, arith, append_assoc, length-append}
use Rattle.std.proofs.lemmas.List.{get_or_append_left, get_or_at, take-append-le}
use Rattle.cr_row.specs.Rows.{Places, after}
use Rattle.cr_model.specs.Callings.{rows_from, last_of, AllDiffer}
use Rattle.cr_rowset.specs.Stacks.{StackParts}
use Rattle.cr_rowset.specs.Pushing.{StandsAt, Pushes}
use Rattle.cr_rowset.specs.declared.pushed.Pushed.TheVariants.{Fresh}
use Rattle.cr_prune.specs.Rung.{IsRinging}

-- as many rows as changes
pub length_rung : (row : List ℕ) (changes : List Places) → length (rows_from row changes) ≡ length changes
length_rung row [] = refl
length_rung row (change ∷ changes) = ap suc (length_rung (after change row) changes)

-- no change is rung yet
pub begun : (stack : StackParts) (from : List ℕ) (changes : List Places) → IsRinging stack stack from from changes changes
begun stack from changes = record { all = refl; last = refl; room = refl; long = omega arith; kept = take_all stack.rows }
  where
    take_all : (rows : List (List ℕ)) → take (length rows) rows ≡ rows
    take_all [] = refl
    take_all (row ∷ rows) = ap (λ rs. row ∷ rs) (take_all rows)

-- one change more
pub one_more : (old now next : StackParts) (from row after_it : List ℕ) (changes rest : List Places) (change : Places) →
    IsRinging old now from row changes (change ∷ rest) → after_it ≡ after change row → Pushes now after_it Fresh next →
    IsRinging old next from after_it changes rest
one_more old now next from row after_it changes rest change ringing is pushed =
    let rows_is : next.rows ≡ now.rows ++ after_it ∷ [] = ap (λ (s : StackParts). s.rows) pushed.2 in
    let long : length (now.rows ++ after_it ∷ []) ≡ length now.rows + 1 = length-append now.rows (after_it ∷ []) in
    record {
      all = ap (λ rows. rows ++ rows_from after_it rest) rows_is
          ∙ append_assoc now.rows (after_it ∷ []) (rows_from after_it rest)
          ∙ ap (λ r. now.rows ++ r ∷ rows_from r rest) is
          ∙ ringing.all;
      last = ap (λ r. last_of r (rows_from r rest)) is ∙ ringing.last;
      room = ap (λ (s : StackParts). s.room) pushed.2 ∙ ringing.room;
      long = omega (arith, ringing.long, long, ap length rows_is);
      kept = ap (take (length old.rows)) rows_is
          ∙ take-append-le (length old.rows) now.rows (after_it ∷ []) ringing.long
          ∙ ringing.kept;
    }

-- a row that stands already: the rows of the whole lead do not differ
pub stood : (old now : StackParts) (from row after_it : List ℕ) (changes rest : List Places) (change : Places) (place : ℕ) →
    IsRinging old now from row changes (change ∷ rest) → after_it ≡ after change row → StandsAt now.rows after_it place →
    AllDiffer (old.rows ++ rows_from from changes) → ⊥
stood old now from row after_it changes rest change place ringing is stands differ =
    let whole = now.rows ++ rows_from row (change ∷ rest) in
    let differ' : AllDiffer whole = subst AllDiffer (sym ringing.all) differ in
    let first : get_or whole place [] ≡ after_it =
    get_or_append_left now.rows (rows_from row (change ∷ rest)) [] place stands.within ∙ stands.is in
    let second : get_or whole (length now.rows) [] ≡ after change row =
    get_or_at now.rows (after change row) (rows_from (after change row) rest) [] (length now.rows) refl in
    let long : length whole ≡ length now.rows + length (rows_from row (change ∷ rest)) = length-append now.rows (rows_from row (change ∷ rest)) in
    let some : length (rows_from row (change ∷ rest)) ≡ suc (length (rows_from (after change row) rest)) = refl in
    differ' place (length now.rows) stands.within (omega arith) (first ∙ is ∙ sym second)

-- a lead that is not rung to its end finds room
pub has_room : (old now : StackParts) (from row : List ℕ) (changes rest : List Places) (change : Places) →
    IsRinging old now from row changes (change ∷ rest) → length old.rows + length changes ≤ old.room → length now.rows ≡ now.room → ⊥
has_room old now from row changes rest change ringing room full =
    let before : length (now.rows ++ rows_from row (change ∷ rest)) ≡ length now.rows + length (rows_from row (change ∷ rest)) =
    length-append now.rows (rows_from row (change ∷ rest)) in
    let after_all : length (old.rows ++ rows_from from changes) ≡ length old.rows + length (rows_from from changes) = length-append old.rows (rows_from from changes) in
    let same = ap length ringing.all in
    let some = length_rung row (change ∷ rest) in
    let all = length_rung from changes in
    let wide = ringing.room in
    omega arith

-- cut back to where it began, the stack is what it was
pub cut_back : (old now same : StackParts) (from row : List ℕ) (changes rest : List Places) (change : Places) (before : ℕ) →
    IsRinging old now from row changes (change ∷ rest) → same ≡ now → before ≡ length old.rows →
    record { rows = take before same.rows; room = same.room } ≡ old
cut_back old now same from row changes rest change before ringing is begins =
    ap (λ (s : StackParts). record { rows = take before s.rows; room = s.room }) is
    ∙ ap (λ (n : ℕ). record { rows = take n now.rows; room = now.room }) begins
    ∙ ap (λ (rows : List (List ℕ)). record { rows = rows; room = now.room }) ringing.kept
    ∙ ap (λ (n : ℕ). record { rows = old.rows; room = n }) ringing.room
