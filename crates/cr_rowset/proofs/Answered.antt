-- The laws of pushes.
use Rattle.std.proofs.Common.{◌≡◌, ℕ, ◌+◌, ◌≤◌, List, [], ◌∷◌, ◌++◌, length, get_or, refl, ap, sym, ◌∙◌, subst, inl, inr, arith, length-append}
use Rattle.std.specs.Prelude.{Contains}
use Rattle.std.proofs.lemmas.Bool.{cases_eq, cases_order}
use Rattle.std.proofs.lemmas.List.{get_or_default, get_or_append_left, get_or_at}
use Rattle.cr_rowset.specs.Stacks.{StackParts, AllDiffer}
use Rattle.cr_rowset.specs.Pushing.{Pushes, StandsAt}
use Rattle.cr_rowset.specs.declared.pushed.Pushed.{Pushed}
use Rattle.cr_rowset.specs.declared.pushed.Pushed.TheVariants.{Fresh, Again, Full}

contained : (rows : List (List ℕ)) (row : List ℕ) (place : ℕ) → StandsAt rows row place → Contains rows row
contained rows row place at = (place, at.within, get_or_default rows place row [] at.within ∙ at.is)

one_place : (rows : List (List ℕ)) (row : List ℕ) (i j : ℕ) → AllDiffer rows → StandsAt rows row i → StandsAt rows row j → i ≡ j
one_place rows row i j differ at also = elim (cases_order i j) [
  | inl same ↦ same
  | inr (inl below) ↦ absurd (differ i j below also.within (at.is ∙ sym also.is))
  | inr (inr above) ↦ absurd (differ j i above at.within (also.is ∙ sym at.is))
]

pub one_answer : (old new other : StackParts) (row : List ℕ) (a b : Pushed) → AllDiffer old.rows → Pushes old row a new → Pushes old row b other → (a ≡ b) × (new ≡ other)
one_answer old new other row Fresh Fresh differ h k = (refl, h.2 ∙ sym k.2)
one_answer old new other row Fresh (Again j) differ h k = absurd (h.0 (contained old.rows row j k.0))
one_answer old new other row Fresh Full differ h k = absurd (omega (arith, h.1, k.1))
one_answer old new other row (Again i) Fresh differ h k = absurd (k.0 (contained old.rows row i h.0))
one_answer old new other row (Again i) (Again j) differ h k = (ap Again (one_place old.rows row i j differ h.0 k.0), h.1 ∙ sym k.1)
one_answer old new other row (Again i) Full differ h k = absurd (k.0 (contained old.rows row i h.0))
one_answer old new other row Full Fresh differ h k = absurd (omega (arith, h.1, k.1))
one_answer old new other row Full (Again j) differ h k = absurd (h.0 (contained old.rows row j k.0))
one_answer old new other row Full Full differ h k = (refl, h.2 ∙ sym k.2)

grown_differ : (rows : List (List ℕ)) (row : List ℕ) → AllDiffer rows → (Contains rows row → ⊥) → AllDiffer (rows ++ row ∷ [])
grown_differ rows row differ away i j below low equal =
    let long : length (rows ++ row ∷ []) ≡ length rows + 1 = length-append rows (row ∷ []) in
    let mine : get_or (rows ++ row ∷ []) i [] ≡ get_or rows i [] = get_or_append_left rows (row ∷ []) [] i (omega arith) in
    elim (cases_eq j (length rows)) [
      | inl e ↦ away (contained rows row i (record {
        within = omega (arith, e);
        is = sym mine ∙ equal ∙ get_or_at rows row [] [] j (sym e);
      }))
      | inr e ↦ differ i j below (omega (arith, e)) (sym mine ∙ equal ∙ get_or_append_left rows (row ∷ []) [] j (omega (arith, e)))
    ]

pub still_differ : (old new : StackParts) (row : List ℕ) (a : Pushed) → AllDiffer old.rows → Pushes old row a new → AllDiffer new.rows
still_differ old new row Fresh differ h = subst (λ (s : StackParts). AllDiffer s.rows) (sym h.2) (grown_differ old.rows row differ h.0)
still_differ old new row (Again i) differ h = subst (λ (s : StackParts). AllDiffer s.rows) (sym h.1) differ
still_differ old new row Full differ h = subst (λ (s : StackParts). AllDiffer s.rows) (sym h.2) differ

pub still_few : (old new : StackParts) (row : List ℕ) (a : Pushed) → length old.rows ≤ old.room → Pushes old row a new → length new.rows ≤ new.room
still_few old new row Fresh few h = subst (λ (s : StackParts). length s.rows ≤ s.room) (sym h.2) (omega (arith, h.1, length-append old.rows (row ∷ [])))
still_few old new row (Again i) few h = subst (λ (s : StackParts). length s.rows ≤ s.room) (sym h.1) few
still_few old new row Full few h = subst (λ (s : StackParts). length s.rows ≤ s.room) (sym h.2) few

pub still_room : (old new : StackParts) (row : List ℕ) (a : Pushed) → Pushes old row a new → new.room ≡ old.room
still_room old new row Fresh h = ap (λ (s : StackParts). s.room) h.2
still_room old new row (Again i) h = ap (λ (s : StackParts). s.room) h.1
still_room old new row Full h = ap (λ (s : StackParts). s.room) h.2
