-- Rows whose buckets are marked.
use Rattle.std.proofs.Common.{◌≡◌, ◌≢◌, ℕ, ◌+◌, ◌<◌, ◌≤◌, List, [], ◌∷◌, ◌++◌, length, get_or, set, take, All, inl, inr, refl, sym, ap, ◌∙◌, subst, arith, length-append}
use Rattle.std.specs.List.{Contains}
use Rattle.std.proofs.lemmas.Bool.{cases_eq}
use Rattle.std.proofs.lemmas.List.{get_or-set_same, get_or-set_other, get_or-take, get_or_append_left, get_or_at, get_or_default, take_more, length-take-le}
use Rattle.std.proofs.lemmas.List.Elements.{All-push, All-weaker, All-contains}
use Rattle.cr_model.specs.Callings.{AllDiffer}
use Rattle.cr_audit.specs.Marks.{AreMarked, bucket}

-- a mark more
kept_mark : (at : List ℕ) (mark b : ℕ) (row : List ℕ) → b < length at → get_or at (bucket row) 0 ≡ mark → get_or (set at b mark) (bucket row) 0 ≡ mark
kept_mark at mark b row inside is = elim (cases_eq (bucket row) b) [
  | inl same ↦ ap (λ n. get_or (set at b mark) n 0) same ∙ get_or-set_same at b mark 0 inside
  | inr other ↦ get_or-set_other at b (bucket row) mark 0 other ∙ is
]

pub marked_on : (at : List ℕ) (mark b : ℕ) (rows : List (List ℕ)) (row : List ℕ) → b < length at → b ≡ bucket row → AreMarked at mark rows
    → AreMarked (set at b mark) mark (rows ++ row ∷ [])
marked_on at mark b rows row inside is are =
    All-push (λ r. get_or (set at b mark) (bucket r) 0 ≡ mark) rows row
    (All-weaker (λ r. get_or at (bucket r) 0 ≡ mark) (λ r. get_or (set at b mark) (bucket r) 0 ≡ mark) (λ r h. kept_mark at mark b r inside h) rows are)
    (ap (λ n. get_or (set at b mark) n 0) (sym is) ∙ get_or-set_same at b mark 0 inside)

-- a row whose bucket has not the mark is none of those that are marked
pub unmarked : (at : List ℕ) (mark b : ℕ) (rows : List (List ℕ)) (row : List ℕ) → b ≡ bucket row → AreMarked at mark rows → Contains rows row → get_or at b 0 ≡ mark
unmarked at mark b rows row is are held = ap (λ n. get_or at n 0) is ∙ All-contains (λ r. get_or at (bucket r) 0 ≡ mark) rows row are held

-- a row more, which is none of them
pub differ_on : (rows : List (List ℕ)) (row : List ℕ) → AllDiffer rows → (Contains rows row → ⊥) → AllDiffer (rows ++ row ∷ [])
differ_on rows row differ new i j less inside = elim (cases_eq j (length rows)) [
  | inl last ↦ λ same. new (
    i,
    omega arith,
    get_or_default rows i row [] (omega arith) ∙ sym (get_or_append_left rows (row ∷ []) [] i (omega arith)) ∙ same ∙ ap (λ n. get_or (rows ++ row ∷ []) n []) last
        ∙ get_or_at rows row [] [] (length rows) refl,
  )
  | inr other ↦ λ same. differ i j less (omega (arith, length-append rows (row ∷ [])))
      (sym (get_or_append_left rows (row ∷ []) [] i (omega (arith, length-append rows (row ∷ [])))) ∙ same ∙ get_or_append_left rows (row ∷ []) [] j (omega (arith, length-append rows (row ∷ []))))
]

-- one that is one of them
pub again : (rows : List (List ℕ)) (place : ℕ) → place < length rows → Contains (take place rows) (get_or rows place []) → AllDiffer rows → ⊥
again rows place inside held differ =
    let (i, below, is) = held in
    let low : i < place = omega (arith, length-take-le place rows (omega arith)) in
    differ i place low inside (get_or_default rows i [] (get_or rows place []) (omega arith) ∙ sym (get_or-take place rows i (get_or rows place []) low) ∙ is)
