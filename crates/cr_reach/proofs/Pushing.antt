-- Rows pushed one after another.
use Rattle.std.proofs.Common.{◌≡◌, ◌≢◌, ℕ, ◌+◌, ◌-◌, ◌<◌, ◌≤◌, List, [], ◌∷◌, ◌++◌, length, get_or, take, drop, map, Contains, refl, sym, ap, ap₂, ◌∙◌, subst, arith, length-append}
use Rattle.std.proofs.lemmas.List.{append-nil, append_assoc, map-append, take_more, take-append-drop, get_or_default, get_or_append_left, get_or-drop}
use Rattle.std.proofs.lemmas.List.Concat.{flat_map-append}
use Rattle.cr_row.specs.Rows.{product}
use Rattle.cr_model.specs.Levels.{new_rows}
use Rattle.cr_rowset.specs.Stacks.{StackParts}
use Rattle.cr_rowset.specs.Pushing.{Pushes, StandsAt}
use Rattle.cr_rowset.specs.declared.pushed.Pushed.{Pushed}
use Rattle.cr_rowset.specs.declared.pushed.Pushed.TheVariants.{Fresh, Again, Full}
use Rattle.cr_reach.specs.Spreading.{products, pushed, Overflows}
use Rattle.cr_reach.proofs.Newly.{new_joined, no_fewer, one_new, one_old}

-- a row that stands at a place is held
contained : (rows : List (List ℕ)) (row : List ℕ) (place : ℕ) → StandsAt rows row place → Contains rows row
contained rows row place at = (place, at.within, get_or_default rows place row [] at.within ∙ at.is)

-- nothing to push
pub none_pushed : (old : StackParts) → old ≡ pushed old []
none_pushed old = ap (λ (rows : List (List ℕ)). record { rows = rows; room = old.room }) (sym (append-nil old.rows))

-- one row
pub taken : (old new : StackParts) (row : List ℕ) (answer : Pushed) → answer ≢ Full → Pushes old row answer new → new ≡ pushed old (row ∷ [])
taken old new row Fresh some h =
    h.2 ∙ ap (λ (more : List (List ℕ)). record { rows = old.rows ++ more; room = old.room }) (sym (one_new old.rows row h.0))
taken old new row (Again place) some h =
    h.1 ∙ none_pushed old ∙ ap (λ (more : List (List ℕ)). record { rows = old.rows ++ more; room = old.room })
    (sym (one_old old.rows row (contained old.rows row place h.0)))
taken old new row Full some h = absurd (some refl)

pub refused : (old new : StackParts) (row : List ℕ) → Pushes old row Full new → Overflows old (row ∷ []) new
refused old new row h = record {
  few = let long : length (old.rows ++ new_rows old.rows (row ∷ [])) ≡ length old.rows + 1 =
      ap (λ (more : List (List ℕ)). length (old.rows ++ more)) (one_new old.rows row h.0) ∙ length-append old.rows (row ∷ []) in
      omega (arith, long, h.1);
  rest = [];
  kept = h.2 ∙ ap (λ (rows : List (List ℕ)). record { rows = rows; room = old.room }) (sym (append-nil old.rows));
}

-- some rows, and then more
pub pushed_more : (old : StackParts) (xs ys : List (List ℕ)) → pushed (pushed old xs) ys ≡ pushed old (xs ++ ys)
pushed_more old xs ys = ap (λ (rows : List (List ℕ)). record { rows = rows; room = old.room })
    (append_assoc old.rows (new_rows old.rows xs) (new_rows (old.rows ++ new_rows old.rows xs) ys)
    ∙ ap (λ (more : List (List ℕ)). old.rows ++ more) (sym (new_joined old.rows xs ys)))

pub overflows_more : (old new : StackParts) (xs ys rest all : List (List ℕ)) → all ≡ (xs ++ ys) ++ rest
    → Overflows (pushed old xs) ys new → Overflows old all new
overflows_more old new xs ys rest all is over =
    let few : old.room < length ((pushed old xs).rows ++ new_rows (pushed old xs).rows ys) = over.few in
    let joined : length ((pushed old xs).rows ++ new_rows (pushed old xs).rows ys) ≡ length (old.rows ++ new_rows old.rows (xs ++ ys)) =
    ap (λ (s : StackParts). length s.rows) (pushed_more old xs ys) in
    subst (λ (rows : List (List ℕ)). Overflows old rows new) (sym is) (record {
      few = omega (
        arith,
        few,
        joined,
        length-append old.rows (new_rows old.rows (xs ++ ys)),
        no_fewer old.rows (xs ++ ys) rest,
        length-append old.rows (new_rows old.rows ((xs ++ ys) ++ rest)),
      );
      rest = new_rows old.rows xs ++ over.rest;
      kept = over.kept ∙ ap (λ (rows : List (List ℕ)). record { rows = rows; room = old.room })
          (append_assoc old.rows (new_rows old.rows xs) over.rest);
    })

-- the products up to an index, one more
map_more : (f : List ℕ → List ℕ) (rows : List (List ℕ)) (index : ℕ) (row : List ℕ) → index < length rows → row ≡ get_or rows index []
    → map f (take (index + 1) rows) ≡ map f (take index rows) ++ f row ∷ []
map_more f rows index row within at =
    ap (map f) (take_more rows index [] within ∙ ap (λ r. take index rows ++ r ∷ []) (sym at)) ∙ map-append f (take index rows) (row ∷ [])

pub one_more : (old before new : StackParts) (f : List ℕ → List ℕ) (rows : List (List ℕ)) (index : ℕ) (row next : List ℕ) (answer : Pushed)
    → before ≡ pushed old (map f (take index rows)) → index < length rows → row ≡ get_or rows index [] → next ≡ f row
    → answer ≢ Full → Pushes before next answer new → new ≡ pushed old (map f (take (index + 1) rows))
one_more old before new f rows index row next answer so_far within at is some h =
    taken before new next answer some h
    ∙ ap₂ (λ (s : StackParts) (r : List ℕ). pushed s (r ∷ [])) so_far is
    ∙ pushed_more old (map f (take index rows)) (f row ∷ [])
    ∙ ap (pushed old) (sym (map_more f rows index row within at))

pub none_more : (old before new : StackParts) (f : List ℕ → List ℕ) (rows : List (List ℕ)) (index : ℕ) (row next : List ℕ) (answer : Pushed)
    → before ≡ pushed old (map f (take index rows)) → index < length rows → row ≡ get_or rows index [] → next ≡ f row
    → answer ≡ Full → Pushes before next answer new → Overflows old (map f rows) new
none_more old before new f rows index row next answer so_far within at is full h =
    let whole : map f rows ≡ (map f (take index rows) ++ f row ∷ []) ++ map f (drop (index + 1) rows) =
    ap (map f) (sym (take-append-drop (index + 1) rows))
    ∙ map-append f (take (index + 1) rows) (drop (index + 1) rows)
    ∙ ap (λ (xs : List (List ℕ)). xs ++ map f (drop (index + 1) rows)) (map_more f rows index row within at) in
    overflows_more old new (map f (take index rows)) (f row ∷ []) (map f (drop (index + 1) rows)) (map f rows) whole
    (subst (λ (r : List ℕ). Overflows (pushed old (map f (take index rows))) (r ∷ []) new) is
    (subst (λ (s : StackParts). Overflows s (next ∷ []) new) so_far
    (refused before new next (subst (λ (a : Pushed). Pushes before next a new) full h))))

-- the products of the rows up to an index, and those of one row more
products_more : (others rows : List (List ℕ)) (index : ℕ) (row : List ℕ) → index < length rows → row ≡ get_or rows index []
    → products others (take (index + 1) rows) ≡ products others (take index rows) ++ map (product row) others
products_more others rows index row within at =
    ap (products others) (take_more rows index [] within ∙ ap (λ r. take index rows ++ r ∷ []) (sym at))
    ∙ flat_map-append (λ r. map (product r) others) (take index rows) (row ∷ [])
    ∙ ap (λ (xs : List (List ℕ)). products others (take index rows) ++ xs) (append-nil (map (product row) others))

pub row_more : (old before new : StackParts) (others rows : List (List ℕ)) (index : ℕ) (row : List ℕ)
    → before ≡ pushed old (products others (take index rows)) → index < length rows → row ≡ get_or rows index []
    → new ≡ pushed before (map (product row) others) → new ≡ pushed old (products others (take (index + 1) rows))
row_more old before new others rows index row so_far within at is =
    is
    ∙ ap (λ (s : StackParts). pushed s (map (product row) others)) so_far
    ∙ pushed_more old (products others (take index rows)) (map (product row) others)
    ∙ ap (pushed old) (sym (products_more others rows index row within at))

pub row_too_many : (old before new : StackParts) (others rows : List (List ℕ)) (index : ℕ) (row : List ℕ)
    → before ≡ pushed old (products others (take index rows)) → index < length rows → row ≡ get_or rows index []
    → Overflows before (map (product row) others) new → Overflows old (products others rows) new
row_too_many old before new others rows index row so_far within at over =
    let whole : products others rows ≡ (products others (take index rows) ++ map (product row) others) ++ products others (drop (index + 1) rows) =
    ap (products others) (sym (take-append-drop (index + 1) rows))
    ∙ flat_map-append (λ r. map (product r) others) (take (index + 1) rows) (drop (index + 1) rows)
    ∙ ap (λ (xs : List (List ℕ)). xs ++ products others (drop (index + 1) rows)) (products_more others rows index row within at) in
    overflows_more old new (products others (take index rows)) (map (product row) others) (products others (drop (index + 1) rows)) (products others rows) whole
    (subst (λ (s : StackParts). Overflows s (map (product row) others) new) so_far over)

-- a row that was there before anything was pushed
pub row_read : (old before : StackParts) (more : List (List ℕ)) (start place : ℕ) (row : List ℕ) → before ≡ pushed old more
    → start ≤ place → place < length old.rows → row ≡ get_or before.rows place [] → row ≡ get_or (drop start old.rows) (place - start) []
row_read old before more start place row so_far from to is =
    let sum : start + (place - start) ≡ place = omega arith in
    is
    ∙ ap (λ (s : StackParts). get_or s.rows place []) so_far
    ∙ get_or_append_left old.rows (new_rows old.rows more) [] place to
    ∙ ap (λ (n : ℕ). get_or old.rows n []) (sym sum)
    ∙ sym (get_or-drop start old.rows (place - start) [])
