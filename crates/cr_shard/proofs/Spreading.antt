-- Lists of items one after another: when no two of them meet.
use Rattle.std.proofs.Common.{◌≡◌, ℕ, suc, zero, ◌<◌, Bool, false, List, [], ◌∷◌, ◌++◌, length, get_or, map, inl, inr, refl, sym, ap, ◌∙◌, subst, arith}
use Rattle.std.specs.Prelude.{Contains, All, flat_map}
use Rattle.std.specs.List.{IsDistinct, list_any}
use Rattle.std.proofs.lemmas.Bool.{or_parts, or_from}
use Rattle.std.proofs.lemmas.List.Elements.{All-head, All-tail, All-append, All-from_recursion, recursion_from_All, All-contains, Contains-append_left, Contains-append_right, Contains-append_cases}
use Rattle.std.proofs.lemmas.Map.Keys.{IsDistinct-head, IsDistinct-tail, IsDistinct-cons}
use Rattle.cr_model.proofs.InOrder.{contains_cases, contains_more, none_held}
use Rattle.cr_model.proofs.Listed.{held_first, all_from_held}

-- a test that no element passes
pub none_passes : {X : Type 0} (test : X → Bool) (xs : List X) → list_any test xs ≡ false → (x : X) → Contains xs x → test x ≡ false
none_passes test [] none x held = absurd (none_held x held)
none_passes test (first ∷ xs) none x held =
    let both = or_parts (test first) (list_any test xs) none in
    elim (contains_cases first x xs held) [
      | inl same ↦ ap test (sym same) ∙ both.0
      | inr later ↦ none_passes test xs both.1 x later
    ]

pub passes_none : {X : Type 0} (test : X → Bool) (xs : List X) → ((x : X) → Contains xs x → test x ≡ false) → list_any test xs ≡ false
passes_none test [] none = refl
passes_none test (first ∷ xs) none =
    or_from (test first) (list_any test xs) (none first (held_first first xs)) (passes_none test xs (λ x held. none x (contains_more first x xs held)))

-- and one that no pair passes
pub no_pair : {X Y : Type 0} (test : X → Y → Bool) (xs : List X) (ys : List Y) → list_any (λ x. list_any (test x) ys) xs ≡ false
    → (x : X) (y : Y) → Contains xs x → Contains ys y → test x y ≡ false
no_pair test xs ys none x y held there = none_passes (test x) ys (none_passes (λ z. list_any (test z) ys) xs none x held) y there

pub pair_none : {X Y : Type 0} (test : X → Y → Bool) (xs : List X) (ys : List Y) → ((x : X) (y : Y) → Contains xs x → Contains ys y → test x y ≡ false)
    → list_any (λ x. list_any (test x) ys) xs ≡ false
pair_none test xs ys none = passes_none (λ z. list_any (test z) ys) xs (λ x held. passes_none (test x) ys (λ y there. none x y held there))

-- an element of a map is that of an element
pub map_held : {X Y : Type 0} (f : X → Y) (xs : List X) (y : Y) → Contains (map f xs) y → (x : X) × Contains xs x × (f x ≡ y)
map_held f [] y held = absurd (none_held y held)
map_held f (x ∷ xs) y held = elim (contains_cases (f x) y (map f xs) held) [
  | inl same ↦ (x, held_first x xs, same)
  | inr later ↦ let more = map_held f xs y later in (more.0, contains_more x more.0 xs more.1, more.2)
]

pub held_map : {X Y : Type 0} (f : X → Y) (xs : List X) (x : X) → Contains xs x → Contains (map f xs) (f x)
held_map f [] x held = absurd (none_held x held)
held_map f (first ∷ xs) x held = elim (contains_cases first x xs held) [
  | inl same ↦ subst (λ z. Contains (f first ∷ map f xs) (f z)) same (held_first (f first) (map f xs))
  | inr later ↦ contains_more (f first) (f x) (map f xs) (held_map f xs x later)
]

pub distinct_none : {X : Type 0} (e : X → X → Bool) → IsDistinct e []
unfolding IsDistinct
distinct_none e = tt

-- what holds of all holds of each
pub held_all : {X : Type 0} (P : X → Type 0) (xs : List X) → All P xs → (x : X) → Contains xs x → P x
held_all P xs all x held = All-contains P xs x all held

-- two lists joined
pub distinct_joined : {X : Type 0} (e : X → X → Bool) (xs ys : List X) → IsDistinct e xs → IsDistinct e ys
    → ((x y : X) → Contains xs x → Contains ys y → e x y ≡ false) → IsDistinct e (xs ++ ys)
distinct_joined e [] ys one two cross = two
distinct_joined e (x ∷ xs) ys one two cross =
    IsDistinct-cons e x (xs ++ ys)
    (recursion_from_All (λ y. e x y ≡ false) (xs ++ ys)
    (All-append (λ y. e x y ≡ false) xs ys
    (All-from_recursion (λ y. e x y ≡ false) xs (IsDistinct-head e x xs one))
    (all_from_held (λ y. e x y ≡ false) ys (λ y held. cross x y (held_first x xs) held))))
    (distinct_joined e xs ys (IsDistinct-tail e x xs one) two (λ z y held there. cross z y (contains_more x z xs held) there))

pub distinct_first : {X : Type 0} (e : X → X → Bool) (xs ys : List X) → IsDistinct e (xs ++ ys) → IsDistinct e xs
distinct_first e [] ys all = distinct_none e
distinct_first e (x ∷ xs) ys all =
    let heads = All-from_recursion (λ y. e x y ≡ false) (xs ++ ys) (IsDistinct-head e x (xs ++ ys) all) in
    IsDistinct-cons e x xs
    (recursion_from_All (λ y. e x y ≡ false) xs (all_from_held (λ y. e x y ≡ false) xs (λ y held. held_all (λ z. e x z ≡ false) (xs ++ ys) heads y (Contains-append_left xs ys y held))))
    (distinct_first e xs ys (IsDistinct-tail e x (xs ++ ys) all))

pub distinct_second : {X : Type 0} (e : X → X → Bool) (xs ys : List X) → IsDistinct e (xs ++ ys) → IsDistinct e ys
distinct_second e [] ys all = all
distinct_second e (x ∷ xs) ys all = distinct_second e xs ys (IsDistinct-tail e x (xs ++ ys) all)

pub distinct_cross : {X : Type 0} (e : X → X → Bool) (xs ys : List X) → IsDistinct e (xs ++ ys)
    → (x y : X) → Contains xs x → Contains ys y → e x y ≡ false
distinct_cross e [] ys all z y held there = absurd (none_held z held)
distinct_cross e (x ∷ xs) ys all z y held there = elim (contains_cases x z xs held) [
  | inl same ↦
      let heads = All-from_recursion (λ y. e x y ≡ false) (xs ++ ys) (IsDistinct-head e x (xs ++ ys) all) in
      ap (λ w. e w y) (sym same) ∙ held_all (λ w. e x w ≡ false) (xs ++ ys) heads y (Contains-append_right xs ys y there)
  | inr later ↦ distinct_cross e xs ys (IsDistinct-tail e x (xs ++ ys) all) z y later there
]

-- an element of lists one after another stands in one of them
pub flat_held : {C X : Type 0} (f : C → List X) (cs : List C) (x : X) → Contains (flat_map f cs) x
    → (k : ℕ) × (k < length cs) × ((d : C) → Contains (f (get_or cs k d)) x)
flat_held f [] x held = absurd (none_held x held)
flat_held f (c ∷ cs) x held = elim (Contains-append_cases (f c) (flat_map f cs) x held) [
  | inl here ↦ (zero, omega arith, λ d. here)
  | inr later ↦ let more = flat_held f cs x later in (suc more.0, omega (arith, more.1), more.2)
]

pub held_flat : {C X : Type 0} (f : C → List X) (cs : List C) (k : ℕ) (d : C) (x : X) → k < length cs → Contains (f (get_or cs k d)) x
    → Contains (flat_map f cs) x
held_flat f [] k d x inside held = absurd (omega (arith, inside))
held_flat f (c ∷ cs) zero d x inside held = Contains-append_left (f c) (flat_map f cs) x held
held_flat f (c ∷ cs) (suc k) d x inside held = Contains-append_right (f c) (flat_map f cs) x (held_flat f cs k d x (omega (arith, inside)) held)

module _ {C X : Type 0} (e : X → X → Bool) (f : C → List X) where
  -- no element of one list and no element of a later one
  abbrev pub Crossing : List C → Type 0
  Crossing cs = (i j : ℕ) (d : C) → i < j → j < length cs → (x y : X) → Contains (f (get_or cs i d)) x → Contains (f (get_or cs j d)) y → e x y ≡ false

  pub spread_from : (cs : List C) → All (λ c. IsDistinct e (f c)) cs → Crossing cs → IsDistinct e (flat_map f cs)
  spread_from [] own cross = distinct_none e
  spread_from (c ∷ cs) own cross =
      distinct_joined e (f c) (flat_map f cs) (All-head (λ c. IsDistinct e (f c)) c cs own)
      (spread_from cs (All-tail (λ c. IsDistinct e (f c)) c cs own) (λ i j d less inside. cross (suc i) (suc j) d (omega (arith, less)) (omega (arith, inside))))
      (λ x y held there.
      let at = flat_held f cs y there in
      cross zero (suc at.0) c (omega arith) (omega (arith, at.1)) x y held (at.2 c))

  pub spread_cross : (cs : List C) → IsDistinct e (flat_map f cs) → Crossing cs
  spread_cross [] all i j d less inside = absurd (omega (arith, inside))
  spread_cross (c ∷ cs) all zero zero d less inside = absurd (omega (arith, less))
  spread_cross (c ∷ cs) all (suc i) zero d less inside = absurd (omega (arith, less))
  spread_cross (c ∷ cs) all zero (suc j) d less inside = λ x y held there.
      distinct_cross e (f c) (flat_map f cs) all x y held (held_flat f cs j d y (omega (arith, inside)) there)
  spread_cross (c ∷ cs) all (suc i) (suc j) d less inside =
      spread_cross cs (distinct_second e (f c) (flat_map f cs) all) i j d (omega (arith, less)) (omega (arith, inside))
