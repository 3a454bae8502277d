-- Lists in strict order made of given elements, and all callings of a bounded length.
use Rattle.std.proofs.Common.{◌≡◌, ℕ, zero, suc, ◌<◌, ◌≤◌, ◌⊎◌, ◌↔◌, List, [], ◌∷◌, length, get_or, map, flat_map, All, Contains, Ordering, Less, Equal, Greater, inl, inr, refl, sym, ap, ◌∙◌, subst, arith}
use Rattle.std.specs.Cmp.{IsTotalOrder}
use Rattle.std.specs.List.{range_with_len}
use Rattle.std.specs.List.Sorted.{IsStrictlySortedBy}
use Rattle.std.specs.Ordering.{ordering_reverse}
use Rattle.std.proofs.lemmas.List.Elements.{All-head, All-tail, All-contains, All-from_recursion, recursion_from_All, Contains-get_or, Contains-append_left, Contains-append_right}
use Rattle.std.proofs.lemmas.List.FromFn.{get_or-range_with_len, length-range_with_len}
use Rattle.std.proofs.lemmas.Map.Keys.{sorted_head, sorted_tail}
use Rattle.cr_model.proofs.InOrder.{contains_cases, contains_more, none_held}

-- the first element is held
pub held_first : {X : Type 0} (x : X) (xs : List X) → Contains (x ∷ xs) x
held_first x xs = (zero, omega arith, refl)

-- what holds of all that is held holds of each
pub all_from_held : {X : Type 0} (P : X → Type 0) (xs : List X) → ((x : X) → Contains xs x → P x) → All P xs
all_from_held P xs each k d inside = each (get_or xs k d) (Contains-get_or xs k d inside)

module _ {X : Type 0} {R : X → X → Ordering} (o : IsTotalOrder R) (one : (x y : X) → R x y ≡ Equal → x ≡ y) where
  -- a first element below all others, before a list in order
  in_front : (x : X) (xs : List X) → ((z : X) → Contains xs z → R x z ≡ Less) → IsStrictlySortedBy R xs → IsStrictlySortedBy R (x ∷ xs)
  unfolding IsStrictlySortedBy
  in_front x xs below up = (recursion_from_All (λ z. R x z ≡ Less) xs (all_from_held (λ z. R x z ≡ Less) xs below), up)

  -- no element
  in_order_none : IsStrictlySortedBy R []
  unfolding IsStrictlySortedBy
  in_order_none = tt

  -- the first is below what is held after it
  first_below : (x z : X) (xs : List X) → IsStrictlySortedBy R (x ∷ xs) → Contains xs z → R x z ≡ Less
  first_below x z xs up held = All-contains (λ y. R x y ≡ Less) xs z (All-from_recursion (λ y. R x y ≡ Less) xs (sorted_head R x xs up)) held

  -- a list in order that holds one element more
  record OneMore (x : X) (xs ys : List X) : Type 0 where
    up : IsStrictlySortedBy R ys
    holds : (z : X) → Contains ys z ↔ ((x ≡ z) ⊎ Contains xs z)

  -- an element before a list
  before : (x y : X) (ys : List X) → IsStrictlySortedBy R (y ∷ ys) → R x y ≡ Less → OneMore x (y ∷ ys) (x ∷ y ∷ ys)
  before x y ys up less = record {
    up = in_front x (y ∷ ys) (λ z held. elim (contains_cases y z ys held) [ inl e ↦ ap (R x) (sym e) ∙ less | inr later ↦ o.trans x y z less (first_below y z ys up later) ]) up;
    holds = λ z. (contains_cases x z (y ∷ ys), λ h. elim h [ inl e ↦ subst (Contains (x ∷ y ∷ ys)) e (held_first x (y ∷ ys)) | inr later ↦ contains_more x z (y ∷ ys) later ]);
  }

  -- an element that is there
  there : (x y : X) (ys : List X) → IsStrictlySortedBy R (y ∷ ys) → x ≡ y → OneMore x (y ∷ ys) (y ∷ ys)
  there x y ys up e = record {
    up = up;
    holds = λ z. (λ held. inr held, λ h. elim h [ inl same ↦ subst (Contains (y ∷ ys)) (sym e ∙ same) (held_first y ys) | inr held ↦ held ]);
  }

  -- an element after the first
  after : (x y : X) (ys more : List X) → IsStrictlySortedBy R (y ∷ ys) → R y x ≡ Less → OneMore x ys more → OneMore x (y ∷ ys) (y ∷ more)
  after x y ys more up less rest = record {
    up = in_front y more (λ z held. elim ((rest.holds z).0 held) [ inl e ↦ ap (R y) (sym e) ∙ less | inr later ↦ first_below y z ys up later ]) rest.up;
    holds = λ z. (
      λ held. elim (contains_cases y z more held) [
        | inl e ↦ inr (subst (Contains (y ∷ ys)) e (held_first y ys))
        | inr later ↦ elim ((rest.holds z).0 later) [ inl e ↦ inl e | inr old ↦ inr (contains_more y z ys old) ]
      ],
      λ h. elim h [
        | inl e ↦ contains_more y z more ((rest.holds z).1 (inl e))
        | inr held ↦ elim (contains_cases y z ys held) [ inl e ↦ subst (Contains (y ∷ more)) e (held_first y more) | inr later ↦ contains_more y z more ((rest.holds z).1 (inr later)) ]
      ],
    );
  }

  -- an element put into a list in order
  put : (x : X) (xs : List X) → IsStrictlySortedBy R xs → (ys : List X) × OneMore x xs ys
  put x [] up = (
    x ∷ [],
    record {
      up = in_front x [] (λ z held. absurd (none_held z held)) in_order_none;
      holds = λ z. (contains_cases x z [], λ h. elim h [ inl e ↦ subst (Contains (x ∷ [])) e (held_first x []) | inr held ↦ absurd (none_held z held) ]);
    },
  )
  put x (y ∷ ys) up = by (R x y) refl (put x ys (sorted_tail R y ys up))
    where
      by : (answer : Ordering) → R x y ≡ answer → (more : List X) × OneMore x ys more → (zs : List X) × OneMore x (y ∷ ys) zs
      by Less h rest = (x ∷ y ∷ ys, before x y ys up h)
      by Equal h rest = (y ∷ ys, there x y ys up (one x y h))
      by Greater h rest = (y ∷ rest.0, after x y ys rest.0 up (o.antisymm y x ∙ ap ordering_reverse h) rest.1)

  -- those elements of a list of which something holds, in order
  pub in_order_those : (P : X → Type 0) → ((x : X) → P x ⊎ (P x → ⊥)) → (xs : List X) → (ys : List X) × IsStrictlySortedBy R ys × ((z : X) → Contains ys z ↔ (Contains xs z × P z))
  in_order_those P decide [] = ([], in_order_none, λ z. (λ held. absurd (none_held z held), λ h. absurd (none_held z h.0)))
  in_order_those P decide (x ∷ xs) = by (decide x) (in_order_those P decide xs)
    where
      by : P x ⊎ (P x → ⊥) → (ys : List X) × IsStrictlySortedBy R ys × ((z : X) → Contains ys z ↔ (Contains xs z × P z)) → (ys : List X) × IsStrictlySortedBy R ys × ((z : X) → Contains ys z ↔ (Contains (x ∷ xs) z × P z))
      by (inl holds) rest =
          let (more, facts) = put x rest.0 rest.1 in (
            more,
            facts.up,
            λ z. (
              λ held. elim ((facts.holds z).0 held) [
                | inl e ↦ (subst (Contains (x ∷ xs)) e (held_first x xs), subst P e holds)
                | inr old ↦ let both = (rest.2 z).0 old in (contains_more x z xs both.0, both.1)
              ],
              λ h. (facts.holds z).1 (elim (contains_cases x z xs h.0) [ inl e ↦ inl e | inr later ↦ inr ((rest.2 z).1 (later, h.1)) ]),
            ),
          )
      by (inr fails) rest = (
        rest.0,
        rest.1,
        λ z. (
          λ held. let both = (rest.2 z).0 held in (contains_more x z xs both.0, both.1),
          λ h. elim (contains_cases x z xs h.0) [ inl e ↦ absurd (fails (subst P (sym e) h.1)) | inr later ↦ (rest.2 z).1 (later, h.1) ],
        ),
      )

-- an element of a mapped list
pub held_mapped : {X Y : Type 0} (f : X → Y) (x : X) (xs : List X) → Contains xs x → Contains (map f xs) (f x)
held_mapped f x [] held = absurd (none_held x held)
held_mapped f x (y ∷ xs) held = elim (contains_cases y x xs held) [
  | inl e ↦ subst (λ z. Contains (map f (y ∷ xs)) (f z)) e (held_first (f y) (map f xs))
  | inr later ↦ contains_more (f y) (f x) (map f xs) (held_mapped f x xs later)
]

-- an element of one of the joined lists
pub held_joined : {X Y : Type 0} (f : X → List Y) (x : X) (z : Y) (xs : List X) → Contains xs x → Contains (f x) z → Contains (flat_map f xs) z
held_joined f x z [] held inside = absurd (none_held x held)
held_joined f x z (y ∷ xs) held inside = elim (contains_cases y x xs held) [
  | inl e ↦ Contains-append_left (f y) (flat_map f xs) z (subst (λ w. Contains (f w) z) (sym e) inside)
  | inr later ↦ Contains-append_right (f y) (flat_map f xs) z (held_joined f x z xs later inside)
]

-- all callings of some steps, up to a length
pub callings : ℕ → ℕ → List (List ℕ)
callings steps zero = [] ∷ []
callings steps (suc n) = [] ∷ flat_map (λ step. map (λ calling. step ∷ calling) (callings steps n)) (range_with_len 0 steps)

-- each is there
pub calling_listed : (steps n : ℕ) (calling : List ℕ) → All (λ step. step < steps) calling → length calling ≤ n → Contains (callings steps n) calling
unfolding callings
calling_listed steps zero [] known short = held_first [] []
calling_listed steps (suc n) [] known short = held_first [] (flat_map (λ step. map (λ calling. step ∷ calling) (callings steps n)) (range_with_len 0 steps))
calling_listed steps zero (step ∷ calling) known short = absurd (omega arith)
calling_listed steps (suc n) (step ∷ calling) known short =
    let here : step < steps = All-head (λ s. s < steps) step calling known in
    let rest : Contains (callings steps n) calling = calling_listed steps n calling (All-tail (λ s. s < steps) step calling known) (omega arith) in
    let at : get_or (range_with_len 0 steps) step step ≡ step = get_or-range_with_len 0 steps step step here ∙ omega arith in
    contains_more [] (step ∷ calling) (flat_map (λ s. map (λ c. s ∷ c) (callings steps n)) (range_with_len 0 steps))
    (held_joined (λ s. map (λ c. s ∷ c) (callings steps n)) step (step ∷ calling) (range_with_len 0 steps)
    (step, omega (arith, length-range_with_len 0 steps), at) (held_mapped (λ c. step ∷ c) calling (callings steps n) rest))
