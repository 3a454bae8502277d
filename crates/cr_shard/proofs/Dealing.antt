-- Nodes dealt by their positions: which of them a shard has, and that each stands in one shard.
use Rattle.std.proofs.Common.{◌≡◌, ◌≢◌, ℕ, suc, zero, ◌+◌, ◌-◌, ◌*◌, ◌/◌, ◌%◌, ◌<◌, Bool, true, false, cond, nat_eq, List, [], ◌∷◌, ◌++◌, length, get_or, drop, inl, inr, refl, sym, ap, ap₂, ◌∙◌, subst, arith, append_assoc}
use Rattle.std.specs.Prelude.{Contains, All}
use Rattle.std.specs.List.{IsDistinct}
use Rattle.std.proofs.lemmas.Bool.{eqb-true, eq-eqb, cases_lt, false_from_ne_true}
use Rattle.std.proofs.lemmas.List.{drop_more, drop-drop}
use Rattle.std.proofs.lemmas.Nat.{mod-mul-add, div-add-mod'}
use Rattle.std.proofs.lemmas.List.Elements.{All-cons, All-head, All-tail, All-from_recursion, recursion_from_All}
use Rattle.std.proofs.lemmas.Map.Keys.{IsDistinct-head, IsDistinct-tail, IsDistinct-cons}
use Rattle.cr_model.proofs.InOrder.{contains_cases, contains_more, none_held}
use Rattle.cr_model.proofs.Listed.{held_first}
use Rattle.cr_shard.specs.Deals.{dealt_from, dealt_nodes}

-- a number that leaves a remainder, and some more, that is less than what is divided by
wraps : (w q m r d : ℕ) → m ≡ q * w → r < w → 0 < d → d < w → (m + r + d) % w ≡ r → ⊥
wraps w q m r d is below some less same = elim (cases_lt (r + d) w) [
  | inl low ↦
      let plain : (q * w + (r + d)) % w ≡ r + d = mod-mul-add q w (r + d) low in
      let sum : m + r + d ≡ q * w + (r + d) = omega (arith, is) in
      let left : (m + r + d) % w ≡ r + d = ap (λ n. n % w) sum ∙ plain in
      absurd (omega (arith, left, same))
  | inr high ↦
      let fits : r + d - w < w = omega arith in
      let plain : ((q + 1) * w + (r + d - w)) % w ≡ r + d - w = mod-mul-add (q + 1) w (r + d - w) fits in
      let more : (q + 1) * w ≡ q * w + w = omega arith in
      let sum : m + r + d ≡ (q + 1) * w + (r + d - w) = omega (arith, is, more) in
      let left : (m + r + d) % w ≡ r + d - w = ap (λ n. n % w) sum ∙ plain in
      absurd (omega (arith, left, same))
]

-- what is divided by more
wraps_whole : (w q m r : ℕ) → m ≡ q * w → r < w → (m + r + w) % w ≡ r
wraps_whole w q m r is below =
    let more : (q + 1) * w ≡ q * w + w = omega arith in
    let sum : m + r + w ≡ (q + 1) * w + r = omega (arith, is, more) in
    ap (λ n. n % w) sum ∙ mod-mul-add (q + 1) w r below

-- the next number that leaves the same remainder, and those before it, which don't
pub next_turn : (into shard at : ℕ) → shard < into → at % into ≡ shard → (at + into) % into ≡ shard
next_turn into shard at below is =
    let whole : at / into * into + at % into ≡ at = div-add-mod' at into in
    let sum : at + into ≡ at / into * into + shard + into = omega (arith, whole, is) in
    ap (λ n. n % into) sum ∙ wraps_whole into (at / into) (at / into * into) shard refl below

pub others_turn : (into shard at d : ℕ) → shard < into → at % into ≡ shard → 0 < d → d < into → (at + d) % into ≢ shard
others_turn into shard at d below is some less = λ same.
    let whole : at / into * into + at % into ≡ at = div-add-mod' at into in
    let sum : at / into * into + shard + d ≡ at + d = omega (arith, whole, is) in
    wraps into (at / into) (at / into * into) shard d refl below some less (ap (λ n. n % into) sum ∙ same)

not_equal : (a b : ℕ) → a ≢ b → nat_eq a b ≡ false
not_equal a b other = false_from_ne_true (nat_eq a b) (λ h. other (eqb-true a b h))

-- positions that do not leave the remainder are passed over
skipped : (into shard : ℕ) (nodes : List (List ℕ)) (at k : ℕ) → ((d : ℕ) → d < k → (at + d) % into ≢ shard)
    → dealt_from into shard at nodes ≡ dealt_from into shard (at + k) (drop k nodes)
skipped into shard nodes at zero others = ap (λ n. dealt_from into shard n nodes) (omega arith)
skipped into shard [] at (suc k) others = refl
skipped into shard (node ∷ nodes) at (suc k) others =
    let here : (at + 0) % into ≢ shard = others 0 (omega arith) in
    let first : at % into ≢ shard = λ same. here (ap (λ n. n % into) (omega arith) ∙ same) in
    let later : (d : ℕ) → d < k → (at + 1 + d) % into ≢ shard = λ d below same.
    let sum : at + (d + 1) ≡ at + 1 + d = omega arith in
    others (d + 1) (omega arith) (ap (λ n. n % into) sum ∙ same) in
    let sum : at + 1 + k ≡ at + suc k = omega arith in
    ap (λ t. cond t (node ∷ []) [] ++ dealt_from into shard (at + 1) nodes) (not_equal (at % into) shard first)
    ∙ skipped into shard nodes (at + 1) k later ∙ ap (λ n. dealt_from into shard n (drop k nodes)) sum

-- what is dealt from a position that leaves the remainder: the node there, and what is dealt a round later
pub one_round : (into shard : ℕ) (nodes : List (List ℕ)) (at place : ℕ) (d : List ℕ) → shard < into → at % into ≡ shard → place < length nodes
    → dealt_from into shard at (drop place nodes) ≡ get_or nodes place d ∷ dealt_from into shard (at + into) (drop (place + into) nodes)
one_round into shard nodes at place d below is inside =
    let rest : List (List ℕ) = drop (place + 1) nodes in
    let others : (k : ℕ) → k < into - 1 → (at + 1 + k) % into ≢ shard = λ k less same.
    let sum : at + (k + 1) ≡ at + 1 + k = omega arith in
    others_turn into shard at (k + 1) below is (omega arith) (omega arith) (ap (λ n. n % into) sum ∙ same) in
    let round : at + 1 + (into - 1) ≡ at + into = omega arith in
    let far : place + 1 + (into - 1) ≡ place + into = omega arith in
    ap (dealt_from into shard at) (drop_more nodes place d inside)
    ∙ ap (λ t. cond t (get_or nodes place d ∷ []) [] ++ dealt_from into shard (at + 1) rest) (eq-eqb (at % into) shard is)
    ∙ ap (λ l. get_or nodes place d ∷ l)
    (skipped into shard rest (at + 1) (into - 1) others
    ∙ ap₂ (dealt_from into shard) round (drop-drop (into - 1) (place + 1) nodes ∙ ap (λ n. drop n nodes) far))

-- a node that is dealt stands at a position that leaves the remainder
abbrev pub Stands : ℕ → ℕ → List (List ℕ) → ℕ → List ℕ → Type 0
Stands into shard nodes at node = (i : ℕ) × (i < length nodes) × ((at + i) % into ≡ shard) × (get_or nodes i node ≡ node)

stands_later : (into shard : ℕ) (first : List ℕ) (nodes : List (List ℕ)) (at : ℕ) (node : List ℕ) → Stands into shard nodes (at + 1) node
    → Stands into shard (first ∷ nodes) at node
stands_later into shard first nodes at node h =
    let sum : at + suc h.0 ≡ at + 1 + h.0 = omega arith in
    (suc h.0, omega (arith, h.1), ap (λ n. n % into) sum ∙ h.2, h.3)

pub dealt_stands : (into shard : ℕ) (nodes : List (List ℕ)) (at : ℕ) (node : List ℕ) → Contains (dealt_from into shard at nodes) node
    → Stands into shard nodes at node
dealt_stands into shard [] at node held = absurd (none_held node held)
dealt_stands into shard (first ∷ nodes) at node held = by (nat_eq (at % into) shard) refl held (dealt_stands into shard nodes (at + 1) node)
  where
    by : (t : Bool) → nat_eq (at % into) shard ≡ t → Contains (cond t (first ∷ []) [] ++ dealt_from into shard (at + 1) nodes) node
        → (Contains (dealt_from into shard (at + 1) nodes) node → Stands into shard nodes (at + 1) node)
        → Stands into shard (first ∷ nodes) at node
    by true is held later = elim (contains_cases first node (dealt_from into shard (at + 1) nodes) held) [
      | inl same ↦
          let sum : at + 0 ≡ at = omega arith in
          (0, omega arith, ap (λ n. n % into) sum ∙ eqb-true (at % into) shard is, same)
      | inr behind ↦ stands_later into shard first nodes at node (later behind)
    ]
    by false is held later = stands_later into shard first nodes at node (later held)

-- a node at a position that leaves the remainder is dealt
pub stands_dealt : (into shard : ℕ) (nodes : List (List ℕ)) (at i : ℕ) (d : List ℕ) → i < length nodes → (at + i) % into ≡ shard
    → Contains (dealt_from into shard at nodes) (get_or nodes i d)
stands_dealt into shard [] at i d inside is = absurd (omega (arith, inside))
stands_dealt into shard (first ∷ nodes) at zero d inside is =
    let sum : at ≡ at + zero = omega arith in
    let here : nat_eq (at % into) shard ≡ true = eq-eqb (at % into) shard (ap (λ n. n % into) sum ∙ is) in
    subst (λ (t : Bool). Contains (cond t (first ∷ []) [] ++ dealt_from into shard (at + 1) nodes) first) (sym here)
    (held_first first (dealt_from into shard (at + 1) nodes))
stands_dealt into shard (first ∷ nodes) at (suc i) d inside is =
    let sum : at + 1 + i ≡ at + suc i = omega arith in
    by (nat_eq (at % into) shard) (stands_dealt into shard nodes (at + 1) i d (omega (arith, inside)) (ap (λ n. n % into) sum ∙ is))
  where
    by : (t : Bool) → Contains (dealt_from into shard (at + 1) nodes) (get_or nodes i d)
        → Contains (cond t (first ∷ []) [] ++ dealt_from into shard (at + 1) nodes) (get_or nodes i d)
    by true held = contains_more first (get_or nodes i d) (dealt_from into shard (at + 1) nodes) held
    by false held = held

-- what holds of all nodes holds of those that are dealt
pub dealt_all : (P : List ℕ → Type 0) (into shard : ℕ) (nodes : List (List ℕ)) (at : ℕ) → All P nodes → All P (dealt_from into shard at nodes)
dealt_all P into shard [] at all = all
dealt_all P into shard (first ∷ nodes) at all =
    by (nat_eq (at % into) shard) (dealt_all P into shard nodes (at + 1) (All-tail P first nodes all))
  where
    by : (t : Bool) → All P (dealt_from into shard (at + 1) nodes) → All P (cond t (first ∷ []) [] ++ dealt_from into shard (at + 1) nodes)
    by true rest = All-cons P first (dealt_from into shard (at + 1) nodes) (All-head P first nodes all) rest
    by false rest = rest

-- nodes that are apart stay so
pub dealt_apart : (e : List ℕ → List ℕ → Bool) (into shard : ℕ) (nodes : List (List ℕ)) (at : ℕ) → IsDistinct e nodes
    → IsDistinct e (dealt_from into shard at nodes)
dealt_apart e into shard [] at apart = apart
dealt_apart e into shard (first ∷ nodes) at apart =
    by (nat_eq (at % into) shard) (dealt_apart e into shard nodes (at + 1) (IsDistinct-tail e first nodes apart))
  where
    by : (t : Bool) → IsDistinct e (dealt_from into shard (at + 1) nodes)
        → IsDistinct e (cond t (first ∷ []) [] ++ dealt_from into shard (at + 1) nodes)
    by true rest = IsDistinct-cons e first (dealt_from into shard (at + 1) nodes)
        (recursion_from_All (λ y. e first y ≡ false) (dealt_from into shard (at + 1) nodes)
        (dealt_all (λ y. e first y ≡ false) into shard nodes (at + 1)
        (All-from_recursion (λ y. e first y ≡ false) nodes (IsDistinct-head e first nodes apart))))
        rest
    by false rest = rest

-- positions before the shard's number are not dealt to it
pub first_round : (into shard : ℕ) (nodes : List (List ℕ)) → shard < into
    → (shard % into ≡ shard) × (dealt_from into shard shard (drop shard nodes) ≡ dealt_nodes into shard nodes)
first_round into shard nodes below =
    let small : (n : ℕ) → n < into → n % into ≡ n = λ n less. ap (λ k. k % into) (omega arith) ∙ mod-mul-add 0 into n less in
    let sum : 0 + shard ≡ shard = omega arith in (
      small shard below,
      sym (skipped into shard nodes 0 shard (λ d less same.
          let plain : (0 + d) % into ≡ d = ap (λ k. k % into) (omega arith) ∙ small d (omega arith) in
          absurd (omega (arith, plain, same, less))) ∙ ap (λ n. dealt_from into shard n (drop shard nodes)) sum),
    )

-- one node more
pub round_more : (into shard : ℕ) (nodes dealt whole : List (List ℕ)) (place : ℕ) (node : List ℕ) → shard < into → place % into ≡ shard
    → place < length nodes → node ≡ get_or nodes place [] → dealt ++ dealt_from into shard place (drop place nodes) ≡ whole
    → ((place + into) % into ≡ shard) × ((dealt ++ node ∷ []) ++ dealt_from into shard (place + into) (drop (place + into) nodes) ≡ whole)
round_more into shard nodes dealt whole place node below is inside read so_far =
    let rest = dealt_from into shard (place + into) (drop (place + into) nodes) in (
      next_turn into shard place below is,
      append_assoc dealt (node ∷ []) rest ∙ ap (λ n. dealt ++ n ∷ rest) read ∙ ap (λ l. dealt ++ l) (sym (one_round into shard nodes place place [] below is inside)) ∙ so_far,
    )
