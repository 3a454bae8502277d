-- Room for a set: as much as another list of its rows takes, or as there are pairs of rows.
use Rattle.std.proofs.Common.{◌≡◌, ◌⊎◌, ℕ, zero, suc, ◌+◌, ◌*◌, ◌<◌, ◌≤◌, Bool, true, false, cond, true≢false, List, [], ◌∷◌, ◌++◌, length, get_or, map, flat_map, take, drop, inl, inr, refl, sym, ap, ◌∙◌, subst, arith, bytes_eq, length-append}
use Rattle.std.specs.Prelude.{Contains}
use Rattle.std.proofs.Math.Nat.{suc-mul}
use Rattle.std.proofs.lemmas.Cmp.{nat_list_eq_equiv}
use Rattle.std.proofs.lemmas.List.{take_more, take-append-drop}
use Rattle.std.proofs.lemmas.List.Elements.{Contains-append_left, Contains-append_right, Contains-append_cases, Contains-push_cases, All-contains}
use Rattle.std.proofs.lemmas.Map.Made.{length-le_from_is_member, is_member-Decides}
use Rattle.std.proofs.lemmas.Slice.Eq.{bytes_eq-Decides}
use Rattle.cr_row.specs.Rows.{IsRow, product, IsInverse}
use Rattle.cr_leads.specs.Tables.{AreRows}
use Rattle.cr_rowset.specs.Stacks.{StackParts, AllDiffer}
use Rattle.cr_rowset.specs.Pushing.{Pushes}
use Rattle.cr_rowset.specs.declared.pushed.Pushed.TheVariants.{Fresh, Full}
use Rattle.cr_false.specs.Sets.{IsFalse, IsSetOf, IsRoomFor, HasNumber, Adds, AreAlike}
use Rattle.cr_false.proofs.Numbers.{distinct}
use Rattle.cr_false.proofs.Adding.{StayDifferent, QuotientLaws, in_map, from_map, false_more}

-- different rows that all stand in a list are no more than its rows
pub no_longer : (rows list : List (List ℕ)) → AllDiffer rows → ((g : List ℕ) → Contains rows g → Contains list g) → length rows ≤ length list
no_longer rows list differ inside =
    length-le_from_is_member nat_list_eq_equiv rows list (distinct rows differ) (λ q h.
    (is_member-Decides bytes_eq-Decides list q).1 (inside q ((is_member-Decides bytes_eq-Decides rows q).0 h)))

-- for fewer members there is room as well
pub room_for_fewer : (member other : List ℕ → Type 0) (room : ℕ) → IsRoomFor member room → ((g : List ℕ) → other g → member g) → IsRoomFor other room
room_for_fewer member other room is fewer = record { enough = λ rows differ all. is.enough rows differ (λ g has. fewer g (all g has)) }

-- a set has room for itself
pub room_of_number : (member : List ℕ → Type 0) (number : ℕ) → HasNumber member number → IsRoomFor member number
room_of_number member number has = record {
  enough = λ rows differ all. subst (λ n. length rows ≤ n) has.counted (no_longer rows has.rows differ (λ g h. (has.is.all g).1 (all g h)));
}

-- what a list of one thing has
alone : {X : Type 0} (x y : X) → Contains (x ∷ []) y → x ≡ y
alone x y (zero, within, at) = at
alone x y (suc n, within, at) = absurd (omega (arith, within))

-- the first of some rows that times s is r, if there is one
abbrev chosen : List ℕ → List ℕ → List (List ℕ) → List (List ℕ)
chosen s r [] = []
chosen s r (g ∷ gs) = cond (bytes_eq (product g s) r) (g ∷ []) (chosen s r gs)

one_chosen : (s r : List ℕ) (gs : List (List ℕ)) → length (chosen s r gs) ≤ 1
one_chosen s r [] = omega arith
one_chosen s r (g ∷ gs) = by (bytes_eq (product g s) r) (one_chosen s r gs)
  where
    by : (b : Bool) → length (chosen s r gs) ≤ 1 → length (cond b (g ∷ []) (chosen s r gs)) ≤ 1
    by true few = omega arith
    by false few = few

is_chosen : (s r : List ℕ) (gs : List (List ℕ)) (g : List ℕ) → Contains gs g → product g s ≡ r
    → ((h : List ℕ) → Contains gs h → product h s ≡ r → h ≡ g) → Contains (chosen s r gs) g
is_chosen s r [] g has is only = absurd (omega (arith, has.1))
is_chosen s r (h ∷ gs) g has is only =
    by (bytes_eq (product h s) r) refl (λ later. is_chosen s r gs g later is (λ k within. only k (Contains-append_right (h ∷ []) gs k within)))
  where
    by : (b : Bool) → bytes_eq (product h s) r ≡ b → (Contains gs g → Contains (chosen s r gs) g) → Contains (cond b (h ∷ []) (chosen s r gs)) g
    by true e rest = (0, omega arith, only h (0, omega arith, refl) ((bytes_eq-Decides (product h s) r).0 e))
    by false e rest = elim (Contains-append_cases (h ∷ []) gs g has) [
      | inl first ↦ absurd (true≢false (sym ((bytes_eq-Decides (product h s) r).1 (ap (λ (row : List ℕ). product row s) (alone h g first) ∙ is)) ∙ e))
      | inr later ↦ rest later
    ]

-- lists of at most so many, joined
joined_few : {X : Type 0} (f : X → List (List ℕ)) (most : ℕ) → ((x : X) → length (f x) ≤ most) → (xs : List X) → length (flat_map f xs) ≤ length xs * most
joined_few f most few [] = omega arith
joined_few f most few (x ∷ xs) =
    let more = suc-mul (length xs) most in
    let long = length-append (f x) (flat_map f xs) in
    omega (arith, few x, joined_few f most few xs, long, more)

in_joined : {X : Type 0} (f : X → List (List ℕ)) (x : X) (g : List ℕ) (xs : List X) → Contains xs x → Contains (f x) g → Contains (flat_map f xs) g
in_joined f x g [] has inside = absurd (omega (arith, has.1))
in_joined f x g (y ∷ xs) has inside = elim (Contains-append_cases (y ∷ []) xs x has) [
  | inl first ↦ Contains-append_left (f y) (flat_map f xs) g (subst (λ z. Contains (f z) g) (sym (alone y x first)) inside)
  | inr later ↦ Contains-append_right (f y) (flat_map f xs) g (in_joined f x g xs later inside)
]

-- a row is told by its product with another
abbrev pub RowsCancel : Type 0
RowsCancel = (g h r : List ℕ) → IsRow r → length g ≡ length r → length h ≡ length r → product g r ≡ product h r → g ≡ h

-- no more rows are false than there are pairs of rows
pub room_of_pairs : RowsCancel → (stage : ℕ) (rows others : List (List ℕ)) (most : ℕ) → AreRows stage others → most ≡ length others * length rows
    → IsRoomFor (IsFalse rows others) most
room_of_pairs cancel stage rows others most are is = record {
  enough = λ gs differ all.
      let some = λ (s : List ℕ). flat_map (λ r. chosen s r gs) rows in
      let one_each : length rows * 1 ≡ length rows = omega arith in
      let few_each = λ (s : List ℕ). subst (λ n. length (some s) ≤ n) one_each (joined_few (λ r. chosen s r gs) 1 (λ r. one_chosen s r gs) rows) in
      let few = joined_few some (length rows) few_each others in
      let long = no_longer gs (flat_map some others) differ (λ g has.
      let f = all g has in
      in_joined some f.second g others f.has_second (in_joined (λ r. chosen f.second r gs) f.first g rows f.has_first
      (is_chosen f.second f.first gs g has f.is (λ h inside same. one gs all g h f.second f.has_second f.same_length (f.is ∙ sym same) inside)))) in
      omega (arith, few, long, is);
}
  where
    staged : (s : List ℕ) → Contains others s → IsRow s × (length s ≡ stage)
    staged s has = All-contains (λ row. IsRow row × (length row ≡ stage)) others s are has

    one : (gs : List (List ℕ)) → ((g : List ℕ) → Contains gs g → IsFalse rows others g) → (g h s : List ℕ) → Contains others s → length g ≡ length s
        → product g s ≡ product h s → Contains gs h → h ≡ g
    one gs all g h s has long same inside =
        let other = all h inside in
        let here = staged s has in
        let there = staged other.second other.has_second in
        cancel h g s here.0 (other.same_length ∙ there.1 ∙ sym here.1) long (sym same)

-- no stack is full before the last member is in it
pub never_full : StayDifferent → (old more : List (List ℕ)) (room : ℕ) (taken : List (List ℕ)) (set new : StackParts) (row : List ℕ)
    → AllDiffer old → IsRoomFor (λ g. Contains old g ⊎ Contains more g) room → Adds old taken set.rows
    → ((g : List ℕ) → Contains taken g → Contains more g) → Contains more row → set.room ≡ room → Pushes set row Full new → ⊥
never_full stay old more room taken set new row differ enough adds inside has same pushes =
    let wider : StackParts = record { rows = set.rows; room = length set.rows + 1 } in
    let grown : StackParts = record { rows = set.rows ++ row ∷ []; room = length set.rows + 1 } in
    let all_differ : AllDiffer (set.rows ++ row ∷ []) =
    stay wider grown row Fresh (adds.differ differ) (pushes.0, (let more : length set.rows < length set.rows + 1 = omega arith in more), refl) in
    let member = λ (g : List ℕ) (h : Contains (set.rows ++ row ∷ []) g). cases g (Contains-push_cases set.rows row g h) in
    let few : length (set.rows ++ row ∷ []) ≤ room = enough.enough (set.rows ++ row ∷ []) all_differ member in
    omega (arith, few, length-append set.rows (row ∷ []), pushes.1, same)
  where
    cases : (g : List ℕ) → Contains set.rows g ⊎ (row ≡ g) → Contains old g ⊎ Contains more g
    cases g (inl k) = elim ((adds.all g).0 k) [ inl o ↦ inl o | inr t ↦ inr (inside g t) ]
    cases g (inr e) = inr (subst (λ (r : List ℕ). Contains more r) e has)

in_first : (rows : List (List ℕ)) (index : ℕ) (row : List ℕ) → Contains (take index rows) row → Contains rows row
in_first rows index row has = subst (λ (list : List (List ℕ)). Contains list row) (take-append-drop index rows) (Contains-append_left (take index rows) (drop index rows) row has)

-- what is made of the first rows is made of them all
pub in_first_mapped : (f : List ℕ → List ℕ) (rows : List (List ℕ)) (index : ℕ) (g : List ℕ) → Contains (map f (take index rows)) g → Contains (map f rows) g
in_first_mapped f rows index g has =
    let (row, inside, is) = from_map f (take index rows) g has in
    subst (λ (r : List ℕ). Contains (map f rows) r) (sym is) (in_map f rows row (in_first rows index row inside))

false_of_first : (rows others : List (List ℕ)) (index : ℕ) (g : List ℕ) → IsFalse rows (take index others) g → IsFalse rows others g
false_of_first rows others index g f = record {
  first = f.first;
  second = f.second;
  has_first = f.has_first;
  has_second = in_first others index f.second f.has_second;
  same_length = f.same_length;
  is = f.is;
}

-- the products with one more inverse have room where all false rows have
pub room_for_products : QuotientLaws → (rows others : List (List ℕ)) (index : ℕ) (item inverse : List ℕ) (set : StackParts) (room : ℕ)
    → AreAlike rows others → IsInverse item inverse → index < length others → item ≡ get_or others index []
    → IsSetOf (IsFalse rows (take index others)) set.rows → set.room ≡ room → IsRoomFor (IsFalse rows others) room
    → IsRoomFor (λ g. Contains set.rows g ⊎ Contains (map (λ row. product row inverse) rows) g) set.room
room_for_products laws rows others index item inverse set room alike undoes within at is same enough =
    let right : IsRow item × (length item ≡ alike.stage) = subst (λ (r : List ℕ). IsRow r × (length r ≡ alike.stage)) (sym at) (alike.others_are index [] within) in
    let longer : take (index + 1) others ≡ take index others ++ item ∷ [] =
    take_more others index [] within ∙ ap (λ (r : List ℕ). take index others ++ r ∷ []) (sym at) in
    subst (IsRoomFor (λ g. Contains set.rows g ⊎ Contains (map (λ row. product row inverse) rows) g)) (sym same)
    (room_for_fewer (IsFalse rows others) (λ g. Contains set.rows g ⊎ Contains (map (λ row. product row inverse) rows) g) room enough (λ g h. elim h [
      | inl k ↦ false_of_first rows others index g ((is.all g).0 k)
      | inr k ↦ false_of_first rows others (index + 1) g (subst (λ (list : List (List ℕ)). IsFalse rows list g) (sym longer)
          ((false_more laws alike.stage rows (take index others) item inverse right.0 right.1 alike.rows_are undoes g).1 (inr k)))
    ]))
