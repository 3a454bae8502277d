-- What the rule of a lane says of each number.
use Rattle.std.proofs.Common.{◌≡◌, ℕ, ◌+◌, ◌<◌, ◌≤◌, ◌↔◌, true, false, cond, List, [], ◌∷◌, ◌++◌, length, refl, sym, ap, ◌∙◌, subst, eqb, ⊎_elim, arith}
use Rattle.std.specs.List.{AllByRecursion}
use Rattle.std.proofs.lemmas.Bool.{eqb-true, ne_eqb, cases_Bool, cond-true, cond-false}
use Rattle.cr_lanes.specs.declared.known.Known.{Known}
use Rattle.cr_lanes.specs.Lane.{times, Ascends, end, total, IsLane, LaneRule}
use Rattle.cr_lanes.specs.Steps.{HeldAtMost}
use Rattle.cr_lanes.specs.Ends.{EndParts, EndKnows}
use Rattle.cr_lanes.proofs.Steps.{begins, settled, of_end}

-- what is above a number is other numbers
none_above : (x : ℕ) (xs : List ℕ) → AllByRecursion (λ y. x < y) xs → times x xs ≡ 0
none_above x [] a = refl
none_above x (y ∷ xs) a =
    let here : cond {A = ℕ} (eqb x y) 1 0 ≡ 0 = cond-false (eqb x y) 1 0 (ne_eqb x y (λ e. let up : x < y = a.0 in omega arith)) in
    let rest : times x xs ≡ 0 = none_above x xs a.1 in
    omega arith

pub once : (xs : List ℕ) (x : ℕ) → Ascends xs → times x xs ≤ 1
once [] x up = omega arith
once (y ∷ xs) x up = ⊎_elim
    (λ (same : eqb x y ≡ true).
    let here : cond {A = ℕ} (eqb x y) 1 0 ≡ 1 = cond-true (eqb x y) 1 0 same in
    let rest : times x xs ≡ 0 = none_above x xs (subst (λ z. AllByRecursion (λ w. z < w) xs) (sym (eqb-true x y same)) up.0) in
    omega arith)
    (λ (differs : eqb x y ≡ false).
    let here : cond {A = ℕ} (eqb x y) 1 0 ≡ 0 = cond-false (eqb x y) 1 0 differs in
    let rest : times x xs ≤ 1 = once xs x up.1 in
    omega arith)
    (cases_Bool (eqb x y))

pub in_one_place : (items : List ℕ) (e : Known) (others : List Known) (x : ℕ) → LaneRule items (e ∷ others) → times x items + times x e.taken + times x e.gone + total (λ v. times x v.stolen) others ≤ 1
in_one_place items e others x h = let all = h.counted x in let put = once e.put x h.ascends in omega arith

nothing : (front items : List ℕ) → [] ≡ front ++ items → items ≡ []
nothing [] items e = sym e
nothing (x ∷ front) items e = cc

pub new_is_empty : (items : List ℕ) → LaneRule items (end [] [] [] 0 ∷ []) ↔ (items ≡ [])
new_is_empty items = ((λ h. nothing h.left.0 items h.left.1), (λ e. subst (λ l. LaneRule l (end [] [] [] 0 ∷ [])) (sym e) begins))

empty : (items : List ℕ) → length items ≤ 0 → items ≡ []
empty [] few = refl
empty (x ∷ items) few = absurd (omega arith)

-- a lane without a pass that is out, and with nothing in it
all_taken : (items : List ℕ) (v : Known) (others : List Known) (x : ℕ) → length items ≤ 0 → v.lent ≡ 0 → IsLane v items others → times x v.put ≡ times x v.taken + times x v.gone
all_taken items v others x few none h =
    let all = settled v items others h none x in
    let no_more : times x items ≡ 0 = ap (times x) (empty items few) in
    omega arith

pub takes_all : (e : EndParts) (x : ℕ) → HeldAtMost 0 (EndKnows e) → e.lent ≡ 0 → times x e.put ≡ times x e.taken + times x e.gone
takes_all e x h none =
    let v : Known = h.known in
    let is_end = h.told.0 in
    let all : times x v.put ≡ times x v.taken + times x v.gone =
    of_end (λ v views items port. length items ≤ 0 → v.lent ≡ 0 → times x v.put ≡ times x v.taken + times x v.gone) h.items h.views h.port v is_end h.rule h.there (λ others lane few idle. all_taken h.items v others x few idle lane) h.few (h.told.1 ∙ none) in
    omega (arith, ap (times x) h.told.2, ap (times x) h.told.3, ap (times x) h.told.4)
