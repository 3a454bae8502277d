-- Places checked from first to last.
use Rattle.std.proofs.Common.{◌≡◌, ◌↔◌, ℕ, ◌+◌, ◌-◌, ◌%◌, ◌<◌, ◌≤◌, List, [], ◌∷◌, length, get_or, drop, refl, ap, sym, ◌∙◌, subst, arith, inl, inr}
use Rattle.std.proofs.lemmas.List.{drop_more, drop_all}
use Rattle.cr_row.specs.Rows.{IsNext, IsChain}
use Rattle.cr_row.specs.PlaceFaults.{IsWrongPlace, IsFirstFault}
use Rattle.cr_row.specs.declared.faults.PlaceFault.{PlaceFault}
use Rattle.cr_row.specs.declared.faults.PlaceFault.TheVariants.{Above, Order, Gap}
use Rattle.cr_row.proofs.Masking.{chain_low}

-- the places that are left, after this one, decide what all of them are
pub record Checked (n before : ℕ) (left all : List ℕ) : Type 0 where
  pub low : before ≤ n
  pub chain : IsChain n before left ↔ IsChain n 0 all
  pub fault : (f : PlaceFault) → IsFirstFault n before left f → IsFirstFault n 0 all f

pub checked_none : (n : ℕ) (all : List ℕ) → Checked n 0 all all
checked_none n all = record { low = omega arith; chain = (λ h. h, λ h. h); fault = λ f h. h }

-- one place more is right
pub checked_more : (n before i : ℕ) (all : List ℕ) → i < length all → get_or all i 0 ≤ n
    → IsNext before (get_or all i 0) → Checked n before (drop i all) all
    → Checked n (get_or all i 0) (drop (i + 1) all) all
checked_more n before i all inside few next checked =
    let here : drop i all ≡ get_or all i 0 ∷ drop (i + 1) all = drop_more all i 0 inside in
    record {
      low = few;
      chain = (λ h. checked.chain.0 (subst (IsChain n before) (sym here) (next, h)), λ h. (subst (IsChain n before) here (checked.chain.1 h)).1);
      fault = λ f h. checked.fault f (subst (λ (l : List ℕ). IsFirstFault n before l f) (sym here) (inr (few, next, h)));
    }

-- this place is wrong
pub found : (n before i : ℕ) (all : List ℕ) (f : PlaceFault) → i < length all
    → IsWrongPlace n before (get_or all i 0) f → Checked n before (drop i all) all → IsFirstFault n 0 all f
found n before i all f inside wrong checked =
    checked.fault f (subst (λ (l : List ℕ). IsFirstFault n before l f) (sym (drop_more all i 0 inside)) (inl wrong))

-- the gap after the last place is wrong
pub found_end : (n before i : ℕ) (all : List ℕ) → length all ≤ i → (n + 1 - before) % 2 ≡ 0
    → Checked n before (drop i all) all → IsFirstFault n 0 all (Gap (n + 1))
found_end n before i all past even checked =
    checked.fault (Gap (n + 1)) (subst (λ (l : List ℕ). IsFirstFault n before l (Gap (n + 1))) (sym (drop_all i all past)) (refl, even))

-- all places and the end are right
pub right_to_end : (n before i : ℕ) (all : List ℕ) → length all ≤ i → IsNext before (n + 1)
    → Checked n before (drop i all) all → IsChain n 0 all
right_to_end n before i all past next checked = checked.chain.0 (subst (IsChain n before) (sym (drop_all i all past)) next)

-- a place that is wrong does not follow within the stage
not_wrong : (n before place : ℕ) (f : PlaceFault) → IsWrongPlace n before place f → place ≤ n → IsNext before place → ⊥
not_wrong n before place (Above p) wrong few next = omega (arith, wrong.1)
not_wrong n before place (Order p) wrong few next = omega (arith, wrong.2, next.0)
not_wrong n before place (Gap p) wrong few next = omega (arith, wrong.3, next.1)

-- the places of a change have no fault
pub no_fault : (n before : ℕ) (places : List ℕ) (f : PlaceFault) → IsFirstFault n before places f
    → IsChain n before places → ⊥
no_fault n before [] f fault change = omega (arith, fault.1, change.1)
no_fault n before (place ∷ places) f (inl wrong) change = not_wrong n before place f wrong (chain_low n place places change.1) change.0
no_fault n before (place ∷ places) f (inr later) change = no_fault n place places f later.2 change.1

-- what is wrong with a place is one thing
one_wrong : (n before place : ℕ) (f g : PlaceFault) → IsWrongPlace n before place f → IsWrongPlace n before place g
    → f ≡ g
one_wrong n before place (Above p) (Above q) a b = ap Above (a.0 ∙ sym b.0)
one_wrong n before place (Above p) (Order q) a b = absurd (omega (arith, a.1, b.1))
one_wrong n before place (Above p) (Gap q) a b = absurd (omega (arith, a.1, b.1))
one_wrong n before place (Order p) (Above q) a b = absurd (omega (arith, a.1, b.1))
one_wrong n before place (Order p) (Order q) a b = ap Order (a.0 ∙ sym b.0)
one_wrong n before place (Order p) (Gap q) a b = absurd (omega (arith, a.2, b.2))
one_wrong n before place (Gap p) (Above q) a b = absurd (omega (arith, a.1, b.1))
one_wrong n before place (Gap p) (Order q) a b = absurd (omega (arith, a.2, b.2))
one_wrong n before place (Gap p) (Gap q) a b = ap Gap (a.0 ∙ sym b.0)

pub one_fault : (n before : ℕ) (places : List ℕ) (f g : PlaceFault) → IsFirstFault n before places f
    → IsFirstFault n before places g → f ≡ g
one_fault n before [] f g a b = a.0 ∙ sym b.0
one_fault n before (place ∷ places) f g (inl a) (inl b) = one_wrong n before place f g a b
one_fault n before (place ∷ places) f g (inl a) (inr b) = absurd (not_wrong n before place f a b.0 b.1)
one_fault n before (place ∷ places) f g (inr a) (inl b) = absurd (not_wrong n before place g b a.0 a.1)
one_fault n before (place ∷ places) f g (inr a) (inr b) = one_fault n place places f g a.2 b.2
