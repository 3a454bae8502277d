-- Where some items overlap, there is a first pair.
use Rattle.std.proofs.Common.{◌≡◌, ℕ, zero, suc, ◌+◌, ◌<◌, ◌⊎◌, true, List, length, Option, Some, None, inl, inr, sym, ◌∙◌, subst, arith}
use Rattle.std.proofs.lemmas.Bool.{true≢false}
use Rattle.std.specs.Ordering.{nat_cmp, is_lt}
use Rattle.std.specs.Cmp.Lexicographic.{slice_cmp}
use Rattle.std.proofs.lemmas.Bool.{cases_Bool}
use Rattle.cr_node.specs.Overlaps.{Item, item_at, overlaps, ApartBelow, IsLeastBelow, IsFirstOverlap, TellsLeast}
use Rattle.cr_node.proofs.Order.{less_test}
use Rattle.cr_node.proofs.Least.{keeps, starts, takes, stays, one_more_apart}

abbrev Least : List Item → Item → ℕ → Type 0
Least all item number = (least : Option ℕ) × TellsLeast all item number least

-- one number more
next : (all : List Item) (item : Item) (number : ℕ) (least : Option ℕ) → TellsLeast all item number least → Least all item (number + 1)
next all item number least tells = elim (cases_Bool (overlaps (item_at all number) item)) [
  | inl meets ↦ joined least tells meets
  | inr apart ↦ (least, keeps all item number least tells apart)
]
  where
    joined : (least : Option ℕ) → TellsLeast all item number least → overlaps (item_at all number) item ≡ true
        → (o : Option ℕ) × TellsLeast all item (number + 1) o
    joined None none meets = (Some number, starts all item number none meets)
    joined (Some best) first meets = elim (cases_Bool (is_lt (slice_cmp nat_cmp (item_at all number).word (item_at all best).word))) [
      | inl less ↦ (Some number, takes all item number best first meets ((less_test (slice_cmp nat_cmp (item_at all number).word (item_at all best).word)).0 less))
      | inr not_less ↦ (
        Some best,
        stays all item number best first (λ less.
            true≢false (sym ((less_test (slice_cmp nat_cmp (item_at all number).word (item_at all best).word)).1 less) ∙ not_less)),
      )
    ]

least_of : (all : List Item) (item : Item) (number : ℕ) → Least all item number
least_of all item zero = (None, λ k below. absurd (omega (arith, below)))
least_of all item (suc number) =
    let one : number + 1 ≡ suc number = omega arith in
    let (least, tells) = least_of all item number in
    subst (λ (n : ℕ). Least all item n) one (next all item number least tells)

abbrev Found : List Item → ℕ → Type 0
Found all number = (i j : ℕ) × (j < number) × ApartBelow all j × IsLeastBelow all (item_at all j) j i

-- the first items are apart, or a pair overlaps there
apart_or_found : (all : List Item) (number : ℕ) → ApartBelow all number ⊎ Found all number
apart_or_found all zero = inl (λ i j less below. absurd (omega (arith, below)))
apart_or_found all (suc number) = elim (apart_or_found all number) [
  | inl apart ↦ more apart (least_of all (item_at all number) number)
  | inr found ↦ inr (found.0, found.1, omega (arith, found.2), found.3, found.4)
]
  where
    more : ApartBelow all number → Least all (item_at all number) number → ApartBelow all (suc number) ⊎ Found all (suc number)
    more apart (None, none) =
        let one : number + 1 ≡ suc number = omega arith in
        inl (subst (λ (n : ℕ). ApartBelow all n) one (one_more_apart all number apart none))
    more apart (Some i, first) = inr (i, number, omega arith, apart, first)

-- where some items overlap, a pair is the first
pub some_pair : (all : List Item) → (ApartBelow all (length all) → ⊥) → (i j : ℕ) × IsFirstOverlap all i j
some_pair all overlap = elim (apart_or_found all (length all)) [
  | inl apart ↦ absurd (overlap apart)
  | inr found ↦ (found.0, found.1, record { inside = found.2; apart = found.3; least = found.4 })
]
