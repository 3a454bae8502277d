-- Extents, and the least of some numbers.
use Rattle.std.proofs.Common.{◌≡◌, ℕ, zero, suc, ◌+◌, ◌<◌, ◌≤◌, min, List, [], ◌∷◌, ◌++◌, length, get_or, map, take, refl, ap, sym, ◌∙◌, arith}
use Rattle.std.specs.List.{range_with_len}
use Rattle.std.proofs.lemmas.List.{take_more, length-take-le, length-map}
use Rattle.std.proofs.lemmas.List.FromFn.{get_or-map-range_with_len}
use Rattle.std.specs.Prelude.{sum_by}
use Rattle.std.proofs.lemmas.List.Concat.{length-flat_map}
use Rattle.cr_model.specs.Problems.{LeadParts, ProblemParts}
use Rattle.cr_model.specs.Callings.{least, changes_at, changes_of, length_of}
use Rattle.cr_model.specs.Limits.{most_lead_changes}
use Rattle.cr_model.specs.Right.{LeadsAreRight}
use Rattle.cr_model.specs.Queries.{extent}

-- the extents on 0 to 16 bells
abbrev pub table : List ℕ
table = 1 ∷ 1 ∷ 2 ∷ 6 ∷ 24 ∷ 120 ∷ 720 ∷ 5040 ∷ 40320 ∷ 362880 ∷ 3628800 ∷ 39916800 ∷ 479001600 ∷ 6227020800 ∷ 87178291200 ∷ 1307674368000 ∷ 20922789888000 ∷ []

extents : map extent (range_with_len 0 17) ≡ table
unfolding extent
extents = refl

pub extent_is : (n : ℕ) → n ≤ 16 → get_or table n 0 ≡ extent n
extent_is n few = ap (λ xs. get_or xs n 0) (sym extents) ∙ get_or-map-range_with_len extent 0 17 n n 0 (omega arith) (omega arith)

least_push : (x : ℕ) (xs : List ℕ) (y : ℕ) → least (x ∷ (xs ++ y ∷ [])) ≡ min (least (x ∷ xs)) y
least_push x [] y = refl
least_push x (z ∷ zs) y = let rest = least_push z zs y in omega arith

-- one number more
pub least_more : (xs : List ℕ) (i : ℕ) → 1 ≤ i → i < length xs
    → least (take (i + 1) xs) ≡ min (least (take i xs)) (get_or xs i 0)
least_more xs i some within = ap least (take_more xs i 0 within) ∙ at (take i xs) (omega (arith, length-take-le i xs (omega arith)))
  where
    at : (ys : List ℕ) → 1 ≤ length ys → least (ys ++ get_or xs i 0 ∷ []) ≡ min (least ys) (get_or xs i 0)
    at [] some' = absurd (omega arith)
    at (y ∷ ys) some' = least_push y ys (get_or xs i 0)

least_some : (x : ℕ) (xs : List ℕ) → ((i : ℕ) → i < length (x ∷ xs) → 1 ≤ get_or (x ∷ xs) i 0) → 1 ≤ least (x ∷ xs)
least_some x [] each = each 0 (omega arith)
least_some x (y ∷ ys) each = let rest = least_some y ys (λ i h. each (suc i) (omega arith)) in let first = each 0 (omega arith) in omega arith

-- a lead's changes, counted
pub change_count_is : (leads : List LeadParts) (i : ℕ)
    → get_or (map (λ lead. length lead.changes) leads) i 0 ≡ length (changes_at leads i)
change_count_is [] i = refl
change_count_is (lead ∷ leads) zero = refl
change_count_is (lead ∷ leads) (suc i) = change_count_is leads i

-- one lead more
pub least_lead : (leads : List LeadParts) (i : ℕ) → 1 ≤ i → i < length leads
    → least (take (i + 1) (map (λ lead. length lead.changes) leads)) ≡ min (least (take i (map (λ lead. length lead.changes) leads))) (length (changes_at leads i))
least_lead leads i some within =
    least_more (map (λ lead. length lead.changes) leads) i some (omega (arith, length-map leads (λ lead. length lead.changes)))
    ∙ ap (min (least (take i (map (λ lead. length lead.changes) leads)))) (change_count_is leads i)

pub least_first : (leads : List LeadParts) → 0 < length leads
    → least (take 1 (map (λ lead. length lead.changes) leads)) ≡ length (changes_at leads 0)
least_first [] some = absurd (omega arith)
least_first (lead ∷ leads) some = refl

-- the shortest lead has some changes
pub shortest_some : (stage methods : ℕ) (leads : List LeadParts) → LeadsAreRight stage methods leads
    → 1 ≤ least (map (λ lead. length lead.changes) leads)
shortest_some stage methods [] right = absurd (omega (arith, right.some))
shortest_some stage methods (lead ∷ leads) right = least_some (length lead.changes) (map (λ lead'. length lead'.changes) leads) (λ i h.
    let within : i < length (lead ∷ leads) = omega (arith, length-map leads (λ lead'. length lead'.changes)) in
    omega (arith, change_count_is (lead ∷ leads) i, (right.each i within).changes.some))

-- a lead has no more changes than it may
pub lead_few : (stage methods : ℕ) (leads : List LeadParts) → LeadsAreRight stage methods leads → (i : ℕ)
    → i < length leads → length (changes_at leads i) ≤ most_lead_changes
lead_few stage methods leads right i h = (right.each i h).changes.few

-- a calling's length, lead by lead
pub length_by_leads : (p : ProblemParts) (calling : List ℕ)
    → sum_by (λ step. length (changes_at p.leads step)) calling ≡ length_of p calling
length_by_leads p calling = sym (length-flat_map (changes_of p) calling)
