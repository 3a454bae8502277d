-- What is counted of each front of a node, with one lead more.
use Rattle.std.proofs.Common.{◌≡◌, Bool, true, ◌||◌, ℕ, zero, suc, ◌+◌, ◌<◌, ◌≤◌, List, [], ◌∷◌, length, get_or, set, map, take, All, refl, sym, ap, ap₂, ◌∙◌, subst, arith}
use Rattle.std.proofs.lemmas.List.{length-map, get_or-map, take-map}
use Rattle.std.proofs.lemmas.List.Elements.{All-more}
use Rattle.std.proofs.lemmas.List.Folds.{list_any_at, list_any_more}
use Rattle.std.specs.List.{list_any}
use Rattle.cr_query.specs.declared.tallies.Tally.{Tally}
use Rattle.cr_query.specs.declared.pattern_limits.Fitting.{Fitting}
use Rattle.cr_query.specs.Fronts.{with_number, counted_on}
use Rattle.cr_query.specs.Gauges.{hit, at_number, raised, with_rows, fitting_rows, rows_more, counted_more}
use Rattle.cr_query.specs.Tallies.{at_front, gauges_at, tallied, fitting_at, fittings_at, lead_on, all_on}

-- a list with a number at an index
number_is : (index number : ℕ) (numbers : List ℕ) → get_or (with_number index number numbers) index 0 ≡ number
number_is zero number [] = refl
number_is zero number (first ∷ numbers) = refl
number_is (suc index) number [] = number_is index number []
number_is (suc index) number (first ∷ numbers) = number_is index number numbers

before_stays : (index number k : ℕ) (numbers : List ℕ) → k < index → get_or (with_number index number numbers) k 0 ≡ get_or numbers k 0
before_stays zero number k numbers below = absurd (omega (arith, below))
before_stays (suc index) number zero [] below = refl
before_stays (suc index) number zero (first ∷ numbers) below = refl
before_stays (suc index) number (suc k) [] below = before_stays index number k [] (omega (arith, below))
before_stays (suc index) number (suc k) (first ∷ numbers) below = before_stays index number k numbers (omega (arith, below))

-- where it is long enough, it is written
pub is_written : (index number : ℕ) (numbers : List ℕ) → index < length numbers → set numbers index number ≡ with_number index number numbers
is_written index number [] inside = absurd (omega (arith, inside))
is_written zero number (first ∷ numbers) inside = refl
is_written (suc index) number (first ∷ numbers) inside = ap (λ l. first ∷ l) (is_written index number numbers (omega (arith, inside)))

-- the front after one has so many more, and the fronts up to that one stay
pub counted_now : (front more : ℕ) (numbers : List ℕ) → get_or (counted_on front more numbers) (front + 1) 0 ≡ get_or numbers front 0 + more
counted_now front more numbers = number_is (front + 1) (get_or numbers front 0 + more) numbers

pub counted_before : (front more k : ℕ) (numbers : List ℕ) → k ≤ front → get_or (counted_on front more numbers) k 0 ≡ get_or numbers k 0
counted_before front more k numbers low = before_stays (front + 1) (get_or numbers front 0 + more) k numbers (omega (arith, low))

-- of all tallies
pub tallied_now : (front of : ℕ) (tallies : List Tally) → gauges_at (front + 1) (map (tallied front of) tallies) ≡ map (raised of) (gauges_at front tallies)
tallied_now front of [] = refl
tallied_now front of (tally ∷ tallies) =
    ap₂ (λ g gs. g ∷ gs) (ap (λ n. at_number n (at_front front tally)) (counted_now front (hit of (at_front front tally)) tally.numbers)) (tallied_now front of tallies)

pub tallied_before : (front of k : ℕ) (tallies : List Tally) → k ≤ front → gauges_at k (map (tallied front of) tallies) ≡ gauges_at k tallies
tallied_before front of k [] low = refl
tallied_before front of k (tally ∷ tallies) low =
    ap₂ (λ g gs. g ∷ gs) (ap (λ n. at_number n (at_front k tally)) (counted_before front (hit of (at_front front tally)) k tally.numbers low)) (tallied_before front of k tallies low)

-- of all patterns, by the rows of a lead
pub lead_now : (front : ℕ) (head : List ℕ) (lead : List (List ℕ)) (fittings : List Fitting)
    → fittings_at (front + 1) (map (lead_on front head lead) fittings) ≡ map (rows_more head lead) (fittings_at front fittings)
lead_now front head lead [] = refl
lead_now front head lead (fitting ∷ fittings) =
    ap₂ (λ g gs. g ∷ gs) (ap (λ n. with_rows n (fitting_at front fitting)) (counted_now front (fitting_rows head lead fitting.shape) fitting.numbers)) (lead_now front head lead fittings)

pub lead_before : (front : ℕ) (head : List ℕ) (lead : List (List ℕ)) (k : ℕ) (fittings : List Fitting) → k ≤ front
    → fittings_at k (map (lead_on front head lead) fittings) ≡ fittings_at k fittings
lead_before front head lead k [] low = refl
lead_before front head lead k (fitting ∷ fittings) low =
    ap₂ (λ g gs. g ∷ gs) (ap (λ n. with_rows n (fitting_at k fitting)) (counted_before front (fitting_rows head lead fitting.shape) k fitting.numbers low)) (lead_before front head lead k fittings low)

-- and by how many fit each
pub all_now : (front : ℕ) (fittings : List Fitting) (rows : List ℕ) → fittings_at (front + 1) (all_on front fittings rows) ≡ counted_more (fittings_at front fittings) rows
all_now front [] rows = refl
all_now front (fitting ∷ fittings) [] = refl
all_now front (fitting ∷ fittings) (number ∷ rows) =
    ap₂ (λ g gs. g ∷ gs) (ap (λ n. with_rows n (fitting_at front fitting)) (counted_now front number fitting.numbers)) (all_now front fittings rows)

pub all_before : (front k : ℕ) (fittings : List Fitting) (rows : List ℕ) → k ≤ front → length rows ≡ length fittings
    → fittings_at k (all_on front fittings rows) ≡ fittings_at k fittings
all_before front k [] rows low same = refl
all_before front k (fitting ∷ fittings) [] low same = absurd (omega (arith, same))
all_before front k (fitting ∷ fittings) (number ∷ rows) low same =
    ap₂ (λ g gs. g ∷ gs) (ap (λ n. with_rows n (fitting_at k fitting)) (counted_before front number k fitting.numbers low)) (all_before front k fittings rows low (omega (arith, same)))

-- what holds of each mapped item
pub of_each : {X Y : Type 0} (P : Y → Type 0) (f : X → Y) (xs : List X) → All P (map f xs) → All (λ x. P (f x)) xs
of_each P f xs all = λ k d inside.
    subst P (get_or-map f xs k d (f d) inside) (all k (f d) (omega (arith, inside, length-map xs f)))

-- the same of the item that a loop is at
pub at_item : {X Y : Type 0} (P : Y → Type 0) (f : X → Y) (xs : List X) (i : ℕ) (x : X) → i < length xs → x ≡ get_or xs i x → All P (map f xs) → P (f x)
at_item P f xs i x inside is all = subst (λ y. P (f y)) (sym is) (of_each P f xs all i x inside)

-- and a test that it passes
pub any_at : {X Y : Type 0} (test : Y → Bool) (f : X → Y) (xs : List X) (i : ℕ) (x : X) → i < length xs → x ≡ get_or xs i x → test (f x) ≡ true → true ≡ list_any test (map f xs)
any_at test f xs i x inside is passes =
    sym (list_any_at test (map f xs) i (f x) (omega (arith, inside, length-map xs f)) (ap test (get_or-map f xs i x (f x) inside ∙ ap f (sym is)) ∙ passes))

-- and of one item more
pub all_more : {X Y : Type 0} (P : Y → Type 0) (f : X → Y) (xs : List X) (i : ℕ) (x : X) → i < length xs → x ≡ get_or xs i x → All P (map f (take i xs)) → P (f x) → All P (map f (take (i + 1) xs))
all_more P f xs i x inside is all here =
    subst (All P) (take-map f (i + 1) xs)
    (All-more P (map f xs) i (f x) (omega (arith, inside, length-map xs f)) (subst (All P) (sym (take-map f i xs)) all) (subst P (sym (get_or-map f xs i x (f x) inside ∙ ap f (sym is))) here))

pub any_more : {X Y : Type 0} (test : Y → Bool) (f : X → Y) (xs : List X) (i : ℕ) (x : X) → i < length xs → x ≡ get_or xs i x
    → list_any test (map f (take (i + 1) xs)) ≡ (list_any test (map f (take i xs)) || test (f x))
any_more test f xs i x inside is =
    ap (list_any test) (sym (take-map f (i + 1) xs))
    ∙ list_any_more test (map f xs) i (f x) (omega (arith, inside, length-map xs f))
    ∙ ap₂ (λ l y. list_any test l || test y) (take-map f i xs) (get_or-map f xs i x (f x) inside ∙ ap f (sym is))
