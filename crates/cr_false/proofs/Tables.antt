-- What a falseness table tells.
use Rattle.std.proofs.Common.{◌≡◌, ◌↔◌, ℕ, zero, suc, ◌+◌, ◌*◌, ◌/◌, ◌%◌, ◌<◌, ◌≤◌, List, [], ◌∷◌, ◌++◌, length, get_or, map, Bool, true, sym, ap, ◌∙◌, subst, arith}
use Rattle.std.specs.Prelude.{Contains, IfOk, MatchResult, Ok, Err}
use Rattle.std.specs.declared.result.Result.{Result}
use Rattle.std.specs.List.{AllZip, range_with_len}
use Rattle.std.proofs.lemmas.List.FromFn.{get_or-range_with_len, length-range_with_len}
use Rattle.std.proofs.lemmas.Slice.Zip.{all_zipped_more, AllZip-long}
use Rattle.cr_rowset.specs.Stacks.{StackParts}
use Rattle.cr_leads.specs.Tables.{TableParts, lead_rows}
use Rattle.cr_false.specs.Sets.{FalseParts, IsFalse, IsFalsePair, IsFalseTable, IsSetOf, HasNumber, HasTwice, TellsTwice, pairs, steps_counted, AreKept}

-- a relation at an index
pub all_zip_at : {A B : Type 0} (R : A → B → Type 0) (xs : List A) (ys : List B) (i : ℕ) (d : A) (e : B) → AllZip R xs ys → i < length xs → R (get_or xs i d) (get_or ys i e)
all_zip_at R [] [] i d e h within = absurd (omega (arith, within))
all_zip_at R [] (y ∷ ys) i d e h within = absurd h
all_zip_at R (x ∷ xs) [] i d e h within = absurd h
all_zip_at R (x ∷ xs) (y ∷ ys) zero d e h within = h.0
all_zip_at R (x ∷ xs) (y ∷ ys) (suc i) d e h within = all_zip_at R xs ys i d e h.1 (omega (arith, within))

-- the set of a pair
pub set_at : (table : TableParts) (parts : FalseParts) (a b : ℕ) → IsFalseTable table parts → a < length parts.twice → b < length parts.twice → b < 24
    → IsSetOf (IsFalse (lead_rows table a) (lead_rows table b)) (get_or parts.sets (24 * a + b) [])
set_at table parts a b is a_in b_in low =
    let steps = steps_counted table parts is in
    let pair = 24 * a + b in
    let within : pair < 24 * length table.leads = omega (arith, a_in, steps, low) in
    let inside : pair < length (pairs table) = subst (λ n. pair < n) (sym (length-range_with_len 0 (24 * length table.leads))) within in
    let at : get_or (pairs table) pair 0 ≡ pair = get_or-range_with_len 0 (24 * length table.leads) pair 0 within ∙ (let z : 0 + pair ≡ pair = omega arith in z) in
    let set : IsSetOf (IsFalsePair table (get_or (pairs table) pair 0)) (get_or parts.sets pair []) =
    all_zip_at (λ n rows. IsSetOf (IsFalsePair table n) rows) (pairs table) parts.sets pair 0 [] is.sets_are inside in
    let first : get_or (pairs table) pair 0 / 24 ≡ a = omega (arith, at, low) in
    let second : get_or (pairs table) pair 0 % 24 ≡ b = omega (arith, at, low) in
    subst (λ (n : ℕ). IsSetOf (IsFalse (lead_rows table n) (lead_rows table b)) (get_or parts.sets pair [])) first
    (subst (λ (n : ℕ). IsSetOf (IsFalse (lead_rows table (get_or (pairs table) pair 0 / 24)) (lead_rows table n)) (get_or parts.sets pair [])) second set)

-- what is in it is false
pub clashes : (table : TableParts) (parts : FalseParts) (a b : ℕ) (between : List ℕ) (rows : List (List ℕ)) (answer : Bool) → IsFalseTable table parts
    → a < length parts.twice → b < length parts.twice → b < 24
    → rows ≡ get_or parts.sets (24 * a + b) [] → (answer ≡ true) ↔ Contains rows between → (answer ≡ true) ↔ IsFalse (lead_rows table a) (lead_rows table b) between
clashes table parts a b between rows answer is a_in b_in low at told =
    let set = subst (λ (list : List (List ℕ)). IsSetOf (IsFalse (lead_rows table a) (lead_rows table b)) list) (sym at) (set_at table parts a b is a_in b_in low) in
    (λ e. (set.all between).0 (told.0 e), λ f. told.1 ((set.all between).1 f))

-- a step's own
pub repeats : (table : TableParts) (parts : FalseParts) (a : ℕ) (answer : Bool) → IsFalseTable table parts → a < length parts.twice → answer ≡ get_or parts.twice a answer
    → (answer ≡ true) ↔ HasTwice (lead_rows table a)
repeats table parts a answer is within at =
    let steps = steps_counted table parts is in
    let below : a < length table.leads = omega (arith, within, steps) in
    let inside : a < length (range_with_len 0 (length table.leads)) = subst (λ n. a < n) (sym (length-range_with_len 0 (length table.leads))) below in
    let place : get_or (range_with_len 0 (length table.leads)) a 0 ≡ a = get_or-range_with_len 0 (length table.leads) a 0 below ∙ (let z : 0 + a ≡ a = omega arith in z) in
    let tells : TellsTwice table (get_or (range_with_len 0 (length table.leads)) a 0) (get_or parts.twice a answer) =
    all_zip_at (TellsTwice table) (range_with_len 0 (length table.leads)) parts.twice a 0 answer is.twice_is inside in
    let here : TellsTwice table a (get_or parts.twice a answer) = subst (λ (n : ℕ). TellsTwice table n (get_or parts.twice a answer)) place tells in
    subst (λ (b : Bool). (b ≡ true) ↔ HasTwice (lead_rows table a)) (sym at) here

-- one step more
range_more : (a n : ℕ) → range_with_len a (n + 1) ≡ range_with_len a n ++ (a + n) ∷ []
range_more a zero = ap (λ k. k ∷ []) (let e : a ≡ a + 0 = omega arith in e)
range_more a (suc n) =
    let e : (a + 1) + n ≡ a + suc n = omega arith in
    let longer : suc n + 1 ≡ suc (n + 1) = omega arith in
    ap (range_with_len a) longer ∙ ap (λ rest. a ∷ rest) (range_more (a + 1) n ∙ ap (λ k. range_with_len (a + 1) n ++ k ∷ []) e)

pub one_more_told : (table : TableParts) (step : ℕ) (twice : List Bool) (answer : Bool) → AllZip (TellsTwice table) (range_with_len 0 step) twice
    → TellsTwice table step answer → AllZip (TellsTwice table) (range_with_len 0 (step + 1)) (twice ++ answer ∷ [])
one_more_told table step twice answer all tells =
    let longer : range_with_len 0 (step + 1) ≡ range_with_len 0 step ++ step ∷ [] =
    range_more 0 step ∙ ap (λ k. range_with_len 0 step ++ k ∷ []) (let z : 0 + step ≡ step = omega arith in z) in
    subst (λ (steps : List ℕ). AllZip (TellsTwice table) steps (twice ++ answer ∷ [])) (sym longer) (all_zipped_more (TellsTwice table) (range_with_len 0 step) twice step answer all tells)

-- the sets as they are seen
pub all_seen : {A B : Type 0} (f : A → B) (R : ℕ → B → Type 0) (xs : List ℕ) (ys : List A) → AllZip (λ x y. R x (f y)) xs ys → AllZip R xs (map f ys)
all_seen f R [] [] h = tt
all_seen f R [] (y ∷ ys) h = absurd h
all_seen f R (x ∷ xs) [] h = absurd h
all_seen f R (x ∷ xs) (y ∷ ys) h = (h.0, all_seen f R xs ys h.1)

-- what was collected, where it is Ok
pub ok_then : {T E : Type 0} (r : Result T E) (A P : T → Type 0) (B : E → Type 0) → MatchResult r A B → ((v : T) → A v → P v) → IfOk r P
ok_then (Ok v) A P B h f = f v h
ok_then (Err e) A P B h f = tt

all_ok : {T : Type 0} (E : Type 0) (R : ℕ → T → Type 0) (places : List ℕ) (ys : List T) → AllZip (λ k (r : Result T E). IfOk r (R k)) places (map Ok ys) → AllZip R places ys
all_ok E R [] [] h = tt
all_ok E R [] (y ∷ ys) h = absurd h
all_ok E R (k ∷ places) [] h = absurd h
all_ok E R (k ∷ places) (y ∷ ys) h = (h.0, all_ok E R places ys h.1)

pub collected : {T E : Type 0} (R : ℕ → T → Type 0) (places : List ℕ) (xs : List (Result T E)) (ys items : List T)
    → AllZip (λ k (r : Result T E). IfOk r (R k)) places xs → xs ≡ map Ok ys → items ≡ ys → AllZip R places items
collected {T = T} {E = E} R places xs ys items all are is =
    subst (λ (list : List T). AllZip R places list) (sym is) (all_ok E R places ys (subst (λ (list : List (Result T E)). AllZip (λ k (r : Result T E). IfOk r (R k)) places list) are all))

-- as many as there are pairs
pub pairs_counted : {B : Type 0} (R : ℕ → B → Type 0) (table : TableParts) (ys : List B) → AllZip R (pairs table) ys → length ys ≡ 24 * length table.leads
pairs_counted R table ys all = AllZip-long R (pairs table) ys all ∙ length-range_with_len 0 (24 * length table.leads)

-- the number of a pair
pub number_at : (table : TableParts) (numbers : List ℕ) (pair : ℕ) → AllZip (λ pair number. HasNumber (IsFalsePair table pair) number) (pairs table) numbers
    → pair < 24 * length table.leads → HasNumber (IsFalsePair table pair) (get_or numbers pair 0) × (pair < length numbers)
number_at table numbers pair all within =
    let inside : pair < length (pairs table) = subst (λ n. pair < n) (sym (length-range_with_len 0 (24 * length table.leads))) within in
    let at : get_or (pairs table) pair 0 ≡ pair = get_or-range_with_len 0 (24 * length table.leads) pair 0 within ∙ (let z : 0 + pair ≡ pair = omega arith in z) in
    let long = pairs_counted (λ pair number. HasNumber (IsFalsePair table pair) number) table numbers all in (
      subst (λ (n : ℕ). HasNumber (IsFalsePair table n) (get_or numbers pair 0)) at
          (all_zip_at (λ pair number. HasNumber (IsFalsePair table pair) number) (pairs table) numbers pair 0 0 all inside),
      omega (arith, long, within),
    )

pub kept : (table : TableParts) (sets : List StackParts) (twice : List Bool) → length table.leads ≤ 24
    → AllZip (λ pair (set : StackParts). IsSetOf (IsFalsePair table pair) set.rows) (pairs table) sets
    → AllZip (TellsTwice table) (range_with_len 0 (length table.leads)) twice → AreKept sets twice
kept table sets twice few all tells =
    let number : length sets ≡ 24 * length table.leads = pairs_counted (λ pair (set : StackParts). IsSetOf (IsFalsePair table pair) set.rows) table sets all in
    let steps : length twice ≡ length table.leads = AllZip-long (TellsTwice table) (range_with_len 0 (length table.leads)) twice tells ∙ length-range_with_len 0 (length table.leads) in
    record { counted = omega (arith, number, steps); few = omega (arith, few, steps) }
