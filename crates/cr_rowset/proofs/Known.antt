-- A row is known by its key.
use Rattle.std.proofs.Common.{◌≡◌, ℕ, zero, suc, ◌+◌, ◌-◌, ◌*◌, ◌/◌, ◌%◌, ◌^◌, ◌<◌, ◌≤◌, max, List, [], ◌∷◌, ◌++◌, length, get_or, take, set, refl, ap, sym, ◌∙◌, subst, arith, append_assoc, append-nil}
use Rattle.std.proofs.lemmas.List.{length-set, take_all, take_more_set}
use Rattle.cr_row.specs.Rows.{IsRow}
use Rattle.cr_row.specs.Packed.{bells_of, key_of, bells_length, AreBells}
use Rattle.cr_rowset.specs.Keys.{greatest, stage_of, row_of, IsKey}

-- the key of a row gives its bells back
bells_back : (row : List ℕ) → AreBells row → bells_of (length row) (key_of row) ≡ row
bells_back [] are = refl
bells_back (b ∷ row) are =
    let first = are 0 (omega arith) in
    let digit : (b - 1 + 16 * key_of row) % 16 + 1 ≡ b = omega (arith, first.0, first.1) in
    let rest : (b - 1 + 16 * key_of row) / 16 ≡ key_of row = omega (arith, first.0, first.1) in
    (λ i. digit i ∷ bells_of (length row) (rest i)) ∙ ap (λ bells. b ∷ bells) (bells_back row (λ i low. are (suc i) (omega arith)))

-- behind the last bell there are no greater ones
none_greater : (n key : ℕ) (row : List ℕ) (most : ℕ) → 1 ≤ most → most ≤ 16 → key ≡ key_of row →
    ((i : ℕ) → i < length row → (0 < get_or row i 0) × (get_or row i 0 ≤ most)) → greatest (bells_of n key) ≤ most
none_greater zero key row most some few is are = omega arith
none_greater (suc n) key [] most some few is are =
    omega (arith, none_greater n (key / 16) [] most some few (omega arith) (λ i low. absurd (omega arith)))
none_greater (suc n) key (b ∷ row) most some few is are =
    let first = are 0 (omega arith) in
    omega (arith, first.0, first.1, none_greater n (key / 16) row most some few (omega (arith, first.0, first.1)) (λ i low. are (suc i) (omega arith)))

-- each bell is reached
reaches : (n key : ℕ) (row : List ℕ) (i : ℕ) → length row ≤ n → i < length row → key ≡ key_of row → AreBells row → get_or row i 0 ≤ greatest (bells_of n key)
reaches n key [] i few low is are = absurd (omega arith)
reaches zero key (b ∷ row) i few low is are = absurd (omega arith)
reaches (suc n) key (b ∷ row) zero few low is are = let first = are 0 (omega arith) in omega (arith, first.0, first.1)
reaches (suc n) key (b ∷ row) (suc i) few low is are =
    let first = are 0 (omega arith) in
    omega (arith, reaches n (key / 16) row i (omega arith) (omega arith) (omega (arith, first.0, first.1)) (λ j under. are (suc j) (omega arith)))

-- the greatest bell of a row is its stage
stage_back : (row : List ℕ) → IsRow row → 1 ≤ length row → length row ≤ 16 → stage_of (key_of row) ≡ length row
stage_back row is some few =
    let most : stage_of (key_of row) ≤ length row = none_greater 16 (key_of row) row (length row) some few refl is.in_range in
    let last = is.reached (length row) some (omega arith) in
    let least : get_or row last.0 0 ≤ stage_of (key_of row) =
    reaches 16 (key_of row) row last.0 few last.1 refl (λ i low. let bell = is.in_range i low in (bell.0, omega (arith, bell.1))) in
    omega (arith, last.2)

pub row_back : (row : List ℕ) → IsRow row → 1 ≤ length row → length row ≤ 16 → row_of (key_of row) ≡ row
unfolding row_of
row_back row is some few =
    ap (λ n. bells_of n (key_of row)) (stage_back row is some few)
    ∙ bells_back row (λ i low. let bell = is.in_range i low in (bell.0, omega (arith, bell.1)))

-- a row's key is one
pub is_key : (row : List ℕ) → IsRow row → 3 ≤ length row → length row ≤ 16 → IsKey (key_of row)
is_key row is least most =
    let stage = stage_back row is (omega arith) most in
    let back = row_back row is (omega arith) most in
    record {
      at_least = omega arith;
      at_most = omega arith;
      row = subst IsRow (sym back) is;
      is = ap key_of back;
    }

-- a key has room in as many places as its row has bells
fits_more : (key n b : ℕ) → key < 16 ^ n → 0 < b → b ≤ 16 → b - 1 + 16 * key < 16 ^ suc n
fits_more key n b low some few = omega arith

key_fits : (row : List ℕ) → AreBells row → key_of row < 16 ^ length row
key_fits [] are = omega arith
key_fits (b ∷ row) are =
    let first = are 0 (omega arith) in
    fits_more (key_of row) (length row) b (key_fits row (λ i low. are (suc i) (omega arith))) first.0 first.1

pub key_is_low : (key : ℕ) → IsKey key → key < 16 ^ stage_of key
unfolding row_of
key_is_low key is =
    let stage = stage_of key in
    let long : length (bells_of stage key) ≡ stage = bells_length stage key in
    subst (λ n. key < 16 ^ n) long (subst (λ k. k < 16 ^ length (bells_of stage key)) is.is
    (key_fits (bells_of stage key) (λ i low. let bell = is.row.in_range i low in (bell.0, omega (arith, bell.1, long, is.at_most)))))

-- the row with a key has the bells of its stage
pub row_is : (key : ℕ) → row_of key ≡ bells_of (stage_of key) key
unfolding row_of
row_is key = refl

-- one place more was read
pub one_bell_more : (most rest place stage : ℕ) → place < 16 → max most (greatest (bells_of (16 - place) rest)) ≡ stage
    → max (max most (rest % 16 + 1)) (greatest (bells_of (16 - (place + 1)) (rest / 16))) ≡ stage
one_bell_more most rest place stage low kept =
    let more : 16 - place ≡ suc (16 - (place + 1)) = omega arith in
    omega (arith, kept, ap (λ n. greatest (bells_of n rest)) more)

-- and at the end the stage is the greatest
pub only : (most stage : ℕ) → max most 0 ≡ stage → most ≡ stage
only most stage is = omega arith
