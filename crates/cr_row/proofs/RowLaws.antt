-- Laws of rows.
use Rattle.std.proofs.Common.{◌≡◌, ℕ, ◌+◌, ◌-◌, ◌<◌, ◌≤◌, List, length, get_or, refl, ap, sym, ◌∙◌, arith}
use Rattle.std.proofs.lemmas.List.FromFn.{length-range_with_len, get_or-range_with_len}
use Rattle.std.proofs.lemmas.List.{get_or-map, length-map, ext_get_or}
use Rattle.cr_row.specs.Rows.{IsRow, rounds, product, IsInverse}
use Rattle.cr_row.specs.Packed.{AreBells}

pub length-rounds : (n : ℕ) → length (rounds n) ≡ n
length-rounds n = length-range_with_len 1 n

pub get_or-rounds : (n i : ℕ) → i < n → get_or (rounds n) i 0 ≡ 1 + i
get_or-rounds n i h = get_or-range_with_len 1 n i 0 h

pub IsRow-rounds : (n : ℕ) → IsRow (rounds n)
IsRow-rounds n =
    let long = length-rounds n in
    record {
      in_range = λ i h. let at : get_or (rounds n) i 0 ≡ 1 + i = get_or-rounds n i (omega arith) in (omega arith, omega arith);
      apart = λ i j h g e. let at : get_or (rounds n) i 0 ≡ 1 + i = get_or-rounds n i (omega arith) in let to : get_or (rounds n) j 0 ≡ 1 + j = get_or-rounds n j (omega arith) in omega arith;
      reached = λ b low high. (b - 1, omega arith, let at : get_or (rounds n) (b - 1) 0 ≡ 1 + (b - 1) = get_or-rounds n (b - 1) (omega arith) in omega arith);
    }

pub get_or-product : (h r : List ℕ) (i : ℕ) → i < length r → get_or (product h r) i 0 ≡ get_or h (get_or r i 0 - 1) 0
get_or-product h r i in' = get_or-map (λ b. get_or h (b - 1) 0) r i 0 0 in'

pub length-product : (h r : List ℕ) → length (product h r) ≡ length r
length-product h r = length-map r (λ b. get_or h (b - 1) 0)

product_reaches : (h r : List ℕ) (b place i : ℕ) → i < length r → get_or h place 0 ≡ b → get_or r i 0 ≡ place + 1
    → get_or (product h r) i 0 ≡ b
product_reaches h r b place i within bell at =
    let spot : get_or r i 0 - 1 ≡ place = omega arith in
    get_or-product h r i within ∙ ap (λ k. get_or h k 0) spot ∙ bell

pub IsRow-product : (h r : List ℕ) → IsRow h → IsRow r → length h ≡ length r → IsRow (product h r)
IsRow-product h r p q same =
    let long = length-product h r in
    record {
      in_range = λ i k.
          let at = get_or-product h r i (omega arith) in
          let place = q.in_range i (omega arith) in
          let bell = p.in_range (get_or r i 0 - 1) (omega arith) in
          (omega arith, omega arith);
      apart = λ i j k l e.
          let at : get_or (product h r) i 0 ≡ get_or h (get_or r i 0 - 1) 0 = get_or-product h r i (omega arith) in
          let to : get_or (product h r) j 0 ≡ get_or h (get_or r j 0 - 1) 0 = get_or-product h r j (omega arith) in
          let one = q.in_range i (omega arith) in
          let two = q.in_range j (omega arith) in
          let place : get_or r i 0 - 1 ≡ get_or r j 0 - 1 = p.apart _ _ (omega arith) (omega arith) (omega arith) in
          q.apart i j (omega arith) (omega arith) (omega arith);
      reached = λ b low high.
          let (place, inside, bell) = p.reached b low (omega arith) in
          let (i, within, at) = q.reached (place + 1) (omega arith) (omega arith) in
          (i, omega arith, product_reaches h r b place i within bell at);
    }

-- four bits hold a bell of at most sixteen
pub AreBells-row : (row : List ℕ) → IsRow row → length row ≤ 16 → AreBells row
AreBells-row row p few = λ i h. let bell = p.in_range i h in (bell.0, omega arith)

pub product_assoc : (g h r : List ℕ) → IsRow r → length h ≡ length r → product (product g h) r ≡ product g (product h r)
product_assoc g h r row same =
    ext_get_or 0 (product (product g h) r) (product g (product h r)) (length-product (product g h) r ∙ sym (length-product h r) ∙ sym (length-product g (product h r)))
    (λ i k.
    let in' : i < length r = omega (arith, length-product (product g h) r) in
    let place = row.in_range i in' in
    let one : get_or (product (product g h) r) i 0 ≡ get_or (product g h) (get_or r i 0 - 1) 0 = get_or-product (product g h) r i in' in
    let two : get_or (product g h) (get_or r i 0 - 1) 0 ≡ get_or g (get_or h (get_or r i 0 - 1) 0 - 1) 0 = get_or-product g h (get_or r i 0 - 1) (omega arith) in
    let far : get_or (product g (product h r)) i 0 ≡ get_or g (get_or (product h r) i 0 - 1) 0 = get_or-product g (product h r) i (omega (arith, length-product h r)) in
    let near : get_or (product h r) i 0 ≡ get_or h (get_or r i 0 - 1) 0 = get_or-product h r i in' in
    one ∙ two ∙ ap (λ b. get_or g (b - 1) 0) (sym near) ∙ sym far)

pub product-rounds : (h : List ℕ) → product h (rounds (length h)) ≡ h
product-rounds h =
    ext_get_or 0 (product h (rounds (length h))) h (length-product h (rounds (length h)) ∙ length-rounds (length h))
    (λ i k.
    let in' : i < length h = omega (arith, length-product h (rounds (length h)), length-rounds (length h)) in
    let place : get_or (rounds (length h)) i 0 - 1 ≡ i = omega (arith, get_or-rounds (length h) i in') in
    get_or-product h (rounds (length h)) i (omega (arith, length-rounds (length h))) ∙ ap (λ p. get_or h p 0) place)

pub rounds-product : (r : List ℕ) → IsRow r → product (rounds (length r)) r ≡ r
rounds-product r row =
    ext_get_or 0 (product (rounds (length r)) r) r (length-product (rounds (length r)) r)
    (λ i k.
    let in' : i < length r = omega (arith, length-product (rounds (length r)) r) in
    let bell = row.in_range i in' in
    omega (arith, get_or-product (rounds (length r)) r i in', get_or-rounds (length r) (get_or r i 0 - 1) (omega arith)))

-- rows cancel
pub product_left : (h r s : List ℕ) → IsRow h → IsRow r → IsRow s → length r ≡ length h → length s ≡ length h
    → product h r ≡ product h s → r ≡ s
product_left h r s whole one two long same e =
    ext_get_or 0 r s (long ∙ sym same) (λ i in'.
    let a = one.in_range i in' in
    let b = two.in_range i (omega arith) in
    let bells : get_or h (get_or r i 0 - 1) 0 ≡ get_or h (get_or s i 0 - 1) 0 = sym (get_or-product h r i in') ∙ ap (λ l. get_or l i 0) e ∙ get_or-product h s i (omega arith) in
    let places : get_or r i 0 - 1 ≡ get_or s i 0 - 1 = whole.apart (get_or r i 0 - 1) (get_or s i 0 - 1) (omega arith) (omega arith) bells in
    omega arith)

pub product_right : (g h r : List ℕ) → IsRow r → length g ≡ length r → length h ≡ length r
    → product g r ≡ product h r → g ≡ h
product_right g h r row long same e =
    ext_get_or 0 g h (long ∙ sym same) (λ k in'. (
    let (i, within, at) = row.reached (k + 1) (omega arith) (omega arith) in
    sym (product_reaches g r (get_or g k 0) k i within refl at) ∙ ap (λ l. get_or l i 0) e ∙ product_reaches h r (get_or h k 0) k i within refl at))

-- a row that undoes another on the right does so on the left
pub undone_back : (h r : List ℕ) → IsRow h → IsRow r → length h ≡ length r → product h r ≡ rounds (length h)
    → product r h ≡ rounds (length h)
undone_back h r one two same round =
    let row : IsRow (product r h) = IsRow-product r h two one (sym same) in
    let whole : product h (product r h) ≡ h = sym (product_assoc h r h one (sym same)) ∙ ap (λ l. product l h) round ∙ rounds-product h one in
    product_left h (product r h) (rounds (length h)) one row (IsRow-rounds (length h)) (length-product r h) (length-rounds (length h)) (whole ∙ sym (product-rounds h))

pub inverse_right : (h r : List ℕ) → IsRow h → IsRow r → length h ≡ length r → product h r ≡ rounds (length h)
    → IsInverse h r
inverse_right h r one two same round = record { right = round; left = undone_back h r one two same round }

pub inverse_left : (h r : List ℕ) → IsRow h → IsRow r → length h ≡ length r → product r h ≡ rounds (length h)
    → IsInverse h r
inverse_left h r one two same round =
    record { right = undone_back r h two one (sym same) (round ∙ ap rounds same) ∙ ap rounds (sym same); left = round }
