-- Numbers of touches by length, and their lines.
use Rattle.std.proofs.Common.{◌≡◌, ℕ, ℤ, pos, negsuc, nat_abs, ◌≤ℤ◌, codes, ◌+◌, ◌≤◌, max, Bool, true, false, cond, nat_eq, List, [], ◌∷◌, ◌++◌, length, get_or, set, flat_map, refl, sym, ap, ap₂, ◌∙◌, arith, append_assoc, append-nil, length-set, map-id, eqb-true, eq-eqb}
use Rattle.std.specs.List.{range_with_len}
use Rattle.std.proofs.lemmas.Bool.{false≢true}
use Rattle.std.proofs.lemmas.List.{get_or-set_same, get_or-set_other, get_or_default}
use Rattle.std.proofs.lemmas.List.Concat.{flat_map-append}
use Rattle.std.proofs.lemmas.List.FromFn.{map-range_with_len_more}
use Rattle.std.proofs.lemmas.List.Sums.{sum_by-cons, count_by-le-length}
use Rattle.cr_model.specs.Problems.{ProblemParts}
use Rattle.cr_model.specs.Sound.{IsSound, sound_range}
use Rattle.cr_model.specs.Summaries.{longest, touches_as_long, length_line, length_lines, summary_lines}
use Rattle.std.specs.Fmt.{decimal, signed_decimal}

-- one number more
range_more : (n : ℕ) → range_with_len 0 (n + 1) ≡ range_with_len 0 n ++ n ∷ []
range_more n = sym (map-id (range_with_len 0 (n + 1))) ∙ map-range_with_len_more (λ k. k) 0 n n (omega arith) ∙ ap (λ l. l ++ n ∷ []) (map-id (range_with_len 0 n))

-- one line more was written
pub written_on : (line : ℕ → List ℕ) (n : ℕ) (before text now : List ℕ) → text ≡ before ++ flat_map line (range_with_len 0 n)
    → now ≡ text ++ line n → now ≡ before ++ flat_map line (range_with_len 0 (n + 1))
written_on line n before text now so_far more =
    more ∙ ap (λ l. l ++ line n) so_far ∙ append_assoc before (flat_map line (range_with_len 0 n)) (line n)
    ∙ ap (λ l. before ++ l)
    (ap (λ l. flat_map line (range_with_len 0 n) ++ l) (sym (append-nil (line n)))
    ∙ sym (flat_map-append line (range_with_len 0 n) (n ∷ []))
    ∙ ap (flat_map line) (sym (range_more n)))

-- the lines of the numbers are those of the lengths
pub lines_are : (lengths numbers : List ℕ) → length numbers ≡ longest lengths + 1 → ((long : ℕ) → get_or numbers long 0 ≡ touches_as_long lengths long)
    → flat_map (λ long. length_line long (get_or numbers long 0)) (range_with_len 0 (length numbers)) ≡ length_lines lengths
lines_are lengths numbers size each =
    ap (λ (line : ℕ → List ℕ). flat_map line (range_with_len 0 (length numbers))) (λ i long. length_line long (each long i))
    ∙ ap (λ n. flat_map (λ long. length_line long (touches_as_long lengths long)) (range_with_len 0 n)) size

-- with one length more
greatest_more : (lengths : List ℕ) (long : ℕ) → longest (lengths ++ long ∷ []) ≡ max (longest lengths) long
greatest_more [] long = omega arith
greatest_more (x ∷ lengths) long = omega (arith, greatest_more lengths long)

touches_more : (lengths : List ℕ) (long k : ℕ) → touches_as_long (lengths ++ long ∷ []) k ≡ touches_as_long lengths k + cond (nat_eq k long) 1 0
touches_more [] long k = omega arith
touches_more (x ∷ lengths) long k =
    omega (arith, touches_more lengths long k, sum_by-cons (λ y. cond (nat_eq k y) 1 0) x (lengths ++ long ∷ []), sum_by-cons (λ y. cond (nat_eq k y) 1 0) x lengths)

-- the number of a length, after the numbers grew, is no more than the touches so far
pub few_so_far : (lengths numbers grown : List ℕ) (long n : ℕ) → ((k : ℕ) → get_or numbers k 0 ≡ touches_as_long lengths k)
    → length grown ≡ max (length numbers) (long + 1) → ((k : ℕ) → get_or grown k 0 ≡ get_or numbers k 0) → n ≡ get_or grown long n
    → (n ≡ touches_as_long lengths long) × (n ≤ length lengths)
few_so_far lengths numbers grown long n each more same is =
    let at : n ≡ touches_as_long lengths long = is ∙ get_or_default grown long n 0 (omega arith) ∙ same long ∙ each long in
    (at, omega (arith, at, count_by-le-length (nat_eq long) lengths))

-- the next touch is counted
pub counted : (lengths numbers grown : List ℕ) (long n : ℕ) → length numbers ≡ longest lengths + 1
    → ((k : ℕ) → get_or numbers k 0 ≡ touches_as_long lengths k) → length grown ≡ max (length numbers) (long + 1)
    → ((k : ℕ) → get_or grown k 0 ≡ get_or numbers k 0) → n ≡ get_or grown long n
    → (length (set grown long (n + 1)) ≡ longest (lengths ++ long ∷ []) + 1)
    × ((k : ℕ) → get_or (set grown long (n + 1)) k 0 ≡ touches_as_long (lengths ++ long ∷ []) k)
counted lengths numbers grown long n size each more same is = (
  omega (arith, length-set grown long (n + 1), greatest_more lengths long),
  λ k. by k (nat_eq k long) refl (few_so_far lengths numbers grown long n each more same is).0,
)
  where
    by : (k : ℕ) (b : Bool) → nat_eq k long ≡ b → n ≡ touches_as_long lengths long
        → get_or (set grown long (n + 1)) k 0 ≡ touches_as_long (lengths ++ long ∷ []) k
    by k true h so_far =
        let here : k ≡ long = eqb-true k long h in
        let one : cond {A = ℕ} (nat_eq k long) 1 0 ≡ 1 = ap (λ b. cond {A = ℕ} b 1 0) h in
        let at : get_or (set grown long (n + 1)) k 0 ≡ n + 1 =
        ap (λ j. get_or (set grown long (n + 1)) j 0) here ∙ get_or-set_same grown long (n + 1) 0 (omega arith) in
        omega (arith, at, so_far, ap (touches_as_long lengths) here, touches_more lengths long k, one)
    by k false h so_far =
        let none : cond {A = ℕ} (nat_eq k long) 1 0 ≡ 0 = ap (λ b. cond {A = ℕ} b 1 0) h in
        let at : get_or (set grown long (n + 1)) k 0 ≡ get_or grown k 0 =
        get_or-set_other grown long k (n + 1) 0 (λ e. false≢true (sym h ∙ eq-eqb k long e)) in
        omega (arith, at, same k, each k, touches_more lengths long k, none)

-- three texts were written one after another
pub three_written : (old one two three a b c : List ℕ) → one ≡ old ++ a → two ≡ one ++ b → three ≡ two ++ c → three ≡ old ++ (a ++ b ++ c)
three_written old one two three a b c first second third =
    third ∙ ap (λ l. l ++ c) (second ∙ ap (λ l. l ++ b) first ∙ append_assoc old a b) ∙ append_assoc old (a ++ b) c

-- a greatest length is above 0
pub asked_is : (p : ProblemParts) → IsSound p → (n : ℕ) → n ≡ nat_abs p.query.max → decimal n ≡ signed_decimal p.query.max
asked_is p sound n is = ap decimal is ∙ by p.query.min p.query.max (sound_range p sound).from (sound_range p sound).order
  where
    by : (low high : ℤ) → pos 1 ≤ℤ low → low ≤ℤ high → decimal (nat_abs high) ≡ signed_decimal high
    by low (pos n) from order = refl
    by (pos l) (negsuc n) from order = absurd (omega arith)
    by (negsuc l) (negsuc n) from order = absurd (omega arith)

-- the first three lines of a summary
abbrev head_of : ℕ → ℕ → ℕ → List ℕ
head_of most count most_long =
    (codes "plain bob minor 1 to " ++ decimal most ++ codes "\n")
    ++ (codes "touches " ++ decimal count ++ codes "\n")
    ++ (codes "longest " ++ decimal most_long ++ codes "\n")

-- these and the lines of lengths are the summary
pub summed : (most : ℤ) (asked : ℕ) (lengths numbers old text now : List ℕ) (count most_long : ℕ) → length numbers ≡ longest lengths + 1
    → ((k : ℕ) → get_or numbers k 0 ≡ touches_as_long lengths k) → decimal asked ≡ signed_decimal most → count ≡ length lengths → most_long + 1 ≡ length numbers → old ≡ []
    → text ≡ old ++ head_of asked count most_long
    → now ≡ text ++ flat_map (λ long. length_line long (get_or numbers long 0)) (range_with_len 0 (length numbers))
    → now ≡ summary_lines most lengths
summed most asked lengths numbers old text now count most_long size each wish all last none head lines =
    let greatest_is : most_long ≡ longest lengths = omega arith in
    lines
    ∙ ap₂ ◌++◌
    (head ∙ ap (λ l. l ++ head_of asked count most_long) none ∙ ap₂ (head_of asked) all greatest_is
    ∙ ap (λ l. (codes "plain bob minor 1 to " ++ l ++ codes "\n") ++ (codes "touches " ++ decimal (length lengths) ++ codes "\n") ++ (codes "longest " ++ decimal (longest lengths) ++ codes "\n")) wish)
    (lines_are lengths numbers size each)
