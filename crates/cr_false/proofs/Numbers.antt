-- A set has one number of rows, and so has a table.
use Rattle.std.proofs.Common.{◌≡◌, ℕ, ◌≤◌, List, [], ◌∷◌, length, get_or, map, nat_eq, refl, sym, ap, ◌∙◌, arith}
use Rattle.std.specs.Prelude.{sum}
use Rattle.std.specs.List.{AllZip, IsDistinct, sum_by}
use Rattle.std.specs.Cmp.Lexicographic.{pointwise}
use Rattle.std.proofs.lemmas.Bool.{false_from_ne_true}
use Rattle.std.proofs.lemmas.Cmp.{nat_list_eq_equiv}
use Rattle.std.proofs.lemmas.List.{get_or_default}
use Rattle.std.proofs.lemmas.List.Sums.{sum-map}
use Rattle.std.proofs.lemmas.Map.Keys.{IsDistinct-from_apart}
use Rattle.std.proofs.lemmas.Map.Made.{length-le_from_is_member, is_member-Decides}
use Rattle.std.proofs.lemmas.Slice.Eq.{bytes_eq-Decides}
use Rattle.cr_rowset.specs.Stacks.{AllDiffer}
use Rattle.cr_leads.specs.Tables.{TableParts}
use Rattle.cr_false.specs.Sets.{IsSetOf, HasNumber, IsFalsePair, IsWholeNumber, IsFalseTable, FalseParts, pairs}

pub distinct : (rows : List (List ℕ)) → AllDiffer rows → IsDistinct (pointwise nat_eq) rows
distinct rows differ = IsDistinct-from_apart (pointwise nat_eq) rows (λ i j d before within.
    false_from_ne_true (pointwise nat_eq (get_or rows i d) (get_or rows j d)) (λ e.
    differ i j before within (get_or_default rows i [] d (omega (arith, before, within)) ∙ (bytes_eq-Decides (get_or rows i d) (get_or rows j d)).0 e
    ∙ get_or_default rows j d [] within)))

no_more : (member : List ℕ → Type 0) (xs ys : List (List ℕ)) → IsSetOf member xs → IsSetOf member ys → length xs ≤ length ys
no_more member xs ys one other =
    length-le_from_is_member nat_list_eq_equiv xs ys (distinct xs one.differ) (λ q h.
    (is_member-Decides bytes_eq-Decides ys q).1 ((other.all q).1 ((one.all q).0 ((is_member-Decides bytes_eq-Decides xs q).0 h))))

one_number : (member : List ℕ → Type 0) (n m : ℕ) → HasNumber member n → HasNumber member m → n ≡ m
one_number member n m one other =
    let low : length one.rows ≤ length other.rows = no_more member one.rows other.rows one.is other.is in
    let high : length other.rows ≤ length one.rows = no_more member other.rows one.rows other.is one.is in
    omega (arith, low, high, one.counted, other.counted)

one_list : (table : TableParts) (places ns ms : List ℕ) → AllZip (λ pair n. HasNumber (IsFalsePair table pair) n) places ns
    → AllZip (λ pair n. HasNumber (IsFalsePair table pair) n) places ms → ns ≡ ms
one_list table [] [] [] h k = refl
one_list table [] [] (m ∷ ms) h k = absurd k
one_list table [] (n ∷ ns) ms h k = absurd h
one_list table (pair ∷ places) [] ms h k = absurd h
one_list table (pair ∷ places) (n ∷ ns) [] h k = absurd k
one_list table (pair ∷ places) (n ∷ ns) (m ∷ ms) h k =
    ap (λ x. x ∷ ns) (one_number (IsFalsePair table pair) n m h.0 k.0) ∙ ap (λ (xs : List ℕ). m ∷ xs) (one_list table places ns ms h.1 k.1)

pub one_whole : (table : TableParts) (n m : ℕ) → IsWholeNumber table n → IsWholeNumber table m → n ≡ m
one_whole table n m one other = one.total ∙ ap sum (one_list table (pairs table) one.numbers other.numbers one.each other.each) ∙ sym other.total

lengths : (table : TableParts) (places : List ℕ) (sets : List (List (List ℕ))) → AllZip (λ pair set. IsSetOf (IsFalsePair table pair) set) places sets
    → AllZip (λ pair n. HasNumber (IsFalsePair table pair) n) places (map length sets)
lengths table [] [] h = tt
lengths table [] (set ∷ sets) h = absurd h
lengths table (pair ∷ places) [] h = absurd h
lengths table (pair ∷ places) (set ∷ sets) h = (record { rows = set; is = h.0; counted = refl }, lengths table places sets h.1)

pub held : (table : TableParts) (parts : FalseParts) → IsFalseTable table parts → IsWholeNumber table (sum_by length parts.sets)
held table parts is = record {
  numbers = map length parts.sets;
  each = lengths table (pairs table) parts.sets is.sets_are;
  total = sym (sum-map length parts.sets);
}
