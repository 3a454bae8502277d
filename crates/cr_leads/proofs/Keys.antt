-- Rows that differ, by their keys in order.
use Rattle.std.proofs.Common.{◌≡◌, ℕ, ◌<◌, ◌≤◌, ◌↔◌, List, [], length, get_or, map, nat_eq, sym, ap, ◌∙◌, subst, arith}
use Rattle.std.specs.List.{IsDistinct}
use Rattle.std.specs.List.Sorted.{IsPermutation, IsSorted, IsNonDecreasing, IsStrictlyIncreasing}
use Rattle.std.specs.Ordering.{nat_cmp}
use Rattle.std.proofs.lemmas.Bool.{eqb-false, ne_eqb}
use Rattle.std.proofs.lemmas.Cmp.{nat_eq_equiv}
use Rattle.std.proofs.lemmas.List.{get_or-map, length-map}
use Rattle.std.proofs.lemmas.List.Sorted.{IsPermutation-sym, IsNonDecreasingBy-from_sort}
use Rattle.std.proofs.lemmas.Map.Keys.{apart_from_distinct, IsDistinct-from_apart, IsDistinct-IsPermutation, IsStrictlyIncreasing-from_distinct, sorted_from_strictly_increasing, below_from_sorted}
use Rattle.cr_row.specs.Rows.{IsRow}
use Rattle.cr_row.specs.Packed.{key_of}
use Rattle.cr_model.specs.Callings.{AllDiffer}
use Rattle.cr_leads.specs.Tables.{HaveOneStage}

-- rows of one stage that have one key are one
abbrev KeysTell : Type 0
KeysTell = (r s : List ℕ) → IsRow r → IsRow s → length r ≤ 16 → length r ≡ length s → key_of r ≡ key_of s → r ≡ s

-- the key at a place
key_at : (rows : List (List ℕ)) (i d : ℕ) → i < length rows → get_or (map key_of rows) i d ≡ key_of (get_or rows i [])
key_at rows i d within = get_or-map key_of rows i [] d within

-- rows differ where their keys do
keys_differ : KeysTell → (rows : List (List ℕ)) → HaveOneStage rows → AllDiffer rows
    → IsDistinct nat_eq (map key_of rows)
keys_differ tell rows one differ = IsDistinct-from_apart nat_eq (map key_of rows) (λ i j d before within.
    let long : length (map key_of rows) ≡ length rows = length-map rows key_of in
    let j_in : j < length rows = subst (λ n. j < n) long within in
    let i_in : i < length rows = omega (arith, j_in, before) in
    let r = one.2 i [] i_in in
    let s = one.2 j [] j_in in
    let few : length (get_or rows i []) ≤ 16 = (let at : length (get_or rows i []) ≡ one.0 = r.1 in let most : one.0 ≤ 16 = one.1 in omega (arith, at, most)) in
    ne_eqb (get_or (map key_of rows) i d) (get_or (map key_of rows) j d) (λ same.
    differ i j before j_in (tell (get_or rows i []) (get_or rows j []) r.0 s.0 few (r.1 ∙ sym s.1) (sym (key_at rows i d i_in) ∙ same ∙ key_at rows j d j_in))))

rows_apart : (rows : List (List ℕ)) → IsDistinct nat_eq (map key_of rows) → AllDiffer rows
rows_apart rows distinct = λ i j before within same.
    let j_in : j < length (map key_of rows) = subst (λ n. j < n) (sym (length-map rows key_of)) within in
    let i_in : i < length rows = omega (arith, within, before) in
    eqb-false (get_or (map key_of rows) i 0) (get_or (map key_of rows) j 0) (apart_from_distinct nat_eq (map key_of rows) i j 0 distinct before j_in)
    (key_at rows i 0 i_in ∙ ap key_of same ∙ sym (key_at rows j 0 within))

-- numbers that ascend are distinct
ascending_distinct : (xs : List ℕ) → IsStrictlyIncreasing xs → IsDistinct nat_eq xs
ascending_distinct xs up = IsDistinct-from_apart nat_eq xs (λ i j d before within.
    let less : get_or xs i d < get_or xs j d =
    below_from_sorted xs i j d (sorted_from_strictly_increasing xs up) before within in
    ne_eqb (get_or xs i d) (get_or xs j d) (λ same. absurd (omega (arith, less, same))))

-- the keys in order ascend exactly where the rows differ
pub sorted_keys_tell : KeysTell → (rows : List (List ℕ)) (keys sorted : List ℕ) → HaveOneStage rows
    → keys ≡ map key_of rows
    → IsPermutation keys sorted → IsSorted nat_cmp sorted → IsStrictlyIncreasing sorted ↔ AllDiffer rows
sorted_keys_tell tell rows keys sorted one is moved order =
    let moved_keys : IsPermutation (map key_of rows) sorted = subst (λ list. IsPermutation list sorted) is moved in
    let up : IsNonDecreasing sorted = IsNonDecreasingBy-from_sort (λ x. x) sorted order in (
      λ ascend. rows_apart rows (IsDistinct-IsPermutation nat_eq nat_eq_equiv.symm sorted (map key_of rows)
          (IsPermutation-sym (map key_of rows) sorted moved_keys) (ascending_distinct sorted ascend)),
      λ differ. IsStrictlyIncreasing-from_distinct sorted up (IsDistinct-IsPermutation nat_eq nat_eq_equiv.symm (map key_of rows) sorted
          moved_keys (keys_differ tell rows one differ)),
    )
