-- The row between the heads of two callings, and leads that are told apart by some of their rows.
use Rattle.std.proofs.Common.{◌≡◌, ◌↔◌, ℕ, suc, ◌+◌, ◌-◌, ◌%◌, ◌<◌, ◌≤◌, List, [], ◌∷◌, ◌++◌, length, get_or, map, reverse, refl, sym, ap, ◌∙◌, subst, arith, append-nil}
use Rattle.std.specs.Prelude.{All, Contains}
use Rattle.std.proofs.lemmas.List.{get_or_default}
use Rattle.std.proofs.lemmas.List.Elements.{All-contains}
use Rattle.cr_row.specs.Rows.{Places, IsRow, rounds, product, IsInverse, after}
use Rattle.cr_row.proofs.ChangeLaws.{IsRow-changed, length-changed, changed-product, changed_twice}
use Rattle.cr_row.proofs.Inverses.{IsRow-inverse}
use Rattle.cr_row.proofs.RowLaws.{IsRow-rounds, IsRow-product, length-rounds, length-product, get_or-rounds, get_or-product, product-rounds, rounds-product, product_assoc, inverse_right}
use Rattle.cr_model.specs.Problems.{ProblemParts}
use Rattle.cr_model.specs.Callings.{changes_of, changes_of_all, rows_from, last_of, rows_of, head_of, HasSteps}
use Rattle.cr_model.proofs.Ringing.{rung_from}
use Rattle.cr_model.proofs.RingingBack.{head_onward, there_and_back}
use Rattle.cr_leads.specs.Tables.{AreRows, lead_table, lead_rows, lead_head, leads_counted}
use Rattle.cr_false.specs.Sets.{IsFalse, ShareARow}
use Rattle.cr_false.specs.Telling.{falling, IsEven, IsHome, AllHeads, MayLieBetween, AreSome, AreTelling}
use Rattle.cr_false.proofs.Adding.{in_map, from_map}
use Rattle.cr_false.proofs.Shared.{Laws, shared, shared_rung, step_rows, rung_are_rows}
use Rattle.cr_false.proofs.Parity.{turned_alike, rounds_even}

-- the laws of rows and changes
after_row : (c : Places) (r : List ℕ) → IsRow r → IsRow (after c r)
after_row c r is = IsRow-changed c.made r is

after_long : (c : Places) (r : List ℕ) → length (after c r) ≡ length r
after_long c r = length-changed c.made 1 r

laws : Laws
laws = record {
  rung = λ stage row changes long. rung_from (λ c h r. changed-product h c.made 1 r) product-rounds stage row changes long;
  after_row = after_row;
  after_long = after_long;
  associates = product_assoc;
  product_row = IsRow-product;
  product_long = length-product;
  rounds_row = IsRow-rounds;
  rounds_long = length-rounds;
  left = rounds-product;
}

-- where changes lead to from a row
abbrev end : List ℕ → List Places → List ℕ
end row changes = last_of row (rows_from row changes)

end_row : (row : List ℕ) (changes : List Places) → IsRow row → IsRow (end row changes)
end_row row [] is = is
end_row row (change ∷ changes) is = end_row (after change row) changes (after_row change row is)

end_long : (row : List ℕ) (changes : List Places) → length (end row changes) ≡ length row
end_long row [] = refl
end_long row (change ∷ changes) = end_long (after change row) changes ∙ after_long change row

-- that row times where they lead to from rounds
last_mapped : (f : List ℕ → List ℕ) (row : List ℕ) (rows : List (List ℕ)) → last_of (f row) (map f rows) ≡ f (last_of row rows)
last_mapped f row [] = refl
last_mapped f row (next ∷ rows) = last_mapped f next rows

end_is : (stage : ℕ) (row : List ℕ) (changes : List Places) → length row ≡ stage → end row changes ≡ product row (end (rounds stage) changes)
end_is stage row changes long =
    ap (last_of row) (laws.rung stage row changes long)
    ∙ ap (λ (first : List ℕ). last_of first (map (product row) (rows_from (rounds stage) changes))) (sym (product-rounds row) ∙ ap (λ n. product row (rounds n)) long)
    ∙ last_mapped (product row) (rounds stage) (rows_from (rounds stage) changes)

-- what the head of every lead has, the head of a calling has
module _ (p : ProblemParts) where
  head_is : (step : ℕ) → step < length p.leads → lead_head (lead_table p) step ≡ end (rounds p.stage) (changes_of p step)
  head_is step within = ap (last_of (rounds p.stage)) (step_rows p step within)

  of_heads : (Has : List ℕ → Type 0) → AllHeads Has (lead_table p) → (step : ℕ) → step < length p.leads → Has (end (rounds p.stage) (changes_of p step))
  of_heads Has all step within = subst Has (head_is step within) (all step (subst (λ n. step < n) (sym (leads_counted (lead_table p) p refl)) within))

  -- a bell that stands at home
  home_further : (bell : ℕ) (row : List ℕ) (changes : List Places) → 0 < bell → bell ≤ p.stage → length row ≡ p.stage → IsHome bell row
      → IsHome bell (end (rounds p.stage) changes) → IsHome bell (end row changes)
  home_further bell row changes some few long here there =
      let lead = end (rounds p.stage) changes in
      let inside : bell - 1 < length lead = omega (arith, some, few, end_long (rounds p.stage) changes, length-rounds p.stage) in
      ap (λ (r : List ℕ). get_or r (bell - 1) 0) (end_is p.stage row changes long)
      ∙ get_or-product row lead (bell - 1) inside ∙ ap (λ (b : ℕ). get_or row (b - 1) 0) there ∙ here

  home_on : (bell : ℕ) (row : List ℕ) (calling : List ℕ) → 0 < bell → bell ≤ p.stage → AllHeads (IsHome bell) (lead_table p) → HasSteps p calling
      → length row ≡ p.stage → IsHome bell row → IsHome bell (end row (changes_of_all p calling))
  home_on bell row [] some few all known long here = here
  home_on bell row (step ∷ calling) some few all known long here =
      let within : step < length p.leads = known 0 0 (omega arith) in
      let next = end row (changes_of p step) in
      let there : IsHome bell next = home_further bell row (changes_of p step) some few long here (of_heads (IsHome bell) all step within) in
      subst (IsHome bell) (sym (head_onward row (changes_of p step) (changes_of_all p calling)))
      (home_on bell next calling some few all (λ i d inside. known (suc i) d (omega (arith, inside))) (end_long row (changes_of p step) ∙ long) there)

  -- an even row
  even_further : (row : List ℕ) (changes : List Places) → IsRow row → length row ≡ p.stage → IsEven row → IsEven (end (rounds p.stage) changes) → IsEven (end row changes)
  even_further row changes is long here there =
      omega (arith, turned_alike after_row after_long row (rounds p.stage) changes is (IsRow-rounds p.stage) (long ∙ sym (length-rounds p.stage)), here, there, rounds_even p.stage)

  even_on : (row : List ℕ) (calling : List ℕ) → AllHeads IsEven (lead_table p) → HasSteps p calling → IsRow row → length row ≡ p.stage → IsEven row
      → IsEven (end row (changes_of_all p calling))
  even_on row [] all known is long here = here
  even_on row (step ∷ calling) all known is long here =
      let within : step < length p.leads = known 0 0 (omega arith) in
      let next = end row (changes_of p step) in
      let there : IsEven next = even_further row (changes_of p step) is long here (of_heads IsEven all step within) in
      subst IsEven (sym (head_onward row (changes_of p step) (changes_of_all p calling)))
      (even_on next calling all (λ i d inside. known (suc i) d (omega (arith, inside))) (end_row row (changes_of p step) is) (end_long row (changes_of p step) ∙ long) there)

  head_row : (calling : List ℕ) → IsRow (head_of p calling)
  head_row calling = end_row (rounds p.stage) (changes_of_all p calling) (IsRow-rounds p.stage)

  head_long : (calling : List ℕ) → length (head_of p calling) ≡ p.stage
  head_long calling = end_long (rounds p.stage) (changes_of_all p calling) ∙ length-rounds p.stage

  rounds_home : (bell : ℕ) → 0 < bell → bell ≤ p.stage → IsHome bell (rounds p.stage)
  rounds_home bell some few = omega (arith, some, get_or-rounds p.stage (bell - 1) (omega (arith, some, few)))

  module _ (calling other inverse : List ℕ) (known : HasSteps p calling) (too : HasSteps p other) (undoes : IsInverse (head_of p calling) inverse) where
    inverse_row : IsRow inverse
    inverse_row = IsRow-inverse (head_of p calling) inverse (head_row calling) undoes

    inverse_long : length inverse ≡ p.stage
    inverse_long = sym (length-product (head_of p calling) inverse) ∙ ap length undoes.right ∙ length-rounds (length (head_of p calling)) ∙ head_long calling

    undone : product inverse (head_of p calling) ≡ rounds p.stage
    undone = undoes.left ∙ ap rounds (head_long calling)

    home_between : (bell : ℕ) → 0 < bell → bell ≤ p.stage → AllHeads (IsHome bell) (lead_table p) → IsHome bell (product inverse (head_of p other))
    home_between bell some few all =
        let h = head_of p calling in
        let k = head_of p other in
        let here : IsHome bell h = home_on bell (rounds p.stage) calling some few all known (length-rounds p.stage) (rounds_home bell some few) in
        let there : IsHome bell k = home_on bell (rounds p.stage) other some few all too (length-rounds p.stage) (rounds_home bell some few) in
        get_or-product inverse k (bell - 1) (omega (arith, some, few, head_long other)) ∙ ap (λ (b : ℕ). get_or inverse (b - 1) 0) (there ∙ sym here)
        ∙ sym (get_or-product inverse h (bell - 1) (omega (arith, some, few, head_long calling)))
        ∙ ap (λ (r : List ℕ). get_or r (bell - 1) 0) undone ∙ rounds_home bell some few

    even_between : AllHeads IsEven (lead_table p) → IsEven (product inverse (head_of p other))
    even_between all =
        let xs = changes_of_all p calling in
        let ys = changes_of_all p other in
        let start = rounds p.stage in
        let is : IsRow start = IsRow-rounds p.stage in
        let low : falling start ≡ 0 = rounds_even p.stage in
        let zero_even : IsEven start = omega (arith, low) in
        let here : IsEven (head_of p calling) = even_on start calling all known is (length-rounds p.stage) zero_even in
        let there : IsEven (head_of p other) = even_on start other all too is (length-rounds p.stage) zero_even in
        let long : length inverse ≡ length start = inverse_long ∙ sym (length-rounds p.stage) in
        let back = turned_alike after_row after_long inverse start xs inverse_row is long in
        let forth = turned_alike after_row after_long inverse start ys inverse_row is long in
        let home : falling (end inverse xs) ≡ 0 = ap falling (end_is p.stage inverse xs inverse_long ∙ undone) ∙ low in
        subst IsEven (end_is p.stage inverse ys inverse_long) (omega (arith, here, there, back, forth, home, low))

    pub between : MayLieBetween (lead_table p) (product inverse (head_of p other))
    between = record { home = home_between; even = even_between }

  -- a head has an inverse
  pub head_inverse : (calling : List ℕ) → (inverse : List ℕ) × IsInverse (head_of p calling) inverse
  head_inverse calling =
      let changes = changes_of_all p calling in
      let h = head_of p calling in
      let inverse = end (rounds p.stage) (reverse changes) in
      let is : IsRow inverse = end_row (rounds p.stage) (reverse changes) (IsRow-rounds p.stage) in
      let long : length inverse ≡ p.stage = end_long (rounds p.stage) (reverse changes) ∙ length-rounds p.stage in
      let round : product h inverse ≡ rounds (length h) =
      sym (end_is p.stage h (reverse changes) (head_long calling)) ∙ there_and_back (λ c r. changed_twice c.made 1 r) (rounds p.stage) changes ∙ ap rounds (sym (head_long calling)) in
      (inverse, inverse_right h inverse (head_row calling) is (head_long calling ∙ sym long) round)

-- some rows of one stage are rows of it
pub some_are_rows : (stage : ℕ) (rows told : List (List ℕ)) → AreRows stage rows → AreSome rows told → AreRows stage told
some_are_rows stage rows told all some = λ i d within.
    All-contains (λ row. IsRow row × (length row ≡ stage)) rows (get_or told i d) all (some.has (get_or told i d) (i, within, get_or_default told i (get_or told i d) d within))

-- the rows of leads by which they are told apart
module _ (p : ProblemParts) (told : List (List (List ℕ))) (tells : AreTelling (lead_table p) told) where
  in_table : (step : ℕ) → step < length p.leads → step < length (lead_table p).leads
  in_table step within = subst (λ n. step < n) (sym (leads_counted (lead_table p) p refl)) within

  rung_rows : (step : ℕ) → step < length p.leads → AreRows p.stage (lead_rows (lead_table p) step)
  rung_rows step within =
      subst (AreRows p.stage) (sym (step_rows p step within)) (rung_are_rows laws p.stage (rounds p.stage) (changes_of p step) (IsRow-rounds p.stage) (length-rounds p.stage))

  pub told_rows : (step : ℕ) → step < length p.leads → AreRows p.stage (get_or told step [])
  told_rows step within =
      some_are_rows p.stage (lead_rows (lead_table p) step) (get_or told step []) (rung_rows step within) (tells.of_leads.some step (in_table step within))

  -- from whatever head they are rung, they are among its rows
  among : (step : ℕ) (calling : List ℕ) (row : List ℕ) → step < length p.leads → Contains (map (product (head_of p calling)) (get_or told step [])) row
      → Contains (rows_from (head_of p calling) (changes_of p step)) row
  among step calling row within held =
      let head = head_of p calling in
      let (r, has, is) = from_map (product head) (get_or told step []) row held in
      let all : Contains (lead_rows (lead_table p) step) r = (tells.of_leads.some step (in_table step within)).has r has in
      let rung : map (product head) (lead_rows (lead_table p) step) ≡ rows_from head (changes_of p step) =
      ap (map (product head)) (step_rows p step within) ∙ sym (laws.rung p.stage head (changes_of p step) (head_long p calling)) in
      subst (λ (rows : List (List ℕ)). Contains rows row) rung
      (subst (λ (x : List ℕ). Contains (map (product head) (lead_rows (lead_table p) step)) x) (sym is) (in_map (product head) (lead_rows (lead_table p) step) r all))

  -- and two leads share one exactly where they share a row
  module _ (a b : ℕ) (calling other : List ℕ) (a_in : a < length p.leads) (b_in : b < length p.leads) (known : HasSteps p calling) (too : HasSteps p other) where
    few_shared : ShareARow (rows_from (head_of p calling) (changes_of p a)) (rows_from (head_of p other) (changes_of p b))
        → ShareARow (map (product (head_of p calling)) (get_or told a [])) (map (product (head_of p other)) (get_or told b []))
    few_shared both =
        let h = head_of p calling in
        let k = head_of p other in
        let inverse = (head_inverse p calling).0 in
        let undoes : IsInverse h inverse = (head_inverse p calling).1 in
        let lies : IsFalse (lead_rows (lead_table p) a) (lead_rows (lead_table p) b) (product inverse k) =
        (shared_rung laws p a b h k inverse a_in b_in (head_row p calling) (head_row p other) (head_long p calling) (head_long p other) undoes).1 both in
        let few : IsFalse (get_or told a []) (get_or told b []) (product inverse k) =
        (tells.each a (in_table a a_in)).apart b (in_table b b_in) (product inverse k) (length-product inverse k ∙ head_long p other)
        (between p calling other inverse known too undoes) lies in
        (shared laws p.stage h k inverse (get_or told a []) (get_or told b []) (head_row p calling) (head_row p other) (head_long p calling) (head_long p other) undoes
        (told_rows a a_in) (told_rows b b_in)).0 few

    pub told_apart : ShareARow (rows_from (head_of p calling) (changes_of p a)) (rows_from (head_of p other) (changes_of p b))
        ↔ ShareARow (map (product (head_of p calling)) (get_or told a [])) (map (product (head_of p other)) (get_or told b []))
    told_apart = (
      few_shared,
      λ both. record {
        shared = both.shared;
        has_first = among a calling both.shared a_in both.has_first;
        has_second = among b other both.shared b_in both.has_second;
      },
    )
