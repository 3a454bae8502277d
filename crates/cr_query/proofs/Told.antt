-- What gauges and numbers tell of the node whose counts they have.
use Rattle.std.proofs.Common.{◌≡◌, ℕ, ◌+◌, ◌-◌, ◌*◌, ◌/◌, ◌≤◌, Bool, true, false, ◌||◌, pos, int_lt, List, [], ◌∷◌, map, refl, sym, ap, ap₂, ◌∙◌}
use Rattle.std.specs.List.{list_any}
use Rattle.std.proofs.Math.Bool.{or_comm}
use Rattle.cr_model.specs.declared.query.Count.{Count}
use Rattle.cr_model.specs.declared.query.MethodCount.{MethodCount}
use Rattle.cr_model.specs.Problems.{ProblemParts}
use Rattle.cr_model.specs.Callings.{length_of}
use Rattle.cr_model.specs.Dead.{parts_of, leads_left, above_com, below_com, is_too_many}
use Rattle.cr_model.specs.Queries.{part_cap, leads_marked, leads_lettered, changes_of_method}
use Rattle.cr_query.specs.declared.gauges.Gauge.{Gauge}
use Rattle.cr_query.specs.declared.kinds.Kind.{Kind}
use Rattle.cr_query.specs.declared.numbers.Numbers.{Numbers}
use Rattle.cr_query.specs.Gauges.{raised, is_above, is_below, is_out, is_com_out, hopeless_with, too_many_leads, too_few_leads, room_left, has_more_rows}
use Rattle.cr_query.specs.Meters.{marked, lettered, fitted, HasNumbers, has_too_many_leads, has_too_few_leads}
use Rattle.cr_query.proofs.Shares.{fewest_is, too_many_is}

-- a test of mapped items
pub any_mapped : {X Y : Type 0} (test : Y → Bool) (g : X → Y) (xs : List X) → list_any test (map g xs) ≡ list_any (λ x. test (g x)) xs
any_mapped test g [] = refl
any_mapped test g (x ∷ xs) = ap (λ b. test (g x) || b) (any_mapped test g xs)

-- one that tells the same of each item
any_same : {X : Type 0} (f g : X → Bool) → ((x : X) → f x ≡ g x) → (xs : List X) → list_any f xs ≡ list_any g xs
any_same f g same [] = refl
any_same f g same (x ∷ xs) = ap₂ (λ a b. a || b) (same x) (any_same f g same xs)

in_pairs : (a b c d : Bool) → ((a || b) || (c || d)) ≡ ((a || c) || (b || d))
in_pairs true b c d = refl
in_pairs false true true d = refl
in_pairs false true false d = refl
in_pairs false false c d = refl

-- one of two tests
pub any_either : {X : Type 0} (f g : X → Bool) (xs : List X) → list_any (λ x. f x || g x) xs ≡ (list_any f xs || list_any g xs)
any_either f g [] = refl
any_either f g (x ∷ xs) = ap (λ b. (f x || g x) || b) (any_either f g xs) ∙ in_pairs (f x) (g x) (list_any f xs) (list_any g xs)

-- what gauges tell of the node whose counts they have
module _ (p : ProblemParts) (node : List ℕ) (numbers : Numbers) (marks letters : List Gauge) (changes : ℕ)
    (some : 1 ≤ parts_of p) (found : HasNumbers p numbers)
    (by_mark : marks ≡ map (marked p node) p.query.counts)
    (by_letter : letters ≡ map (lettered p node) p.query.method_counts)
    (changed : changes ≡ changes_of_method p node) where
  of_marks : (test : Gauge → Bool) (limit : Count → Bool) → ((count : Count) → test (marked p node count) ≡ limit count) → list_any test marks ≡ list_any limit p.query.counts
  of_marks test limit same = ap (list_any test) by_mark ∙ any_mapped test (marked p node) p.query.counts ∙ any_same (λ count. test (marked p node count)) limit same p.query.counts

  of_letters : (test : Gauge → Bool) (limit : MethodCount → Bool) → ((count : MethodCount) → test (lettered p node count) ≡ limit count) → list_any test letters ≡ list_any limit p.query.method_counts
  of_letters test limit same = ap (list_any test) by_letter ∙ any_mapped test (lettered p node) p.query.method_counts ∙ any_same (λ count. test (lettered p node count)) limit same p.query.method_counts

  changes_in_parts : numbers.parts * changes ≡ parts_of p * changes_of_method p node
  changes_in_parts = ap₂ (λ parts n. parts * n) found.parts changed

  pub many_told : too_many_leads numbers marks letters changes ≡ has_too_many_leads p node
  many_told =
      ap₂ (λ a b. a || (b || above_com numbers.com (numbers.parts * changes)))
      (of_marks is_above (λ count. int_lt count.max (pos (parts_of p * leads_marked p count.mark node))) (λ count. too_many_is (parts_of p) count.max (leads_marked p count.mark node) some))
      (of_letters is_above (λ count. int_lt count.max (pos (parts_of p * leads_lettered p count.letter node))) (λ count. too_many_is (parts_of p) count.max (leads_lettered p count.letter node) some))
      ∙ ap₂ (λ limits n. list_any (λ count. int_lt count.max (pos (parts_of p * leads_marked p count.mark node))) p.query.counts
      || (list_any (λ count. int_lt count.max (pos (parts_of p * leads_lettered p count.letter node))) p.query.method_counts || above_com limits n)) found.com changes_in_parts

  with_joins : (left : ℕ) → left ≡ leads_left p node
      → numbers.parts * (changes + left) + numbers.parts - 1 ≡ parts_of p * (changes_of_method p node + leads_left p node) + parts_of p - 1
  with_joins left is =
      ap (λ parts. parts * (changes + left) + parts - 1) found.parts
      ∙ ap₂ (λ n more. parts_of p * (n + more) + parts_of p - 1) changed is

  pub few_told : (left : ℕ) → left ≡ leads_left p node → too_few_leads numbers marks letters changes left ≡ has_too_few_leads p node
  few_told left is =
      ap₂ (λ a b. a || (b || below_com numbers.com (numbers.parts * (changes + left) + numbers.parts - 1)))
      (of_marks (is_below left) (λ count. int_lt (pos (parts_of p * (leads_marked p count.mark node + leads_left p node))) count.min)
      (λ count. ap (λ more. is_below more (marked p node count)) is ∙ fewest_is (parts_of p) count.min (leads_marked p count.mark node + leads_left p node) some))
      (of_letters (is_below left) (λ count. int_lt (pos (parts_of p * (leads_lettered p count.letter node + leads_left p node))) count.min)
      (λ count. ap (λ more. is_below more (lettered p node count)) is ∙ fewest_is (parts_of p) count.min (leads_lettered p count.letter node + leads_left p node) some))
      ∙ ap₂ (λ limits n. list_any (λ count. int_lt (pos (parts_of p * (leads_marked p count.mark node + leads_left p node))) count.min) p.query.counts
      || (list_any (λ count. int_lt (pos (parts_of p * (leads_lettered p count.letter node + leads_left p node))) count.min) p.query.method_counts || below_com limits n)) found.com (with_joins left is)

-- with a lead more each gauge is asked once, for both reasons
six : (a b c d e f : Bool) → ((a || b) || ((c || d) || (e || f))) ≡ ((a || (c || e)) || (b || (d || f)))
six a b c d e f = ap (λ r. (a || b) || r) (in_pairs c d e f) ∙ in_pairs a b (c || e) (d || f)

any_out : (left of : ℕ) (gauges : List Gauge) → list_any (λ gauge. is_out left (raised of gauge)) gauges ≡ (list_any is_above (map (raised of) gauges) || list_any (is_below left) (map (raised of) gauges))
any_out left of gauges =
    sym (any_mapped (is_out left) (raised of) gauges)
    ∙ any_either is_above (is_below left) (map (raised of) gauges)

pub out_told : (numbers : Numbers) (marks letters : List Gauge) (kind : Kind) (changes left : ℕ) → hopeless_with numbers marks letters kind changes left
    ≡ (too_many_leads numbers (map (raised kind.mark) marks) (map (raised kind.letter) letters) changes
    || too_few_leads numbers (map (raised kind.mark) marks) (map (raised kind.letter) letters) changes left)
out_told numbers marks letters kind changes left =
    ap₂ (λ a b. a || (b || is_com_out numbers.com numbers.parts changes left)) (any_out left kind.mark marks) (any_out left kind.letter letters)
    ∙ six (list_any is_above (map (raised kind.mark) marks)) (list_any (is_below left) (map (raised kind.mark) marks))
    (list_any is_above (map (raised kind.letter) letters)) (list_any (is_below left) (map (raised kind.letter) letters))
    (above_com numbers.com (numbers.parts * changes)) (below_com numbers.com (numbers.parts * (changes + left) + numbers.parts - 1))

-- the leads that are left
pub room_is : (p : ProblemParts) (node : List ℕ) (numbers : Numbers) (long : ℕ) → HasNumbers p numbers → long ≡ length_of p node
    → room_left numbers long ≡ leads_left p node
room_is p node numbers long found is =
    ap₂ (λ most n. (most - n) / numbers.shortest) found.part_most is
    ∙ ap (λ s. (part_cap p - length_of p node) / s) found.shortest

pub in_order : (a b c r : Bool) → ((a || (b || c)) || r) ≡ (a || (b || (r || c)))
in_order true b c r = refl
in_order false true c r = refl
in_order false false c r = or_comm c r

-- the order of the reasons
pub many_in_order : (p : ProblemParts) (node : List ℕ) (rows : Bool)
    → rows ≡ list_any has_more_rows (map (fitted p node) p.query.patterns) → (has_too_many_leads p node || rows) ≡ is_too_many p node
many_in_order p node rows is =
    in_order _ _ _ rows
    ∙ ap (λ r. list_any (λ count. int_lt count.max (pos (parts_of p * leads_marked p count.mark node))) p.query.counts
    || (list_any (λ count. int_lt count.max (pos (parts_of p * leads_lettered p count.letter node))) p.query.method_counts
    || (r || above_com p.query.com (parts_of p * changes_of_method p node)))) (is ∙ any_mapped has_more_rows (fitted p node) p.query.patterns)
