-- The numbers of first verdicts are small, and so are valid nodes and their touches.
use Rattle.std.proofs.Common.{◌≡◌, ℕ, ◌-◌, ◌*◌, ◌<◌, ◌≤◌, true, false, ◌&&◌, List, length, take, drop, nat_lt, refl, arith}
use Rattle.std.specs.Cmp.Lexicographic.{slice_cmp}
use Rattle.std.specs.Ordering.{nat_cmp, is_lt}
use Rattle.std.proofs.lemmas.Bool.{and_parts, ltb-true, ltb-false}
use Rattle.std.proofs.Math.Nat.{mul_comm, mul_assoc, mul-le-mul_left, mul-div-le}
use Rattle.std.proofs.lemmas.Nat.{le-div}
use Rattle.cr_model.specs.Problems.{ProblemParts}
use Rattle.cr_model.specs.Callings.{HasSteps, length_of, shortest}
use Rattle.cr_model.specs.Limits.{most_leads}
use Rattle.cr_model.specs.Queries.{cap, part_cap}
use Rattle.cr_model.specs.Nodes.{IsValid}
use Rattle.cr_model.specs.Sound.{IsSound, sound_depth, sound_counts, sound_method_counts, sound_patterns}
use Rattle.cr_model.specs.Dead.{parts_of, is_long, turn_free}
use Rattle.cr_model.proofs.Below.{some_parts, some_shortest, shortest_leads}
use Rattle.cr_query.proofs.Sizes.{part_cap_short}
use Rattle.cr_audit.specs.declared.verdict.Item.{Item}
use Rattle.cr_audit.specs.declared.verdict.Item.TheVariants as item
use Rattle.cr_audit.specs.declared.verdict.Verdict.{Verdict}
use Rattle.cr_audit.specs.declared.verdict.Verdict.TheVariants as verdict
use Rattle.cr_audit.specs.Verdicts.{is_valid, has_too_many, has_too_few}
use Rattle.cr_audit.specs.Logs.{ItemIsSmall, IsSmall}
use Rattle.cr_log.specs.FirstVerdicts.{IsFirstVerdict}

-- the touch of a valid node has few leads, and so has the node
module _ (p : ProblemParts) (node : List ℕ) (sound : IsSound p) (valid : IsValid p node) where
  few_changes : parts_of p * length_of p node ≤ cap p
  few_changes =
      let one = mul-le-mul_left (parts_of p) valid.short in
      omega (arith, one, mul-div-le (cap p) (parts_of p))

  pub touch_is_short : parts_of p * length node ≤ most_leads
  touch_is_short =
      let one = mul-le-mul_left (parts_of p) (shortest_leads p node valid.steps) in
      let whole : parts_of p * length node * shortest p ≤ cap p = omega (arith, one, mul_assoc (parts_of p) (length node) (shortest p), few_changes) in
      omega (arith, le-div (parts_of p * length node) (cap p) (shortest p) (some_shortest p sound) whole, sound_depth p sound)

  pub node_is_short : length node ≤ most_leads
  node_is_short =
      let some = mul-le-mul_left (length node) (some_parts p sound) in
      omega (arith, some, mul_comm (parts_of p) (length node), touch_is_short)

  pub node_changes : length_of p node ≤ 12000
  node_changes = omega (arith, valid.short, part_cap_short p sound)

module _ (p : ProblemParts) (node : List ℕ) (sound : IsSound p) where
  many_small : (of : Item) → has_too_many p node of ≡ true → ItemIsSmall of
  many_small (item.Count i) h =
      let inside : i < length p.query.counts = ltb-true i (length p.query.counts) (and_parts (nat_lt i (length p.query.counts)) _ h).0 in
      omega (arith, (sound_counts p sound i inside).few)
  many_small (item.Leads i) h =
      let inside : i < length p.query.method_counts = ltb-true i (length p.query.method_counts) (and_parts (nat_lt i (length p.query.method_counts)) _ h).0 in
      omega (arith, (sound_method_counts p sound i inside).few)
  many_small (item.Rows i) h =
      let inside : i < length p.query.patterns = ltb-true i (length p.query.patterns) (and_parts (nat_lt i (length p.query.patterns)) _ h).0 in
      omega (arith, (sound_patterns p sound i inside).few)
  many_small item.Com h = tt

  few_small : (of : Item) → has_too_few p node of ≡ true → ItemIsSmall of
  few_small (item.Count i) h =
      let inside : i < length p.query.counts = ltb-true i (length p.query.counts) (and_parts (nat_lt i (length p.query.counts)) _ h).0 in
      omega (arith, (sound_counts p sound i inside).few)
  few_small (item.Leads i) h =
      let inside : i < length p.query.method_counts = ltb-true i (length p.query.method_counts) (and_parts (nat_lt i (length p.query.method_counts)) _ h).0 in
      omega (arith, (sound_method_counts p sound i inside).few)
  few_small (item.Rows i) h =
      let inside : i < length p.query.patterns = ltb-true i (length p.query.patterns) (and_parts (nat_lt i (length p.query.patterns)) _ h).0 in
      omega (arith, (sound_patterns p sound i inside).few)
  few_small item.Com h = tt

  module _ (steps : HasSteps p node) where
    -- a node that is not too long is valid
    short_is_valid : is_long p node ≡ false → IsValid p node
    short_is_valid short = record { steps = steps; short = ltb-false (part_cap p) (length_of p node) short }

    pub first_is_small : (why : Verdict) → IsFirstVerdict p node why → IsSmall why
    first_is_small verdict.Open first = tt
    first_is_small verdict.Long first = tt
    first_is_small (verdict.Again i j) first =
        let (before, more) = and_parts (nat_lt i j) _ first.holds in
        let (inside, same) = and_parts (nat_lt j (length_of p node)) _ more in
        let few = node_changes p node sound (short_is_valid (first.none verdict.Long refl)) in
        let less : i < j = ltb-true i j before in
        let last : j < length_of p node = ltb-true j (length_of p node) inside in
        (omega arith, omega arith)
    first_is_small (verdict.Home i) first =
        let (inside, more) = and_parts (nat_lt i (length_of p node)) _ first.holds in
        let few = node_changes p node sound (short_is_valid (first.none verdict.Long refl)) in
        let last : i < length_of p node = ltb-true i (length_of p node) inside in
        omega arith
    first_is_small (verdict.Many of) first = many_small of (and_parts (is_valid p node) (has_too_many p node of) first.holds).1
    first_is_small (verdict.Few of) first = few_small of (and_parts (is_valid p node) (has_too_few p node of) first.holds).1
    first_is_small (verdict.Back k) first =
        let (free, more) = and_parts (turn_free p.query) (nat_lt 0 k && (nat_lt k (length node) && is_lt (slice_cmp nat_cmp (drop k node) (take (length node - k) node)))) first.holds in
        let (some, more') = and_parts (nat_lt 0 k) (nat_lt k (length node) && is_lt (slice_cmp nat_cmp (drop k node) (take (length node - k) node))) more in
        let (inside, lesser) = and_parts (nat_lt k (length node)) (is_lt (slice_cmp nat_cmp (drop k node) (take (length node - k) node))) more' in
        let few = node_is_short p node sound (short_is_valid (first.none verdict.Long refl)) in
        let last : k < length node = ltb-true k (length node) inside in
        omega arith
