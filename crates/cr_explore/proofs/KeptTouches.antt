-- When the touch of a node is kept.
use Rattle.std.proofs.Common.{◌≡◌, ◌≢◌, ℕ, zero, suc, ◌+◌, ◌*◌, ◌/◌, ◌≤◌, ◌↔◌, true, pos, ◌≤ℤ◌, nat_eq, List, [], ◌∷◌, length, take, drop, ◌++◌, Bool, cond, count_by, All, Option, Some, None, is_none, refl, sym, ap, ◌∙◌, subst, arith, append-nil, take-append-drop}
use Rattle.std.proofs.lemmas.Bool.{and_parts, false≢true}
use Rattle.std.proofs.Common.{eqb-true}
use Rattle.std.proofs.lemmas.List.{take_all}
use Rattle.std.proofs.lemmas.List.Elements.{All-weaker}
use Rattle.std.proofs.lemmas.List.Sums.{sum_by-append}
use Rattle.cr_model.specs.declared.query.Com.{Com}
use Rattle.cr_model.specs.declared.query.Count.{Count}
use Rattle.cr_model.specs.declared.query.MethodCount.{MethodCount}
use Rattle.cr_model.specs.Problems.{PatternParts, ProblemParts}
use Rattle.cr_model.specs.Callings.{rows_of, length_of, mark_of, letter_of, AllDiffer, TrueTouch}
use Rattle.cr_model.specs.Decided.{rotated}
use Rattle.cr_model.specs.Queries.{cap, repeated, IsWithin, leads_marked, leads_lettered, rows_fitting, Meets, MeetsCom, changes_of_method}
use Rattle.cr_model.specs.Nodes.{part_of, IsValid}
use Rattle.cr_model.specs.Dead.{parts_of, turn_free}
use Rattle.cr_model.specs.OneTurn.{touch_of}
use Rattle.cr_model.specs.Sound.{IsSound}
use Rattle.cr_model.specs.Touches.{Wanted, IsRotation, Kept}
use Rattle.cr_model.specs.LeastRotations.{IsLeastRotation}
use Rattle.cr_model.proofs.Below.{words, words_length, some_parts}
use Rattle.cr_model.proofs.Parts.{first_word}
use Rattle.cr_prune.proofs.Leads.{leads_differ}
use Rattle.cr_query.specs.Meeting.{MeetsByRows}
use Rattle.cr_query.proofs.KeptCallings.{kept_where_none_better}
use Rattle.cr_path.specs.Best.{IsBest}
use Rattle.cr_explore.specs.Keeping.{MayBeKept, IsToldByPatterns}
use Rattle.cr_explore.proofs.Short.{few_changes, touch_has_steps}

-- no words of no steps
no_steps : (a number : ℕ) → words a number [] ≡ []
no_steps a zero = refl
no_steps a (suc number) = no_steps (a + 1) number

-- the part of a touch of equal words
part_is : (parts : ℕ) (node : List ℕ) → 1 ≤ parts → take (length (repeated parts node) / parts) (repeated parts node) ≡ node
part_is zero node some = absurd (omega arith)
part_is (suc parts) node some = first_word parts (repeated (suc parts) node) node refl

module _ (p : ProblemParts) (node : List ℕ) where
  -- a kept touch has all that is asked
  pub asked : IsSound p → ((calling : List ℕ) → turn_free p.query ≡ true → Wanted p calling → Kept p calling ↔ IsLeastRotation (part_of p calling))
      → Kept p (touch_of p node) → MayBeKept p node
  asked sound least kept = record {
    round = (λ none. kept.wanted.touch.some (ap (touch_of p) none ∙ no_steps 0 (parts_of p)), kept.wanted.touch.round);
    long = subst (λ (n : ℕ). p.query.min ≤ℤ pos n) (words_length p 0 (parts_of p) node) kept.wanted.meets.long;
    counts = (kept.wanted.meets.counts, kept.wanted.meets.method_counts);
    least = λ free. subst IsLeastRotation (part_is (parts_of p) node (some_parts p sound)) ((least (touch_of p node) free kept.wanted).0 kept);
  }

  -- no patterns and no limits on changes of method
  pub free_parts : turn_free p.query ≡ true → (p.query.patterns ≡ []) × (p.query.com ≡ None)
  free_parts free =
      let both = and_parts (nat_eq (length p.query.patterns) 0) (is_none p.query.com) free in
      (no_patterns p.query.patterns (eqb-true (length p.query.patterns) 0 both.0), no_limits p.query.com both.1)
    where
      no_patterns : (patterns : List PatternParts) → length patterns ≡ 0 → patterns ≡ []
      no_patterns [] none = refl
      no_patterns (x ∷ xs) none = absurd (omega arith)

      no_limits : (limits : Option Com) → is_none limits ≡ true → limits ≡ None
      no_limits None h = refl
      no_limits (Some limits) h = absurd (false≢true h)

  -- rows of a touch that differ do so in its first part
  pub first_part_differs : IsSound p → AllDiffer (rows_of p (touch_of p node)) → AllDiffer (rows_of p node)
  first_part_differs sound differ =
      subst (λ (c : List ℕ). AllDiffer (rows_of p c)) (part_is (parts_of p) node (some_parts p sound)) (leads_differ p (touch_of p node) (length (touch_of p node) / parts_of p) differ)

  -- the touch of a node with steps has some
  touch_has_some : IsSound p → node ≢ [] → touch_of p node ≢ []
  touch_has_some sound some none =
      some (sym (part_is (parts_of p) node (some_parts p sound)) ∙ ap (take (length (touch_of p node) / parts_of p)) none ∙ take_all (length (touch_of p node) / parts_of p) [] (omega arith))

  -- where rows differ and patterns are met, and there is no limit on changes of method, the touch is wanted
  wanted_where_met : IsSound p → p.query.com ≡ None → IsValid p node → MayBeKept p node → AllDiffer (rows_of p (touch_of p node))
      → MeetsByRows p (rows_of p (touch_of p node)) → Wanted p (touch_of p node)
  wanted_where_met sound limits valid may differ patterns =
      let long : length_of p (touch_of p node) ≡ parts_of p * length_of p node = words_length p 0 (parts_of p) node in
      record {
        steps = touch_has_steps p node valid.steps;
        touch = record { some = touch_has_some sound may.round.0; round = may.round.1; differ = differ };
        meets = record {
          long = subst (λ (n : ℕ). p.query.min ≤ℤ pos n) (sym long) may.long;
          short = omega (arith, long, few_changes p node sound valid);
          parts = (node, refl);
          counts = may.counts.0;
          method_counts = may.counts.1;
          patterns = patterns;
          «com» = subst (λ (o : Option Com). MeetsCom o (changes_of_method p (touch_of p node))) (sym limits) tt;
        };
      }

  -- where all rotations meet the query or none, the rest are the rows
  pub kept_where_rows_differ : ((calling : List ℕ) → turn_free p.query ≡ true → Wanted p calling → Kept p calling ↔ IsLeastRotation (part_of p calling))
      → IsSound p → turn_free p.query ≡ true → IsValid p node → MayBeKept p node → AllDiffer (rows_of p (touch_of p node)) → Kept p (touch_of p node)
  kept_where_rows_differ least sound free valid may differ =
      let (patterns, limits) = free_parts free in
      let met : MeetsByRows p (rows_of p (touch_of p node)) =
      subst (λ (list : List PatternParts). All (λ pattern. IsWithin pattern.min pattern.max (rows_fitting pattern.cells (rows_of p (touch_of p node)))) list) (sym patterns) (λ k d inside. absurd (omega arith)) in
      (least (touch_of p node) free (wanted_where_met sound limits valid may differ met)).1 (subst IsLeastRotation (sym (part_is (parts_of p) node (some_parts p sound))) (may.least free))

-- a rotation has as many steps of any kind
counted_turned : (test : ℕ → Bool) (k : ℕ) (calling : List ℕ) → count_by test (rotated k calling) ≡ count_by test calling
counted_turned test k calling =
    let one : ℕ → ℕ = λ step. cond (test step) 1 0 in
    let whole : count_by test (take k calling ++ drop k calling) ≡ count_by test calling = ap (count_by test) (take-append-drop k calling) in
    omega (arith, whole, sum_by-append one (drop k calling) (take k calling), sum_by-append one (take k calling) (drop k calling))

module _ (p : ProblemParts) (told : IsToldByPatterns p) where
  -- one part is the whole
  pub one_part : (node : List ℕ) → touch_of p node ≡ node
  one_part node = ap (λ (n : ℕ). repeated n node) told.parts ∙ append-nil node

  -- a rotation of what meets the query does so where it meets the patterns
  meets_turned : (calling : List ℕ) (k : ℕ) → Meets p calling → length_of p (rotated k calling) ≡ length_of p calling
      → MeetsByRows p (rows_of p (rotated k calling)) → Meets p (rotated k calling)
  meets_turned calling k meets long patterns = record {
    long = subst (λ (n : ℕ). p.query.min ≤ℤ pos n) (sym long) meets.long;
    short = subst (λ (n : ℕ). n ≤ cap p) (sym long) meets.short;
    parts = (rotated k calling, sym (one_part (rotated k calling)));
    counts = All-weaker (λ (count : Count). IsWithin count.min count.max (leads_marked p count.mark calling)) (λ (count : Count). IsWithin count.min count.max (leads_marked p count.mark (rotated k calling)))
        (λ count h. subst (IsWithin count.min count.max) (sym (counted_turned (λ step. nat_eq (mark_of p step) count.mark) k calling)) h) p.query.counts meets.counts;
    method_counts = All-weaker (λ (count : MethodCount). IsWithin count.min count.max (leads_lettered p count.letter calling)) (λ (count : MethodCount). IsWithin count.min count.max (leads_lettered p count.letter (rotated k calling)))
        (λ count h. subst (IsWithin count.min count.max) (sym (counted_turned (λ step. nat_eq (letter_of p step) count.letter) k calling)) h) p.query.method_counts meets.method_counts;
    patterns = patterns;
    «com» = subst (λ (o : Option Com). MeetsCom o (changes_of_method p (rotated k calling))) (sym told.com) tt;
  }

  -- a calling that is wanted where it meets the patterns is kept where it does and no lesser rotation does
  kept_best : (calling : List ℕ) → (MeetsByRows p (rows_of p calling) → Wanted p calling)
      → ((other : List ℕ) → TrueTouch p calling → IsRotation calling other → TrueTouch p other × (length_of p other ≡ length_of p calling))
      → IsBest p calling ↔ Kept p calling
  kept_best calling wants turned = (
    λ best. (kept_where_none_better p calling (wants best.meets) turned).0 (λ k some inside better. best.least k some inside better.less better.meets.patterns),
    λ kept. record {
      meets = kept.wanted.meets.patterns;
      least = λ k some inside less rows.
          let long = (turned (rotated k calling) kept.wanted.touch (take k calling, drop k calling, sym (take-append-drop k calling), refl)).1 in
          (kept_where_none_better p calling kept.wanted turned).1 kept k some inside (record { less = less; meets = meets_turned calling k kept.wanted.meets long rows });
    },
  )

  pub kept_where_best : (node : List ℕ) → ((calling other : List ℕ) → TrueTouch p calling → IsRotation calling other → TrueTouch p other × (length_of p other ≡ length_of p calling))
      → IsSound p → IsValid p node → MayBeKept p node → AllDiffer (rows_of p (touch_of p node)) → IsBest p node ↔ Kept p (touch_of p node)
  kept_where_best node turned sound valid may differ =
      subst (λ (calling : List ℕ). IsBest p calling ↔ Kept p (touch_of p node)) (one_part node)
      (kept_best (touch_of p node) (wanted_where_met p node sound told.com valid may differ) (turned (touch_of p node)))
