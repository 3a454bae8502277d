-- When a touch is kept.
use Rattle.std.proofs.Common.{◌≡◌, ◌≢◌, ◌↔◌, ◌⊎◌, ℕ, ◌+◌, ◌-◌, ◌*◌, ◌<◌, ◌≤◌, Bool, true, cond, ℤ, pos, int_lt, ◌<ℤ◌, ◌≤ℤ◌, zero, suc, List, [], ◌∷◌, ◌++◌, length, get_or, take, drop, All, count_by, Ordering, Less, Equal, Greater, nat_cmp, nat_eq, inl, inr, refl, sym, ap, ◌∙◌, subst, arith, append-nil, length-append, length-drop, take-append-drop}
use Rattle.std.specs.Cmp.Lexicographic.{slice_cmp}
use Rattle.std.specs.Ordering.{ordering_then}
use Rattle.std.specs.Int.Signed.{lt_z_yes}
use Rattle.std.proofs.lemmas.Bool.{cases_lt}
use Rattle.std.proofs.lemmas.Float.{T_from_true}
use Rattle.std.proofs.lemmas.Cmp.{nat_list_cmp_total}
use Rattle.std.proofs.lemmas.Int.{ints}
use Rattle.std.proofs.lemmas.List.{take_all, take_at, drop_all, length-take-le}
use Rattle.std.proofs.lemmas.List.Elements.{All-append, All-take, All-drop}
use Rattle.std.proofs.lemmas.List.Sums.{sum_by-append}
use Rattle.cr_row.specs.Rows.{rounds}
use Rattle.cr_model.specs.Problems.{ProblemParts}
use Rattle.cr_model.specs.Callings.{HasSteps, AllDiffer, TrueTouch, mark_of, letter_of, rows_of, length_of, head_of}
use Rattle.cr_model.specs.Dead.{parts_of, turn_free}
use Rattle.cr_model.specs.Decided.{rotated}
use Rattle.cr_model.specs.OneTurn.{touch_of}
use Rattle.cr_model.specs.Queries.{repeated, MeetsCom, Meets, changes_of_method}
use Rattle.cr_model.specs.Sound.{IsSound, sound_range}
use Rattle.cr_model.specs.Touches.{Wanted, IsRotation, IsLess, Kept}
use Rattle.cr_model.proofs.Below.{words, words_counted, words_length}
use Rattle.cr_model.proofs.InOrder.{never_itself}
use Rattle.cr_model.proofs.LeastRotation.{rotated_is}
use Rattle.cr_model.proofs.TurnedBack.{words_turned}
use Rattle.cr_audit.specs.Keeping.{HasLeadsAsked, AreRowsAsked, IsLeast, HasNoneBetter}

-- lists in two parts, of which the first are as long, are compared part by part
in_two : (a b c d : List ℕ) → length a ≡ length c → slice_cmp nat_cmp (a ++ b) (c ++ d) ≡ ordering_then (slice_cmp nat_cmp a c) (slice_cmp nat_cmp b d)
in_two [] b [] d same = refl
in_two [] b (y ∷ c) d same = absurd (omega arith)
in_two (x ∷ a) b [] d same = absurd (omega arith)
in_two (x ∷ a) b (y ∷ c) d same = by (nat_cmp x y) (in_two a b c d (omega arith))
  where
    by : (first : Ordering) → slice_cmp nat_cmp (a ++ b) (c ++ d) ≡ ordering_then (slice_cmp nat_cmp a c) (slice_cmp nat_cmp b d)
        → ordering_then first (slice_cmp nat_cmp (a ++ b) (c ++ d)) ≡ ordering_then (ordering_then first (slice_cmp nat_cmp a c)) (slice_cmp nat_cmp b d)
    by Less rest = refl
    by Equal rest = rest
    by Greater rest = refl

-- a rotation beside the steps, where `behind` of them stand before the seam
pub turned_cmp : (steps : List ℕ) (by behind : ℕ) → by ≤ length steps → behind ≡ length steps - by
    → slice_cmp nat_cmp (rotated by steps) steps ≡ ordering_then (slice_cmp nat_cmp (drop by steps) (take behind steps)) (slice_cmp nat_cmp (take by steps) (drop behind steps))
turned_cmp steps by behind inside is =
    ap (slice_cmp nat_cmp (rotated by steps)) (sym (take-append-drop behind steps))
    ∙ in_two (drop by steps) (take by steps) (take behind steps) (drop behind steps)
    (omega (arith, length-drop by steps, length-take-le behind steps (omega arith)))

-- a rotation that is less is a proper one
proper : (calling : List ℕ) (k : ℕ) → k < length calling + 1 → IsLess (rotated k calling) calling → (0 < k) × (k < length calling)
proper calling k inside less = (some (cases_lt 0 k), short (cases_lt k (length calling)))
  where
    other : rotated k calling ≡ calling → ⊥
    other same = never_itself nat_list_cmp_total calling (subst (λ (c : List ℕ). IsLess c calling) same less)

    some : (0 < k) ⊎ (k ≤ 0) → 0 < k
    some (inl h) = h
    some (inr h) = absurd (other (ap (λ n. rotated n calling) (let e : k ≡ 0 = omega arith in e) ∙ append-nil calling))

    short : (k < length calling) ⊎ (length calling ≤ k) → k < length calling
    short (inl h) = h
    short (inr h) = absurd (other (ap (λ l. l ++ take k calling) (drop_all k calling h) ∙ take_all k calling h))

rotation : (calling : List ℕ) (k : ℕ) → IsRotation calling (rotated k calling)
rotation calling k = (take k calling, drop k calling, sym (take-append-drop k calling), refl)

module _ (p : ProblemParts) (calling : List ℕ) where
  -- where no rotation is less
  pub least_is_kept : Wanted p calling → IsLeast calling → Kept p calling
  least_is_kept wanted least = record {
    wanted = wanted;
    least = λ other turned other_wanted less.
        let (k, inside, is) = rotated_is calling other turned in
        let lesser : IsLess (rotated k calling) calling = subst (λ (c : List ℕ). IsLess c calling) is less in
        let (some, short) = proper calling k inside lesser in
        least k some short lesser;
  }

  -- and where the query is the same for all rotations only there
  pub kept_is_least : ((other : List ℕ) → turn_free p.query ≡ true → Wanted p calling → IsRotation calling other → Wanted p other)
      → turn_free p.query ≡ true → Kept p calling → IsLeast calling
  kept_is_least law free kept k some short less = kept.least (rotated k calling) (rotation calling k) (law (rotated k calling) free kept.wanted (rotation calling k)) less

  -- a rotation has the problem's steps
  steps_turned : (k : ℕ) → HasSteps p calling → HasSteps p (rotated k calling)
  steps_turned k steps =
      All-append (λ s. s < length p.leads) (drop k calling) (take k calling) (All-drop (λ s. s < length p.leads) k calling steps) (All-take (λ s. s < length p.leads) k calling steps)

  module _ (law : (other : List ℕ) → TrueTouch p calling → IsRotation calling other → TrueTouch p other × (length_of p other ≡ length_of p calling)) (wanted : Wanted p calling) where
    -- one that meets the query is wanted
    rotation_wanted : (k : ℕ) → Meets p (rotated k calling) → Wanted p (rotated k calling)
    rotation_wanted k meets = record { steps = steps_turned k wanted.steps; touch = (law (rotated k calling) wanted.touch (rotation calling k)).0; meets = meets }

    -- what is counted of all leads stays
    same_count : (test : ℕ → Bool) (k : ℕ) → count_by test calling ≡ count_by test (rotated k calling)
    same_count test k =
        let f = λ (s : ℕ). cond {A = ℕ} (test s) 1 0 in
        omega (arith, ap (count_by test) (take-append-drop k calling), sum_by-append f (take k calling) (drop k calling), sum_by-append f (drop k calling) (take k calling))

    -- so only changes of method and rows are to be asked
    pub rotation_meets : (k : ℕ) → MeetsCom p.query.com (changes_of_method p (rotated k calling)) → AreRowsAsked p (rows_of p (rotated k calling)) → Meets p (rotated k calling)
    rotation_meets k changes rows =
        let meets = wanted.meets in
        let long : length_of p (rotated k calling) ≡ length_of p calling = (law (rotated k calling) wanted.touch (rotation calling k)).1 in
        let (word, are) = words_turned (take k calling) (drop k calling) (parts_of p) meets.parts.0 (take-append-drop k calling ∙ meets.parts.1) in
        record {
          long = rw long meets.long;
          short = rw long meets.short;
          parts = (word, are);
          counts = λ i d inside. rw (same_count (λ step. nat_eq (mark_of p step) (get_or p.query.counts i d).mark) k) at (meets.counts i d inside);
          method_counts = λ i d inside. rw (same_count (λ step. nat_eq (letter_of p step) (get_or p.query.method_counts i d).letter) k) at (meets.method_counts i d inside);
          patterns = rows;
          «com» = changes;
        }

    -- kept where no rotation is less and meets the query, and only there
    pub kept_where_none_better : HasNoneBetter p calling ↔ Kept p calling
    kept_where_none_better = (
      λ none. record {
        wanted = wanted;
        least = λ other turned other_wanted less.
            let (k, inside, is) = rotated_is calling other turned in
            let lesser : IsLess (rotated k calling) calling = subst (λ (c : List ℕ). IsLess c calling) is less in
            let (some, short) = proper calling k inside lesser in
            none k some short (record { less = lesser; meets = subst (Meets p) is other_wanted.meets });
      },
      λ kept k some short better. kept.least (rotated k calling) (rotation calling k) (rotation_wanted k better.meets) better.less,
    )

-- a wanted touch, part by part
module _ (p : ProblemParts) (sound : IsSound p) (node calling : List ℕ) (is : calling ≡ touch_of p node) where
  -- it has some leads, as it has some changes
  some_leads : HasLeadsAsked p calling → calling ≢ []
  some_leads asked none =
      let short : length_of p calling ≡ 0 = ap (length_of p) none in
      omega (arith, ints, short, asked.long, (sound_range p sound).from)

  pub wanted_from : HasSteps p calling → head_of p calling ≡ rounds p.stage → HasLeadsAsked p calling → (rows : List (List ℕ)) → rows ≡ rows_of p calling
      → AllDiffer rows → AreRowsAsked p rows → Wanted p calling
  wanted_from steps round asked rows same differ fits = record {
    steps = steps;
    touch = record { some = some_leads asked; round = round; differ = subst AllDiffer same differ };
    meets = record {
      long = asked.long;
      short = asked.short;
      parts = (node, is);
      counts = asked.marks;
      method_counts = asked.letters;
      patterns = subst (AreRowsAsked p) same fits;
      «com» = asked.method_changes;
    };
  }

pub leads_of_wanted : (p : ProblemParts) (calling : List ℕ) → Wanted p calling → HasLeadsAsked p calling
leads_of_wanted p calling wanted = record {
  long = wanted.meets.long;
  short = wanted.meets.short;
  marks = wanted.meets.counts;
  letters = wanted.meets.method_counts;
  method_changes = wanted.meets.com;
}

-- what is counted in all parts
pub counted_in_parts : (p : ProblemParts) (test : ℕ → Bool) (node : List ℕ) → parts_of p * count_by test node ≡ count_by test (touch_of p node)
counted_in_parts p test node = sym (words_counted test 0 (parts_of p) node)

pub length_in_parts : (p : ProblemParts) (node : List ℕ) → parts_of p * length_of p node ≡ length_of p (touch_of p node)
length_in_parts p node = sym (words_length p 0 (parts_of p) node)

-- a number below the least is no length that is asked for
pub too_short : (limit : ℤ) (number length : ℕ) → int_lt (pos number) limit ≡ true → number ≡ length → limit ≤ℤ pos length → ⊥
too_short limit number length less is asked = let below : pos number <ℤ limit = lt_z_yes (T_from_true (int_lt (pos number) limit) less) in omega (arith, ints, is)

-- a touch begins with its node
pub touch_begins : (p : ProblemParts) (node : List ℕ) → 1 ≤ parts_of p → (take (length node) (touch_of p node) ≡ node) × (length node ≤ length (touch_of p node))
touch_begins p node some = by (parts_of p) some
  where
    by : (number : ℕ) → 1 ≤ number → (take (length node) (repeated number node) ≡ node) × (length node ≤ length (repeated number node))
    by zero none = absurd (omega arith)
    by (suc number) more = (take_at node (words 1 number node) (length node) refl, omega (arith, length-append node (words 1 number node)))
