-- Each touch that lines have is found once.
use Rattle.std.proofs.Common.{◌≡◌, ◌↔◌, ℕ, ◌+◌, ◌<◌, ◌≤◌, Bool, true, false, cond, List, [], ◌∷◌, ◌++◌, filter, count_by, All, Contains, Option, Some, None, is_none, ◌⊎◌, bytes_eq, nat_le, inl, inr, refl, sym, ap, ◌∙◌, subst, arith}
use Rattle.std.specs.Prelude.{flat_map}
use Rattle.std.specs.List.Sorted.{IsPermutation, IsSorted, IsStrictlySortedBy}
use Rattle.std.proofs.lemmas.Bool.{true≢false, false_from_ne_true, and_parts, leb-true, cases_Bool, cases_lt}
use Rattle.std.proofs.lemmas.List.Elements.{All-head, All-tail}
use Rattle.std.proofs.lemmas.List.Elements.{Contains-append_cases}
use Rattle.std.proofs.lemmas.List.Sorted.{Contains-permutation, IsPermutation-sym}
use Rattle.std.proofs.lemmas.List.Sums.{sum_by-append}
use Rattle.std.proofs.lemmas.Slice.Eq.{bytes_eq-Decides}
use Rattle.cr_model.specs.declared.reason.Reason.{Reason}
use Rattle.cr_model.specs.Problems.{ProblemParts}
use Rattle.cr_model.specs.Callings.{HasSteps, length_of}
use Rattle.cr_model.specs.Queries.{part_cap}
use Rattle.cr_model.specs.Decided.{is_kept, has_steps}
use Rattle.cr_model.specs.Touches.{Kept}
use Rattle.cr_model.specs.Books.{book_order}
use Rattle.cr_model.specs.Nodes.{is_above, IsValid, nodes_above, times_found, Splits}
use Rattle.cr_model.specs.Dead.{HasNoneBelow, dead}
use Rattle.cr_model.specs.Sizes.{children, live_children}
use Rattle.cr_model.specs.OneTurn.{touch_of, touch_found}
use Rattle.cr_model.proofs.Counting.{count_more, count_yes, count_no, passing}
use Rattle.cr_model.proofs.Deciding.{has_steps_decided}
use Rattle.cr_model.proofs.InOrder.{none_held, contains_cases, contains_more}
use Rattle.cr_model.proofs.Listed.{held_joined, all_from_held}
use Rattle.cr_audit.specs.declared.verdict.Verdict.{Verdict}
use Rattle.cr_audit.specs.declared.verdict.Verdict.TheVariants as verdict
use Rattle.cr_audit.specs.Verdicts.{is_valid, HoldsVerdict}
use Rattle.cr_audit.specs.Logs.{LineParts, opened_by, AreDue, log_text, IsOpened, Proves}
use Rattle.cr_log.specs.FirstVerdicts.{IsFirstLine}
use Rattle.cr_log.specs.Logging.{opens, found_by, IsLogged}
use Rattle.cr_log.proofs.Adding.{line_of}

-- a node that a test calls valid is so
pub valid_from : (p : ProblemParts) (node : List ℕ) → is_valid p node ≡ true → IsValid p node
valid_from p node h =
    let (steps, short) = and_parts (has_steps p node) (nat_le (length_of p node) (part_cap p)) h in
    record { steps = (has_steps_decided p node).0 steps; short = leb-true (length_of p node) (part_cap p) short }

-- what the model says of turns and of what is kept
pub record Turning (p : ProblemParts) : Type 0 where
  pub turn : (node : List ℕ) → IsValid p node → Splits p (node ∷ []) (touch_found p node) (live_children p 0 node)
  pub dies : (node : List ℕ) (why : Reason) → dead p 0 node ≡ Some why → HasNoneBelow p node
  pub decided : (calling : List ℕ) → (is_kept p calling ≡ true) ↔ Kept p calling

-- what is left out does not pass
count_filtered : {X : Type 0} (test keeps : X → Bool) (xs : List X) → ((x : X) → keeps x ≡ false → test x ≡ false) → count_by test (filter keeps xs) ≡ count_by test xs
count_filtered test keeps [] fails = refl
count_filtered test keeps (x ∷ xs) fails = by (keeps x) refl (count_filtered test keeps xs fails)
  where
    by : (b : Bool) → keeps x ≡ b → count_by test (filter keeps xs) ≡ count_by test xs → count_by test (cond b (x ∷ filter keeps xs) (filter keeps xs)) ≡ count_by test (x ∷ xs)
    by true h rest = count_more test x (filter keeps xs) ∙ ap (λ n. cond (test x) 1 0 + n) rest ∙ sym (count_more test x xs)
    by false h rest = rest ∙ sym (count_no test x xs (fails x h))

module _ (p : ProblemParts) (facts : Turning p) where
  module _ (calling : List ℕ) (kept : Kept p calling) where
    -- of a node's children only live ones are above the touch
    live_count : (node : List ℕ) → nodes_above p (live_children p 0 node) calling ≡ nodes_above p (children p node) calling
    live_count node = count_filtered (λ other. is_above p other calling) (λ next. is_none (dead p 0 next)) (children p node) (λ next h. by next (dead p 0 next) refl h)
      where
        by : (next : List ℕ) (why : Option Reason) → dead p 0 next ≡ why → is_none why ≡ false → is_above p next calling ≡ false
        by next None e h = absurd (true≢false h)
        by next (Some why) e h = false_from_ne_true (is_above p next calling) (λ above. facts.dies next why e calling kept above)

    -- what a line has, and what it opens, is no more than what its node is above
    one_line : (node : List ℕ) (why : Verdict) → HoldsVerdict p node why
        → times_found (cond (opens why) (touch_found p node) []) calling + nodes_above p (opened_by p node why) calling ≤ nodes_above p (node ∷ []) calling
    one_line node verdict.Open holds = omega (arith, (facts.turn node (valid_from p node holds)).each calling kept, live_count node)
    one_line node verdict.Long holds = omega arith
    one_line node (verdict.Again i j) holds = omega arith
    one_line node (verdict.Home i) holds = omega arith
    one_line node (verdict.Many of) holds = omega arith
    one_line node (verdict.Few of) holds = omega arith
    one_line node (verdict.Back k) holds = omega arith

    -- so is what all lines have
    all_lines : (due : List (List ℕ)) (lines : List LineParts) → All (IsFirstLine p) lines → AreDue p due lines []
        → times_found (flat_map (found_by p) lines) calling ≤ nodes_above p due calling
    all_lines due [] first order = omega arith
    all_lines [] (line ∷ lines) first order = absurd order
    all_lines (node ∷ due) (line ∷ lines) first order =
        let later = all_lines (opened_by p node line.verdict ++ due) lines (All-tail (IsFirstLine p) line lines first) order.1 in
        let here : times_found (found_by p line) calling + nodes_above p (opened_by p line.node line.verdict) calling ≤ nodes_above p (line.node ∷ []) calling
        = one_line line.node line.verdict (All-head (IsFirstLine p) line lines first).holds in
        let here' : times_found (found_by p line) calling + nodes_above p (opened_by p node line.verdict) calling ≤ nodes_above p (node ∷ []) calling
        = subst (λ (n : List ℕ). times_found (found_by p line) calling + nodes_above p (opened_by p n line.verdict) calling ≤ nodes_above p (n ∷ []) calling) order.0 here in
        let found : times_found (found_by p line ++ flat_map (found_by p) lines) calling ≡ times_found (found_by p line) calling + times_found (flat_map (found_by p) lines) calling
        = sum_by-append _ (found_by p line) (flat_map (found_by p) lines) in
        let opened : nodes_above p (opened_by p node line.verdict ++ due) calling ≡ nodes_above p (opened_by p node line.verdict) calling + nodes_above p due calling
        = sum_by-append _ (opened_by p node line.verdict) due in
        let whole : nodes_above p ((node ∷ []) ++ due) calling ≡ nodes_above p (node ∷ []) calling + nodes_above p due calling
        = sum_by-append _ (node ∷ []) due in
        omega (arith, later, here', found, opened, whole)

  -- each found touch is kept, and that of an open line
  is_found : (node : List ℕ) (why : Verdict) (calling : List ℕ) → Contains (cond (opens why) (touch_found p node) []) calling
      → (why ≡ verdict.Open) × (calling ≡ touch_of p node) × Kept p calling
  is_found node verdict.Open calling held = by (is_kept p (touch_of p node)) refl held
    where
      by : (b : Bool) → is_kept p (touch_of p node) ≡ b → Contains (cond b (touch_of p node ∷ []) []) calling → (verdict.Open ≡ verdict.Open) × (calling ≡ touch_of p node) × Kept p calling
      by true passes held' = elim (contains_cases (touch_of p node) calling [] held') [
        | inl e ↦ (refl, sym e, subst (Kept p) e ((facts.decided (touch_of p node)).0 passes))
        | inr more ↦ absurd (none_held calling more)
      ]
      by false fails held' = absurd (none_held calling held')
  is_found node verdict.Long calling held = absurd (none_held calling held)
  is_found node (verdict.Again i j) calling held = absurd (none_held calling held)
  is_found node (verdict.Home i) calling held = absurd (none_held calling held)
  is_found node (verdict.Many of) calling held = absurd (none_held calling held)
  is_found node (verdict.Few of) calling held = absurd (none_held calling held)
  is_found node (verdict.Back k) calling held = absurd (none_held calling held)

  held_opened : (lines : List LineParts) (calling : List ℕ) → Contains (flat_map (found_by p) lines) calling → IsOpened p lines calling × Kept p calling
  held_opened [] calling held = absurd (none_held calling held)
  held_opened (line ∷ lines) calling held = by (held_opened lines calling) (Contains-append_cases (found_by p line) (flat_map (found_by p) lines) calling held)
    where
      by : (Contains (flat_map (found_by p) lines) calling → IsOpened p lines calling × Kept p calling)
          → Contains (found_by p line) calling ⊎ Contains (flat_map (found_by p) lines) calling → IsOpened p (line ∷ lines) calling × Kept p calling
      by further (inl here) =
          let (opened, is, kept) = is_found line.node line.verdict calling here in
          (record { node = line.node; stands = (0, omega arith, λ i. record { node = line.node; verdict = opened i }); is = is }, kept)
      by further (inr later) =
          let (opened, kept) = further later in
          (record { node = opened.node; stands = contains_more line (line_of opened.node verdict.Open) lines opened.stands; is = opened.is }, kept)

  -- and back
  opened_held : (lines : List LineParts) (calling : List ℕ) → IsOpened p lines calling → Kept p calling → Contains (flat_map (found_by p) lines) calling
  opened_held lines calling opened kept =
      held_joined (found_by p) (line_of opened.node verdict.Open) calling lines opened.stands
      (subst (λ (b : Bool). Contains (cond b (touch_of p opened.node ∷ []) []) calling)
      (sym ((facts.decided (touch_of p opened.node)).1 (subst (Kept p) opened.is kept)))
      (0, omega arith, sym opened.is))

  module _ (lines : List LineParts) (found book : List (List ℕ)) (logged : IsLogged p lines found []) where
    -- no touch is found twice
    found_once : (calling : List ℕ) → times_found found calling ≤ 1
    found_once calling = elim (cases_Bool (is_kept p calling)) [
      | inl passes ↦
          let few : times_found (flat_map (found_by p) lines) calling ≤ nodes_above p ([] ∷ []) calling
          = all_lines calling ((facts.decided calling).0 passes) ([] ∷ []) lines logged.first logged.whole in
          let one : nodes_above p ([] ∷ []) calling ≡ 1 = count_yes (λ node. is_above p node calling) [] [] refl in
          let same : times_found found calling ≡ times_found (flat_map (found_by p) lines) calling = ap (λ l. times_found l calling) logged.touches in
          omega (arith, few, one, same)
      | inr fails ↦ by (cases_lt 0 (times_found found calling)) fails
    ]
      where
        by : (0 < times_found found calling) ⊎ (times_found found calling ≤ 0) → is_kept p calling ≡ false → times_found found calling ≤ 1
        by (inr none) fails = omega arith
        by (inl some) fails =
            let (other, held, same) = passing (bytes_eq calling) found (omega arith) in
            let is : calling ≡ other = (bytes_eq-Decides calling other).0 same in
            let kept : Kept p other = (held_opened lines other (subst (λ (l : List (List ℕ)). Contains l other) logged.touches held)).1 in
            absurd (true≢false (sym ((facts.decided calling).1 (subst (Kept p) (sym is) kept)) ∙ fails))

    -- so the text of the lines proves what was found, in the book's order
    pub log_proves : IsPermutation found book → IsSorted (book_order p) book
        → ((callings sorted : List (List ℕ)) → IsPermutation callings sorted → IsSorted (book_order p) sorted → ((calling : List ℕ) → times_found callings calling ≤ 1) → IsStrictlySortedBy (book_order p) sorted)
        → Proves p (log_text p lines) book
    log_proves moved sorted strict = record {
      lines = lines;
      text = refl;
      form = logged.form;
      whole = logged.whole;
      verdicts = λ k d inside. (logged.first k d inside).holds;
      ascending = strict found book moved sorted found_once;
      each = λ calling. (
        λ held. held_opened lines calling (subst (λ (l : List (List ℕ)). Contains l calling) logged.touches (Contains-permutation book found calling (IsPermutation-sym found book moved) held)),
        λ both. Contains-permutation found book calling moved (subst (λ (l : List (List ℕ)). Contains l calling) (sym logged.touches) (opened_held lines calling both.0 both.1)),
      );
    }

    -- what was found is of the problem's steps
    pub found_steps : All (HasSteps p) found
    found_steps = all_from_held (HasSteps p) found (λ calling held. (held_opened lines calling (subst (λ (l : List (List ℕ)). Contains l calling) logged.touches held)).1.wanted.steps)
