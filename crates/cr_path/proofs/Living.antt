-- Which children of a node live.
use Rattle.std.proofs.Common.{◌≡◌, ◌⊎◌, ℕ, zero, suc, ◌+◌, ◌-◌, ◌*◌, ◌<◌, ◌≤◌, Bool, true, false, cond, not, ◌&&◌, ◌||◌, nat_lt, nat_le, List, [], ◌∷◌, ◌++◌, length, get_or, take, drop, find, Option, Some, None, is_none, refl, sym, ap, ap₂, ◌∙◌, subst, inl, inr, arith, length-append}
use Rattle.std.specs.List.{list_any, range_with_len}
use Rattle.std.proofs.lemmas.Bool.{and_parts, or_parts, or_left, or_right, not-true, not-false, false≢true, ltb-false, cases_lt}
use Rattle.std.proofs.lemmas.Bool.Decides.{nat_tests}
use Rattle.std.proofs.lemmas.List.{length_push}
use Rattle.std.proofs.lemmas.List.Elements.{All-push}
use Rattle.std.proofs.Math.Seq.{take-append-add, drop-append-add, drop-append_seam}
use Rattle.cr_row.specs.Rows.{rounds}
use Rattle.cr_model.specs.declared.reason.Reason.{Reason}
use Rattle.cr_model.specs.declared.reason.Reason.TheVariants as reason
use Rattle.cr_model.specs.Problems.{ProblemParts}
use Rattle.cr_model.specs.Callings.{shortest, lead_length, rows_of, length_of, head_of}
use Rattle.cr_model.specs.Dead.{parts_of, has_rounds, is_long, is_self_false, is_again, is_round, is_far, is_too_many, is_too_few, is_turned_back, dead}
use Rattle.cr_model.specs.Decided.{rows_differ}
use Rattle.cr_model.specs.Levels.{at_least, is_listed}
use Rattle.cr_model.specs.Nodes.{IsValid}
use Rattle.cr_model.specs.Queries.{cap, part_cap}
use Rattle.cr_model.specs.Sizes.{most_rows, child}
use Rattle.cr_model.specs.Sound.{IsSound}
use Rattle.cr_query.specs.Meters.{is_hopeless_by_leads}
use Rattle.cr_path.specs.declared.numbers.table.LeadRecord.{LeadRecord}
use Rattle.cr_path.specs.declared.walks.ends.LeadEnd.{LeadEnd}
use Rattle.cr_path.specs.Ends.{IsEnd}
use Rattle.cr_path.specs.Living.{is_clean, is_cut, is_hopeless, is_live, AreCut}
use Rattle.cr_path.specs.Marks.{some_marked, AreMarked, IsLead}
use Rattle.cr_path.specs.Numbers.{NumberParts, lead_from, head_after, brings_round, dies_after, numbers_of, IsNumbered, places_of, is_seen}
use Rattle.cr_path.proofs.Children.{child_rows, child_head, child_length, lead_long, some_changes, few_leads}
use Rattle.cr_path.proofs.Listed.{differ_joined, listed_joined}
use Rattle.cr_path.proofs.Marking.{lead_differs, marked_told, all_fresh, marks_of}

-- rounds in joined rows, where the first ones have none
module _ (p : ProblemParts) (rows more : List (List ℕ)) (some : 0 < length more) where
  cut_at : length (rows ++ more) - 1 ≡ length rows + (length more - 1)
  cut_at = omega (arith, length-append rows more)

  joined_round : brings_round p (rows ++ more) ≡ ((has_rounds p rows || has_rounds p (take (length more - 1) more)) || (has_rounds p (drop (length more - 1) more) && nat_lt 1 (parts_of p)))
  joined_round =
      ap₂ (λ a b. a || (b && nat_lt 1 (parts_of p)))
      (ap (λ n. has_rounds p (take n (rows ++ more))) cut_at ∙ ap (has_rounds p) (take-append-add rows more (length more - 1)) ∙ listed_joined rows (take (length more - 1) more) (rounds p.stage))
      (ap (λ n. has_rounds p (drop n (rows ++ more))) cut_at ∙ ap (has_rounds p) (drop-append-add rows more (length more - 1)))

  pub round_behind : has_rounds p rows ≡ false → brings_round p (rows ++ more) ≡ brings_round p more
  round_behind none = joined_round ∙ ap (λ b. (b || has_rounds p (take (length more - 1) more)) || (has_rounds p (drop (length more - 1) more) && nat_lt 1 (parts_of p))) none

  pub round_in_front : has_rounds p rows ≡ true → brings_round p (rows ++ more) ≡ true
  round_in_front here = joined_round ∙ ap (λ b. (b || has_rounds p (take (length more - 1) more)) || (has_rounds p (drop (length more - 1) more) && nat_lt 1 (parts_of p))) here

-- the reasons of a child
module _ (p : ProblemParts) (node : List ℕ) (step : ℕ) where
  long_child : is_long p (child node step) ≡ nat_lt (part_cap p) (length_of p node + lead_length p step)
  long_child = ap (nat_lt (part_cap p)) (child_length p node step)

  self_false_child : is_self_false p (child node step) ≡ not (rows_differ (rows_of p (step ∷ [])))
  self_false_child =
      let last : length (child node step) - 1 ≡ length node = omega (arith, length-append node (step ∷ [])) in
      ap (λ n. not (rows_differ (rows_of p (drop n (child node step))))) last ∙ ap (λ word. not (rows_differ (rows_of p word))) (drop-append_seam node (step ∷ []))

  far_child : (most : ℕ) → is_far p most (child node step) ≡ nat_lt (cap p) (length_of p node + lead_length p step + shortest p * at_least p most (head_after p (head_of p node) step))
  far_child most = ap₂ (λ n row. nat_lt (cap p) (n + shortest p * at_least p most row)) (child_length p node step) (child_head p node step)

  lead_rows : List (List ℕ)
  lead_rows = lead_from p (head_of p node) step

  -- a lead that has no row twice
  true_lead : rows_differ (rows_of p (step ∷ [])) ≡ true → rows_differ (lead_from p (head_of p node) step) ≡ true
  true_lead differ = lead_differs p node step ∙ differ

  again_child : rows_differ (rows_of p node) ≡ true → rows_differ (rows_of p (step ∷ [])) ≡ true → is_again p (child node step) ≡ list_any (is_listed (rows_of p node)) (lead_from p (head_of p node) step)
  again_child clean differ =
      let again = list_any (is_listed (rows_of p node)) (lead_from p (head_of p node) step) in
      ap (λ rows. not (rows_differ rows)) (child_rows p node step)
      ∙ ap not (differ_joined (rows_of p node) (lead_from p (head_of p node) step))
      ∙ ap₂ (λ a b. not (a && (b && not again))) clean (true_lead differ)
      ∙ twice again
    where
      twice : (b : Bool) → not (not b) ≡ b
      twice true = refl
      twice false = refl

  -- it has some rows more
  some_rows : IsSound p → step < length p.leads → 0 < length (lead_from p (head_of p node) step)
  some_rows sound inside = omega (arith, lead_long p (head_of p node) step, some_changes p step sound inside)

  round_child : IsSound p → step < length p.leads → has_rounds p (rows_of p node) ≡ false → is_round p (child node step) ≡ brings_round p (lead_from p (head_of p node) step)
  round_child sound inside none =
      ap (brings_round p) (child_rows p node step) ∙ round_behind p (rows_of p node) (lead_from p (head_of p node) step) (some_rows sound inside) none

  -- the children of a node that is not clean
  again_below : rows_differ (rows_of p node) ≡ false → is_again p (child node step) ≡ true
  again_below twice = ap (λ rows. not (rows_differ rows)) (child_rows p node step) ∙ ap not (differ_joined (rows_of p node) (lead_from p (head_of p node) step) ∙ ap (λ b. b && (rows_differ (lead_from p (head_of p node) step) && not (list_any (is_listed (rows_of p node)) (lead_from p (head_of p node) step)))) twice)

  round_below : IsSound p → step < length p.leads → has_rounds p (rows_of p node) ≡ true → is_round p (child node step) ≡ true
  round_below sound inside here =
      ap (brings_round p) (child_rows p node step) ∙ round_in_front p (rows_of p node) (lead_from p (head_of p node) step) (some_rows sound inside) here

  pub cut_below : (most : ℕ) → IsSound p → step < length p.leads → is_clean p node ≡ false → is_cut p most (child node step) ≡ true
  cut_below most sound inside unclean = by (rows_differ (rows_of p node)) refl (has_rounds p (rows_of p node)) refl unclean
    where
      fourth : (a b c d e : Bool) → d ≡ true → (a || (b || (c || (d || e)))) ≡ true
      fourth a b c d e holds = or_right a (b || (c || (d || e))) (or_right b (c || (d || e)) (or_right c (d || e) (or_left d e holds)))

      third : (a b c e : Bool) → c ≡ true → (a || (b || (c || e))) ≡ true
      third a b c e holds = or_right a (b || (c || e)) (or_right b (c || e) (or_left c e holds))

      by : (d : Bool) → rows_differ (rows_of p node) ≡ d → (h : Bool) → has_rounds p (rows_of p node) ≡ h → (d && not h) ≡ false → is_cut p most (child node step) ≡ true
      by false twice h is none = third (is_long p (child node step)) (is_self_false p (child node step)) (is_again p (child node step)) _ (again_below twice)
      by true differ true here none = fourth (is_long p (child node step)) (is_self_false p (child node step)) (is_again p (child node step)) (is_round p (child node step)) _ (round_below sound inside here)
      by true differ false here none = absurd (false≢true (sym none))

-- the reasons that a record and marks tell, and the others
regrouped : (l d a h f k r : Bool) → (d ≡ true → a ≡ k) → (l || (not d || (a || (h || (f || r))))) ≡ ((l || (not d || (h || f))) || (k || r))
regrouped true d a h f k r same = refl
regrouped false false a h f k r same = refl
regrouped false true a h f k r same = ap (λ b. b || (h || (f || r))) (same refl) ∙ by k h f r
  where
    by : (k h f r : Bool) → (k || (h || (f || r))) ≡ ((h || f) || (k || r))
    by true true f r = refl
    by true false true r = refl
    by true false false r = refl
    by false true f r = refl
    by false false true r = refl
    by false false false r = refl

-- a child of a clean node is cut by what its record, the marks, the period and the meter tell
module _ (p : ProblemParts) (t : NumberParts) (node : List ℕ) (step place : ℕ) (lead : LeadRecord) (marks : List Bool) (fresh : ℕ) (end : LeadEnd) (numbered : IsNumbered p t) (sound : IsSound p) (clean : is_clean p node ≡ true)
    (inside : step < length p.leads) (found : IsLead p t node step place lead) (are : AreMarked p t node marks fresh) (at_end : IsEnd p t node end) (numbers : List ℕ) (is : numbers ≡ numbers_of t place) where
  cut_told : (not (nat_lt end.rung lead.limit) || (some_marked marks numbers || (is_turned_back p (child node step) || is_hopeless_by_leads p (child node step)))) ≡ is_cut p most_rows (child node step)
  cut_told =
      let head = head_of p node in
      let rows = lead_from p head step in
      let rest = is_turned_back p (child node step) || is_hopeless_by_leads p (child node step) in
      let again = list_any (is_listed (rows_of p node)) rows in
      let (differ, apart) = and_parts (rows_differ (rows_of p node)) (not (has_rounds p (rows_of p node))) clean in
      let none : has_rounds p (rows_of p node) ≡ false = not-true (has_rounds p (rows_of p node)) apart in
      let limit : not (nat_lt end.rung lead.limit) ≡ dies_after p head step (length_of p node) =
      ap not (found.known.limit end.rung) ∙ twice (dies_after p head step end.rung) ∙ ap (dies_after p head step) at_end.long in
      ap₂ (λ a b. a || (b || rest)) limit (marked_told p t numbered node marks fresh are differ step place found.told numbers is)
      ∙ sym (regrouped (nat_lt (part_cap p) (length_of p node + lead_length p step)) (rows_differ (rows_of p (step ∷ []))) (is_again p (child node step)) (brings_round p rows)
      (nat_lt (cap p) (length_of p node + lead_length p step + shortest p * at_least p most_rows (head_after p head step))) again rest
      (λ holds. again_child p node step differ holds))
      ∙ (λ i. sym (long_child p node step) i || (sym (self_false_child p node step) i || (is_again p (child node step) || (sym (round_child p node step sound inside none) i || (sym (far_child p node step most_rows) i || rest)))))
    where
      twice : (b : Bool) → not (not b) ≡ b
      twice true = refl
      twice false = refl

  module _ (late marked : Bool) (late_is : late ≡ nat_le lead.limit end.rung) (marked_is : marked ≡ some_marked marks numbers) (straight : is_turned_back p (child node step) ≡ false) where
    cut_by_all : ((late || marked) || is_hopeless_by_leads p (child node step)) ≡ is_cut p most_rows (child node step)
    cut_by_all =
        joined late marked (is_hopeless_by_leads p (child node step))
        ∙ (λ i. (late_is ∙ not_less lead.limit end.rung) i || (marked_is i || (sym straight i || is_hopeless_by_leads p (child node step))))
        ∙ cut_told
      where
        joined : (a b c : Bool) → ((a || b) || c) ≡ (a || (b || (false || c)))
        joined true b c = refl
        joined false true c = refl
        joined false false c = refl

        not_less : (a b : ℕ) → nat_le a b ≡ not (nat_lt b a)
        not_less a b = grind (arith, nat_tests)

    pub child_told : (hopeless : Bool) → hopeless ≡ is_hopeless_by_leads p (child node step) → ((late || marked) || hopeless) ≡ is_cut p most_rows (child node step)
    child_told hopeless by_leads = ap (λ b. (late || marked) || b) by_leads ∙ cut_by_all

-- a node that turns back is cut
pub turned_cut : (p : ProblemParts) (most : ℕ) (node : List ℕ) → is_turned_back p node ≡ true → is_cut p most node ≡ true
turned_cut p most node turned =
    sixth (is_long p node) (is_self_false p node) (is_again p node) (is_round p node) (is_far p most node) (is_turned_back p node) (is_hopeless_by_leads p node) turned
  where
    sixth : (a b c d e f g : Bool) → f ≡ true → (a || (b || (c || (d || (e || (f || g)))))) ≡ true
    sixth true b c d e f g holds = refl
    sixth false true c d e f g holds = refl
    sixth false false true d e f g holds = refl
    sixth false false false true e f g holds = refl
    sixth false false false false true f g holds = refl
    sixth false false false false false f g holds = or_left f g holds

-- the first reason, told by the test of each
abbrev first_of : Bool → Bool → Bool → Bool → Bool → Bool → Bool → Bool → Option Reason
first_of long self_false again round far many few turned =
    cond long (Some reason.Long) (cond self_false (Some reason.SelfFalse) (cond again (Some reason.Again) (cond round (Some reason.Home)
    (cond far (Some reason.Far) (cond many (Some reason.TooMany) (cond few (Some reason.TooFew) (cond turned (Some reason.TurnsBack) None)))))))

none_first : (long self_false again round far many few turned leads : Bool) → (leads ≡ true → (many || few) ≡ true) →
    is_none (first_of long self_false again round far many few turned) ≡ not ((long || (self_false || (again || (round || (far || (turned || leads)))))) || (many || few))
none_first true s a h f m w t l hopeless = refl
none_first false true a h f m w t l hopeless = refl
none_first false false true h f m w t l hopeless = refl
none_first false false false true f m w t l hopeless = refl
none_first false false false false true m w t l hopeless = refl
none_first false false false false false true w true l hopeless = refl
none_first false false false false false true w false true hopeless = refl
none_first false false false false false true w false false hopeless = refl
none_first false false false false false false true true l hopeless = refl
none_first false false false false false false true false true hopeless = refl
none_first false false false false false false true false false hopeless = refl
none_first false false false false false false false true l hopeless = refl
none_first false false false false false false false false true hopeless = absurd (false≢true (hopeless refl))
none_first false false false false false false false false false hopeless = refl

-- what is hopeless by its leads is hopeless, as the meter's crate proves it
abbrev pub HopelessByLeads : Type 0
HopelessByLeads = (p : ProblemParts) (node : List ℕ) → is_hopeless_by_leads p node ≡ true → (is_too_many p node ≡ true) ⊎ (is_too_few p node ≡ true)

one_of : (many few : Bool) → (many ≡ true) ⊎ (few ≡ true) → (many || few) ≡ true
one_of many few (inl h) = or_left many few h
one_of many few (inr h) = or_right many few h

-- a node lives where it is not cut and not hopeless
lives_where : HopelessByLeads → (p : ProblemParts) (most : ℕ) (node : List ℕ) → is_none (dead p most node) ≡ not (is_cut p most node || is_hopeless p node)
unfolding dead
lives_where law p most node =
    none_first (is_long p node) (is_self_false p node) (is_again p node) (is_round p node) (is_far p most node) (is_too_many p node) (is_too_few p node) (is_turned_back p node) (is_hopeless_by_leads p node) (λ leads. one_of (is_too_many p node) (is_too_few p node) (law p node leads))

pub cut_dies : HopelessByLeads → (p : ProblemParts) (most : ℕ) (node : List ℕ) → is_cut p most node ≡ true → is_none (dead p most node) ≡ false
cut_dies law p most node cut = lives_where law p most node ∙ ap (λ b. not (b || is_hopeless p node)) cut

pub uncut_lives : HopelessByLeads → (p : ProblemParts) (most : ℕ) (node : List ℕ) → is_cut p most node ≡ false → is_none (dead p most node) ≡ not (is_hopeless p node)
uncut_lives law p most node uncut = lives_where law p most node ∙ ap (λ b. not (b || is_hopeless p node)) uncut

-- the first number of a range that passes
module _ (test : ℕ → Bool) where
  pub find_none : (a n : ℕ) → ((i : ℕ) → a ≤ i → i < a + n → test i ≡ false) → find test (range_with_len a n) ≡ None
  find_none a zero none = refl
  find_none a (suc n) none =
      ap (λ b. cond b (Some a) (find test (range_with_len (a + 1) n))) (none a (omega arith) (omega arith))
      ∙ find_none (a + 1) n (λ i low high. none i (omega (arith, low)) (omega (arith, high)))

  pub find_past : (k a end : ℕ) → a + k ≤ end → ((i : ℕ) → a ≤ i → i < a + k → test i ≡ false) → find test (range_with_len a (end - a)) ≡ find test (range_with_len (a + k) (end - (a + k)))
  find_past zero a end within none =
      let same : a + 0 ≡ a = omega arith in
      ap (λ b. find test (range_with_len b (end - b))) (sym same)
  find_past (suc k) a end within none =
      let more : end - a ≡ suc (end - (a + 1)) = omega (arith, within) in
      let same : a + 1 + k ≡ a + suc k = omega arith in
      ap (λ n. find test (range_with_len a n)) more
      ∙ ap (λ b. cond b (Some a) (find test (range_with_len (a + 1) (end - (a + 1))))) (none a (omega arith) (omega arith))
      ∙ find_past k (a + 1) end (omega (arith, within)) (λ i low high. none i (omega (arith, low)) (omega (arith, high)))
      ∙ ap (λ b. find test (range_with_len b (end - b))) same

  pub find_here : (a end : ℕ) → a < end → test a ≡ true → find test (range_with_len a (end - a)) ≡ Some a
  find_here a end inside holds =
      let more : end - a ≡ suc (end - (a + 1)) = omega (arith, inside) in
      ap (λ n. find test (range_with_len a n)) more ∙ ap (λ b. cond b (Some a) (find test (range_with_len (a + 1) (end - (a + 1))))) holds

-- whether a node is clean, told by the marks
pub clean_told : (p : ProblemParts) (t : NumberParts) (node : List ℕ) (marks : List Bool) (fresh : ℕ) → IsNumbered p t → AreMarked p t node marks fresh → rows_differ (rows_of p node) ≡ true
    → is_seen t (places_of t node) 0 ≡ has_rounds p (rows_of p node) → (first : Bool) → first ≡ get_or marks 0 false → not first ≡ is_clean p node
clean_told p t node marks fresh numbered are differ told first is =
    let tells : get_or marks 0 false ≡ has_rounds p (rows_of p node) =
    marks_of p t node marks fresh are (all_fresh p t node marks fresh are differ) 0 numbered.some_row ∙ told in
    ap not (is ∙ tells) ∙ ap (λ b. b && not (has_rounds p (rows_of p node))) (sym differ)

-- one step more by which the child is cut
pub one_cut_more : (p : ProblemParts) (most : ℕ) (node : List ℕ) (from end : ℕ) → AreCut p most node from end → is_cut p most (child node end) ≡ true → AreCut p most node from (end + 1)
one_cut_more p most node from end cut here step low high = elim (cases_lt step end) [
  | inl before ↦ cut step low before
  | inr last ↦
      let same : end ≡ step = omega (arith, last, high) in
      subst (λ s. is_cut p most (child node s) ≡ true) same here
]

-- what is known of a child that is not cut
module _ (p : ProblemParts) (most : ℕ) (node : List ℕ) (step : ℕ) (uncut : is_cut p most (child node step) ≡ false) where
  uncut_parts : (is_long p (child node step) ≡ false) × (is_again p (child node step) ≡ false) × (is_hopeless_by_leads p (child node step) ≡ false)
  uncut_parts =
      let by_query = is_turned_back p (child node step) || is_hopeless_by_leads p (child node step) in
      let (long, rest) = or_parts (is_long p (child node step)) (is_self_false p (child node step) || (is_again p (child node step) || (is_round p (child node step) || (is_far p most (child node step) || by_query)))) uncut in
      let (self_false, second) = or_parts (is_self_false p (child node step)) (is_again p (child node step) || (is_round p (child node step) || (is_far p most (child node step) || by_query))) rest in
      let (again, third) = or_parts (is_again p (child node step)) (is_round p (child node step) || (is_far p most (child node step) || by_query)) second in
      let (round, fourth) = or_parts (is_round p (child node step)) (is_far p most (child node step) || by_query) third in
      let (far, fifth) = or_parts (is_far p most (child node step)) by_query fourth in
      let (turned, hopeless) = or_parts (is_turned_back p (child node step)) (is_hopeless_by_leads p (child node step)) fifth in
      (long, again, hopeless)

  pub uncut_differs : true ≡ rows_differ (rows_of p (child node step))
  uncut_differs = sym (not-false (rows_differ (rows_of p (child node step))) uncut_parts.1)

  pub uncut_hopes : is_hopeless_by_leads p (child node step) ≡ false
  uncut_hopes = uncut_parts.2

  pub uncut_valid : IsValid p node → step < length p.leads → IsValid p (child node step)
  uncut_valid valid inside = record {
    steps = All-push (λ (s : ℕ). s < length p.leads) node step valid.steps inside;
    short = ltb-false (part_cap p) (length_of p (child node step)) uncut_parts.0;
  }

  pub uncut_few : IsSound p → IsValid p node → step < length p.leads → length node < 1024
  uncut_few sound valid inside = omega (arith, few_leads p (child node step) sound (uncut_valid valid inside), length_push node step)

-- the children by the steps from one up to another are dead
abbrev pub AreDead : ProblemParts → List ℕ → ℕ → ℕ → Type 0
AreDead p node from end = (step : ℕ) → from ≤ step → step < end → is_live p most_rows node step ≡ false

module _ (law : HopelessByLeads) (p : ProblemParts) (node : List ℕ) where
  -- those that are dead, and those that are cut after them
  pub dead_on : (from next end : ℕ) → AreDead p node from next → AreCut p most_rows node next end → AreDead p node from end
  dead_on from next end dead cut step low high = elim (cases_lt step next) [
    | inl before ↦ dead step low before
    | inr behind ↦ cut_dies law p most_rows (child node step) (cut step behind high)
  ]

  pub one_dead_more : (from end : ℕ) → AreDead p node from end → is_live p most_rows node end ≡ false → AreDead p node from (end + 1)
  one_dead_more from end dead here step low high = elim (cases_lt step end) [
    | inl before ↦ dead step low before
    | inr last ↦
        let same : end ≡ step = omega (arith, last, high) in
        subst (λ s. is_live p most_rows node s ≡ false) same here
  ]

-- the first step by which a child lives
module _ (p : ProblemParts) (node : List ℕ) (from : ℕ) where
  pub first_live : (step : ℕ) → from ≤ step → step < length p.leads → AreDead p node from step → is_live p most_rows node step ≡ true
      → Some step ≡ find (is_live p most_rows node) (range_with_len from (length p.leads - from))
  first_live step low inside dead lives =
      let same : from + (step - from) ≡ step = omega (arith, low) in
      sym (find_past (is_live p most_rows node) (step - from) from (length p.leads) (omega (arith, same, inside)) (λ i one two. dead i one (omega (arith, two, same)))
      ∙ ap (λ at_step. find (is_live p most_rows node) (range_with_len at_step (length p.leads - at_step))) same
      ∙ find_here (is_live p most_rows node) step (length p.leads) inside lives)

  pub none_live : from ≤ length p.leads → AreDead p node from (length p.leads) → None ≡ find (is_live p most_rows node) (range_with_len from (length p.leads - from))
  none_live within dead =
      let same : from + (length p.leads - from) ≡ length p.leads = omega (arith, within) in
      sym (find_none (is_live p most_rows node) from (length p.leads - from) (λ i one two. dead i one (omega (arith, two, same))))
