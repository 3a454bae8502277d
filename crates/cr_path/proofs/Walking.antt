-- What a numbered walk keeps, a step on and a step back.
use Rattle.std.proofs.Common.{◌≡◌, ℕ, zero, suc, ◌+◌, ◌-◌, ◌<◌, ◌≤◌, Bool, true, false, List, [], ◌∷◌, length, get_or, take, sym, ap, ◌∙◌, subst, inl, inr, refl, nat_eq, arith, All}
use Rattle.std.specs.Prelude.{replicate}
use Rattle.std.specs.List.{list_any}
use Rattle.std.proofs.lemmas.Bool.{cases_Bool, cases_eq}
use Rattle.std.proofs.lemmas.List.{length_push, get_or_push, length-replicate, get_or-replicate}
use Rattle.cr_model.specs.Problems.{ProblemParts}
use Rattle.cr_model.specs.Callings.{rows_of, head_of}
use Rattle.cr_model.specs.Decided.{rows_differ}
use Rattle.cr_model.specs.Levels.{is_listed}
use Rattle.cr_model.specs.Nodes.{IsValid}
use Rattle.cr_model.specs.Sizes.{child}
use Rattle.cr_model.specs.Sound.{IsSound}
use Rattle.cr_model.specs.Dead.{turn_free}
use Rattle.cr_leads.specs.Tables.{TableParts, lead_table}
use Rattle.cr_path.specs.declared.walks.node_counts.Counting.{Counting}
use Rattle.cr_path.specs.declared.walks.ends.LeadEnd.{LeadEnd}
use Rattle.cr_path.specs.declared.numbers.table.LeadRecord.{LeadRecord}
use Rattle.cr_path.specs.Counted.{IsCounted}
use Rattle.cr_path.specs.Ends.{EndsParts, IsEnd, AreEnds, HasEnds}
use Rattle.cr_path.specs.Marks.{MarksParts, AreSet, AreMarked, HasMarks}
use Rattle.cr_path.specs.Numbers.{NumberParts, lead_from, numbers_of, next_at, places_of, base_of, is_seen, comes_round, IsBase, IsRecord, IsNumbered}
use Rattle.cr_path.specs.Sets.{AreUncut}
use Rattle.cr_path.specs.Walks.{IsWalk, parent}
use mir.Val.{bool_byte}
use Rattle.cr_path.proofs.Chained.{base_more, next_is}
use Rattle.cr_path.proofs.Children.{child_head, child_length, part_few, few_leads, valid_first, last_step}
use Rattle.cr_path.proofs.Marking.{within_in, node_differs, none_unmarked, marked_more, marked_less, marked_same, marked_stays}
use Rattle.cr_path.proofs.Places.{record_at, root_base}
use Rattle.cr_path.proofs.ComingRound.{root_round}
use Rattle.cr_query.proofs.StepBits.{none_of_zero}
use Rattle.cr_path.proofs.Uncut.{none_left}

-- before any lead
abbrev pub root_end : LeadEnd
root_end = record { base = 0; rung = 0; left = 0; round = 1 }

root_ends : (p : ProblemParts) (t : NumberParts) → IsNumbered p t → (i : ℕ) (d : LeadEnd) → i ≤ 0 → IsEnd p t (take i []) (get_or (root_end ∷ []) i d)
root_ends p t numbered zero d within = record {
  from = root_base p t numbered;
  by_records = refl;
  long = refl;
  round = root_round p;
}
root_ends p t numbered (suc i) d within = absurd (omega (arith, within))

pub root_walk : (p : ProblemParts) (leads : TableParts) (t : NumberParts) (counting : Counting) (free : Bool) → IsSound p → leads ≡ lead_table p → IsNumbered p t
    → IsCounted p [] counting → free ≡ turn_free p.query → (next : ℕ) → next ≡ length p.leads → (ends : EndsParts) → ends.last ≡ root_end
    → IsWalk p leads t [] next ends (replicate t.rows false) 0 counting free
root_walk p leads t counting free sound table numbered counted free_is next all ends at_root = record {
  sound = sound;
  table = table;
  numbered = numbered;
  valid = record {
    steps = λ i d low. absurd (omega (arith, low));
    short = omega arith;
  };
  tried = omega (arith, all);
  ends = subst (λ (end : LeadEnd). AreEnds p t [] next (end ∷ [])) (sym at_root) (record {
    number = refl;
    each = root_ends p t numbered;
    tried = λ i d low. absurd (omega (arith, low));
    left = λ d. subst (λ n. AreUncut p [] n 0) (sym all) (none_left p [] 0 (none_of_zero 0 refl));
  });
  marked = record {
    within = omega arith;
    are = record {
      within = omega arith;
      counted = length-replicate t.rows false;
      of = λ number inside. get_or-replicate t.rows number false false inside;
      differ = refl;
      again = λ low. absurd (omega (arith, low));
    };
  };
  counted = counted;
  free = free_is;
}

-- a number that tells a bool
one_of : (b : Bool) → nat_eq (bool_byte b) 1 ≡ b
one_of true = refl
one_of false = refl

-- the end of one lead more
pub next_end : (p : ProblemParts) (t : NumberParts) (node : List ℕ) (step : ℕ) (end : LeadEnd) (lead : LeadRecord) (left round : ℕ) → IsEnd p t node end → IsRecord p t (head_of p node) step (end.base + step) lead
    → round ≡ bool_byte lead.round → end.base + step < length t.records → lead ≡ get_or t.records (end.base + step) lead
    → IsEnd p t (child node step) (record { base = lead.next; rung = end.rung + lead.length; left = left; round = round })
next_end p t node step end lead left round at_end known round_is inside is = record {
  from = subst (λ (row : List ℕ). IsBase t row lead.next) (sym (child_head p node step)) known.next;
  by_records = next_is t (end.base + step) lead lead inside is ∙ ap (λ b. next_at t (b + step)) at_end.by_records ∙ sym (base_more t 0 node step);
  long = omega (arith, at_end.long, known.long, child_length p node step);
  round = ap (λ n. nat_eq n 1) round_is ∙ one_of lead.round ∙ known.round ∙ ap (comes_round p) (sym (child_head p node step));
}

-- its length fits
pub end_few : (p : ProblemParts) (t : NumberParts) (node : List ℕ) (step : ℕ) (end : LeadEnd) (lead : LeadRecord) → IsEnd p t node end → IsRecord p t (head_of p node) step (end.base + step) lead → IsSound p → IsValid p (child node step)
    → end.rung + lead.length ≤ 12000
end_few p t node step end lead at_end known sound valid =
    omega (arith, at_end.long, known.long, child_length p node step, valid.short, part_few p sound)

-- the last step of a valid node
pub step_known : (p : ProblemParts) (node : List ℕ) (step : ℕ) → IsValid p (child node step) → step < length p.leads
step_known p node step valid =
    let at_end : get_or (child node step) (length node) 0 ≡ step = get_or_push node step 0 (length node) refl in
    subst (λ (s : ℕ). s < length p.leads) at_end (valid.steps (length node) 0 (omega (arith, length_push node step)))

module _ (p : ProblemParts) (leads : TableParts) (t : NumberParts) (node : List ℕ) (next : ℕ) (ends : EndsParts) (marks : List Bool) (unmarked : ℕ) (counting : Counting) (free : Bool) (is : IsWalk p leads t node next ends marks unmarked counting free) where
  -- the table knows a step
  pub step_tabled : (step : ℕ) → step < length p.leads → step < t.steps
  step_tabled step inside = omega (arith, is.numbered.counted, inside)

  -- it is that of a lead from an end
  pub from_end : (calling : List ℕ) (end : LeadEnd) (step place : ℕ) (lead d : LeadRecord) → IsEnd p t calling end → step < length p.leads → place ≡ end.base + step
      → lead ≡ get_or t.records place d → IsRecord p t (head_of p calling) step (end.base + step) lead
  from_end calling end step place lead d at_end inside place_is found =
      record_at t (head_of p calling) end.base at_end.from step p is.numbered inside lead d (found ∙ ap (λ (n : ℕ). get_or t.records n d) place_is)

  -- the last step
  pub last_known : (step index : ℕ) → 0 < length node → index ≡ length node - 1 → step ≡ get_or node index 0 → step < length p.leads
  last_known step index some last at_step = step_known p (parent node) step (subst (IsValid p) (last_step node step index some last at_step) is.valid)

  -- numbers of a lead have marks
  pub have_marks : (place : ℕ) (numbers : List ℕ) → numbers ≡ numbers_of t place → All (λ number. number < length marks) numbers
  have_marks place numbers are =
      subst (λ n. All (λ number. number < n) numbers) (sym is.marked.are.counted)
      (subst (λ list. All (λ number. number < t.rows) list) (sym are) (within_in p t is.numbered place))

  pub few_unmarked : unmarked ≤ 1024
  few_unmarked = omega (arith, is.marked.within, few_leads p node is.sound is.valid)

  -- the marks of a child, where it is known whether its rows differ
  pub marked_on : (step place : ℕ) (numbers : List ℕ) (is_new : Bool) (next : MarksParts) → place ≡ base_of t node + step → numbers ≡ numbers_of t place →
      is_new ≡ rows_differ (rows_of p (child node step)) → length next.marks ≡ length marks → (is_new ≡ true → AreSet true numbers marks next.marks × (next.unmarked ≡ unmarked))
      → (is_new ≡ false → next ≡ record { marks = marks; unmarked = unmarked + 1 }) → HasMarks p t (child node step) next.marks next.unmarked
  marked_on step place numbers is_new next here are new long added same =
      let more : length (child node step) ≡ length node + 1 = length_push node step in
      elim (cases_Bool is_new) [
        | inl fresh ↦
            let differ = sym new ∙ fresh in
            let none : unmarked ≡ 0 = none_unmarked p t node marks unmarked is.marked (node_differs p node step differ) in
            record {
              within = omega (arith, (added fresh).1, none);
              are = subst (AreMarked p t (child node step) next.marks) (omega (arith, more, none, (added fresh).1))
                  (marked_more p t node step place here numbers are marks next.marks (length node - unmarked) is.marked.are long differ (added fresh).0);
            }
        | inr twice ↦ subst (λ (m : MarksParts). HasMarks p t (child node step) m.marks m.unmarked) (sym (same twice)) (record {
          within = omega (arith, more, is.marked.within);
          are = subst (AreMarked p t (child node step) marks) (omega (arith, more)) (marked_same p t node step marks (length node - unmarked) is.marked.are (sym new ∙ twice));
        })
      ]

  -- and back from a child
  pub marked_back : (above : List ℕ) (step place : ℕ) (numbers : List ℕ) (next : MarksParts) → node ≡ child above step → place ≡ base_of t above + step →
      list_any (is_seen t (places_of t above)) (numbers_of t place) ≡ list_any (is_listed (rows_of p above)) (lead_from p (head_of p above) step) → numbers ≡ numbers_of t place →
      length next.marks ≡ length marks → (unmarked ≡ 0 → AreSet false numbers marks next.marks × (next.unmarked ≡ 0)) → (0 < unmarked → next ≡ record { marks = marks; unmarked = unmarked - 1 }) →
      HasMarks p t above next.marks next.unmarked
  marked_back above step place numbers next whole here told are long taken same =
      let before : HasMarks p t (child above step) marks unmarked = subst (λ word. HasMarks p t word marks unmarked) whole is.marked in
      let more : length (child above step) ≡ length above + 1 = length_push above step in
      elim (cases_eq unmarked 0) [
        | inl none ↦ record {
          within = omega (arith, (taken none).1);
          are = subst (AreMarked p t above next.marks) (omega (arith, (taken none).1))
              (marked_less p t above step place here numbers are marks next.marks (length (child above step) - unmarked) before.are long told (omega (arith, none)) (taken none).0);
        }
        | inr some ↦ subst (λ (m : MarksParts). HasMarks p t above m.marks m.unmarked) (sym (same (omega (arith, some)))) (record {
          within = omega (arith, before.within, more, some);
          are = subst (AreMarked p t above marks) (omega (arith, before.within, more, some))
              (marked_stays p t above step marks (length (child above step) - unmarked) before.are (λ all. absurd (omega (arith, all, before.within, some))));
        })
      ]

  -- a step on
  pub walked : (step next' : ℕ) (ends' : EndsParts) (marks' : List Bool) (unmarked' : ℕ) (counting' : Counting) → IsValid p (child node step) → next' ≤ length p.leads →
      HasEnds p t (child node step) next' ends' → HasMarks p t (child node step) marks' unmarked' → IsCounted p (child node step) counting' →
      IsWalk p leads t (child node step) next' ends' marks' unmarked' counting' free
  walked step next' ends' marks' unmarked' counting' valid tried at_ends marked counted = record {
    sound = is.sound;
    table = is.table;
    numbered = is.numbered;
    valid = valid;
    tried = tried;
    ends = at_ends;
    marked = marked;
    counted = counted;
    free = is.free;
  }

  -- at the same node
  pub stayed : (next' : ℕ) (ends' : EndsParts) → next' ≤ length p.leads → HasEnds p t node next' ends' → IsWalk p leads t node next' ends' marks unmarked counting free
  stayed next' ends' tried at_ends = record {
    sound = is.sound;
    table = is.table;
    numbered = is.numbered;
    valid = is.valid;
    tried = tried;
    ends = at_ends;
    marked = is.marked;
    counted = is.counted;
    free = is.free;
  }

  -- a step back
  pub returned : (next' : ℕ) (ends' : EndsParts) (marks' : List Bool) (unmarked' : ℕ) (counting' : Counting) → next' ≤ length p.leads →
      HasEnds p t (parent node) next' ends' → HasMarks p t (parent node) marks' unmarked' → IsCounted p (parent node) counting' →
      IsWalk p leads t (parent node) next' ends' marks' unmarked' counting' free
  returned next' ends' marks' unmarked' counting' tried at_ends marked counted = record {
    sound = is.sound;
    table = is.table;
    numbered = is.numbered;
    valid = valid_first p node (length node - 1) is.valid;
    tried = tried;
    ends = at_ends;
    marked = marked;
    counted = counted;
    free = is.free;
  }
