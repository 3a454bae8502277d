-- Leads that are rung, and how they grow by one.
use Rattle.std.proofs.Common.{◌≡◌, ℕ, ◌+◌, ◌-◌, ◌*◌, ◌<◌, ◌≤◌, not, nat_lt, List, [], ◌∷◌, ◌++◌, length, get_or, map, take, drop, inl, inr, sym, ap, ap₂, ◌∙◌, subst, arith, length-append}
use Rattle.std.specs.Prelude.{All}
use Rattle.std.proofs.lemmas.Bool.{cases_eq, cases_lt}
use Rattle.std.proofs.lemmas.Nat.{same_from_place, row_fits}
use Rattle.std.proofs.lemmas.List.{append-nil, length-map, get_or_append_left, get_or_push, drop-append-le, take-append-le, length-drop, drop_at, take_all}
use Rattle.std.proofs.lemmas.List.Elements.{All-take, All-drop, All-append, All-push, All-weaker, All-same}
use Rattle.cr_model.specs.Problems.{ProblemParts}
use Rattle.cr_model.specs.Callings.{lead_length}
use Rattle.cr_model.specs.Sizes.{child}
use Rattle.cr_rowset.specs.Stacks.{AllDiffer}
use Rattle.cr_path.specs.Numbers.{head_after, dies_after}
use Rattle.cr_path.specs.Rung.{RungParts, IsHeld, told_from, IsReached, IsRungLead, IsRung}
use Rattle.cr_path.specs.RungLeads.{IsKept, HasNumber, AreNumbered, IsBegun}
use Rattle.cr_path.specs.declared.numbers.rung_leads.RungLead.{RungLead}
use Rattle.cr_path.proofs.Children.{child_head}
use Rattle.cr_path.proofs.Places.{record_within}
use Rattle.cr_path.proofs.Grown.{kept_all, kept_by, heads_more, same_rows, all_kept}

-- the head after a lead is reached
pub reached_after : (p : ProblemParts) (head : List ℕ) (step : ℕ) → IsReached p head → step < length p.leads → IsReached p (head_after p head step)
reached_after p head step reached inside = record {
  calling = child reached.calling step;
  steps = All-push (λ s. s < length p.leads) reached.calling step reached.steps inside;
  is = ap (λ (h : List ℕ). head_after p h step) reached.is ∙ sym (child_head p reached.calling step);
}

-- a record stays one while heads, rows and numbers are added
pub record_kept : (p : ProblemParts) (told : List (List (List ℕ))) (old new : RungParts) (more head : List ℕ) (step : ℕ) (lead : RungLead) → IsKept old.heads new.heads
    → IsKept old.rows new.rows → new.numbers ≡ old.numbers ++ more → All (λ number. number < length old.rows) old.numbers
    → IsRungLead p told old head step lead → IsRungLead p told new head step lead
record_kept p told old new more head step lead heads rows numbers all is =
    let from : lead.start ≤ length old.numbers = omega (arith, is.held.0, is.held.1) in
    let to : lead.end - lead.start ≤ length (drop lead.start old.numbers) = omega (arith, is.held.0, is.held.1, length-drop lead.start old.numbers) in
    let mine : take (lead.end - lead.start) (drop lead.start new.numbers) ≡ take (lead.end - lead.start) (drop lead.start old.numbers) =
    ap (λ (ns : List ℕ). take (lead.end - lead.start) (drop lead.start ns)) numbers
    ∙ ap (take (lead.end - lead.start)) (drop-append-le lead.start old.numbers more from)
    ∙ take-append-le (lead.end - lead.start) (drop lead.start old.numbers) more to in
    record {
      next = omega (arith, is.next, heads.long);
      leads_to = heads.same lead.next is.next ∙ is.leads_to;
      limit = is.limit;
      long = is.long;
      held = (is.held.0, omega (arith, is.held.1, ap length numbers, length-append old.numbers more));
      are = ap (map (λ number. get_or new.rows number [])) mine
          ∙ same_rows old.rows new.rows (take (lead.end - lead.start) (drop lead.start old.numbers)) rows
          (All-take (λ n. n < length old.rows) (lead.end - lead.start) (drop lead.start old.numbers)
          (All-drop (λ n. n < length old.rows) lead.start old.numbers all))
          ∙ is.are;
    }

-- a lead that is rung from a head, its rows and the head after it with their numbers
pub record RingsLead (p : ProblemParts) (told : List (List (List ℕ))) (old new : RungParts) (head : List ℕ) (step : ℕ) (lead : RungLead) : Type 0 where
  pub steps : new.steps ≡ old.steps
  pub rows : AreNumbered old.rows old.numbers (told_from p told head step) new.rows new.numbers
  pub differ : AllDiffer new.rows
  pub next : HasNumber old.heads (head_after p head step) lead.next new.heads
  pub long : length (head_after p head step) ≡ p.stage
  pub reached : IsReached p (head_after p head step)
  pub start : lead.start ≡ length old.numbers
  pub end : lead.end ≡ length new.numbers
  pub limit : (rung : ℕ) → nat_lt rung lead.limit ≡ not (dies_after p head step rung)
  pub counted : lead.length ≡ lead_length p step
  pub some : 0 < length (told_from p told head step)
  pub records : new.records ≡ old.records ++ lead ∷ []

-- it has a row
some_more : (p : ProblemParts) (told : List (List (List ℕ))) (old new : RungParts) (head : List ℕ) (step : ℕ) (lead : RungLead) → (is : RingsLead p told old new head step lead) → 0 < length is.rows.more
some_more p told old new head step lead is =
    omega (arith, is.some, ap length is.rows.are, length-map is.rows.more (λ number. get_or new.rows number []))

-- it is a record
pub rung_record : (p : ProblemParts) (told : List (List (List ℕ))) (old new : RungParts) (head : List ℕ) (step : ℕ) (lead : RungLead) → RingsLead p told old new head step lead
    → IsRungLead p told new head step lead
rung_record p told old new head step lead is =
    let long : length new.numbers ≡ length old.numbers + length is.rows.more = ap length is.rows.joined ∙ length-append old.numbers is.rows.more in
    let mine : take (lead.end - lead.start) (drop lead.start new.numbers) ≡ is.rows.more =
    ap (λ (ns : List ℕ). take (lead.end - lead.start) (drop lead.start ns)) is.rows.joined
    ∙ ap (take (lead.end - lead.start)) (drop_at old.numbers is.rows.more lead.start (sym is.start))
    ∙ take_all (lead.end - lead.start) is.rows.more (omega (arith, is.start, is.end, long)) in
    record {
      next = is.next.stands.within;
      leads_to = is.next.stands.is;
      limit = is.limit;
      long = is.counted;
      held = (omega (arith, is.start, is.end, long, some_more p told old new head step lead is), omega (arith, is.end));
      are = ap (map (λ number. get_or new.rows number [])) mine ∙ is.rows.are;
    }

-- an earlier place is of a head that is there
pub row_inside : (other its place step heads steps : ℕ) → place < heads → step < steps → other * steps + its < place * steps + step → other < heads
row_inside other its place step heads steps place_in step_in earlier = elim (cases_lt other heads) [
  | inl inside ↦ inside
  | inr beyond ↦
      let whole : place * steps + steps ≤ other * steps = row_fits place steps other steps (omega arith) (omega arith) in
      absurd (omega (arith, whole, earlier, step_in))
]

-- with it the numbers have one record more
pub begun_more : (p : ProblemParts) (told : List (List (List ℕ))) (old new : RungParts) (place step done : ℕ) (lead : RungLead) → IsBegun p told old done
    → done ≡ place * old.steps + step → place < length old.heads → step < old.steps
    → RingsLead p told old new (get_or old.heads place []) step lead → IsBegun p told new (done + 1)
begun_more p told old new place step done lead begun at place_in step_in is =
    let heads : IsKept old.heads new.heads = kept_by old.heads new.heads (head_after p (get_or old.heads place []) step) lead.next is.next in
    let rows = is.rows.kept in
    let more : length old.numbers ≤ length new.numbers = omega (arith, ap length is.rows.joined, length-append old.numbers is.rows.more) in
    record {
      counted = is.steps ∙ begun.counted;
      heads = heads_more p old.heads new.heads (head_after p (get_or old.heads place []) step) lead.next begun.heads is.next is.long is.reached;
      some_row = omega (arith, begun.some_row, rows.long);
      first_row = rows.same 0 begun.some_row ∙ begun.first_row;
      differ = is.differ;
      within = All-same (λ n. n < length new.rows) new.numbers (old.numbers ++ is.rows.more) is.rows.joined
          (All-append (λ n. n < length new.rows) old.numbers is.rows.more (all_kept old.rows new.rows old.numbers rows begun.within) is.rows.within);
      recorded = ap length is.records ∙ length-append old.records (lead ∷ []) ∙ ap (λ n. n + 1) begun.recorded;
      held = All-same (IsHeld (length new.numbers)) new.records (old.records ++ lead ∷ []) is.records
          (All-push (IsHeld (length new.numbers)) old.records lead
          (All-weaker (IsHeld (length old.numbers)) (IsHeld (length new.numbers)) (λ other held. (held.0, omega (arith, held.1, more))) old.records begun.held)
          (omega (arith, is.start, is.end, ap length is.rows.joined, length-append old.numbers is.rows.more, some_more p told old new (get_or old.heads place []) step lead is), omega (arith, is.end)));
      each = λ other its d head_in its_in low.
          let known : its < old.steps = omega (arith, its_in, is.steps) in
          let index : other * new.steps + its ≡ other * old.steps + its = ap (λ n. other * n + its) is.steps in
          elim (cases_eq (other * old.steps + its) done) [
            | inl last ↦
                let same = same_from_place other its place step old.steps known step_in (last ∙ at) in
                let here : lead ≡ get_or new.records (other * new.steps + its) d =
                sym (ap₂ (λ (xs : List RungLead) (n : ℕ). get_or xs n d) is.records (index ∙ last)
                ∙ get_or_push old.records lead d done begun.recorded) in
                let from : get_or old.heads place [] ≡ get_or new.heads other [] =
                sym (heads.same place place_in) ∙ ap (λ n. get_or new.heads n []) (sym same.0) in
                subst (λ (r : RungLead). IsRungLead p told new (get_or new.heads other []) its r) here
                (subst (λ (h : List ℕ). IsRungLead p told new h its lead) from
                (subst (λ (s : ℕ). IsRungLead p told new (get_or old.heads place []) s lead) (sym same.1)
                (rung_record p told old new (get_or old.heads place []) step lead is)))
            | inr earlier ↦
                let below : other * old.steps + its < done = omega (arith, low, index, earlier) in
                let inside : other < length old.heads = row_inside other its place step (length old.heads) old.steps place_in step_in (omega (arith, below, at)) in
                let here : get_or old.records (other * old.steps + its) d ≡ get_or new.records (other * new.steps + its) d =
                sym (ap₂ (λ (xs : List RungLead) (n : ℕ). get_or xs n d) is.records index
                ∙ get_or_append_left old.records (lead ∷ []) d (other * old.steps + its) (omega (arith, below, begun.recorded))) in
                let from : get_or old.heads other [] ≡ get_or new.heads other [] = sym (heads.same other inside) in
                subst (λ (r : RungLead). IsRungLead p told new (get_or new.heads other []) its r) here
                (subst (λ (h : List ℕ). IsRungLead p told new h its (get_or old.records (other * old.steps + its) d)) from
                (record_kept p told old new is.rows.more (get_or old.heads other []) its (get_or old.records (other * old.steps + its) d) heads rows
                is.rows.joined begun.within (begun.each other its d inside known below)))
          ];
    }

-- the same records where there are more rows
pub begun_rows : (p : ProblemParts) (told : List (List (List ℕ))) (t : RungParts) (rows : List (List ℕ)) (done : ℕ) → IsBegun p told t done → IsKept t.rows rows → AllDiffer rows
    → IsBegun p told (record { steps = t.steps; heads = t.heads; rows = rows; records = t.records; numbers = t.numbers }) done
begun_rows p told t rows done begun kept differ = record {
  counted = begun.counted;
  heads = begun.heads;
  some_row = omega (arith, begun.some_row, kept.long);
  first_row = kept.same 0 begun.some_row ∙ begun.first_row;
  differ = differ;
  within = all_kept t.rows rows t.numbers kept begun.within;
  recorded = begun.recorded;
  held = begun.held;
  each = λ head step d head_in step_in low.
      record_kept p told t (record { steps = t.steps; heads = t.heads; rows = rows; records = t.records; numbers = t.numbers }) []
      (get_or t.heads head []) step (get_or t.records (head * t.steps + step) d) (kept_all t.heads) kept (sym (append-nil t.numbers)) begun.within
      (begun.each head step d head_in step_in low);
}

-- with a record of each lead they are rung from all heads
pub rung_whole : (p : ProblemParts) (told : List (List (List ℕ))) (t : RungParts) (done : ℕ) → IsBegun p told t done → done ≡ length t.heads * t.steps → IsRung p told t
rung_whole p told t done begun all = record {
  counted = begun.counted;
  some_head = begun.heads.some;
  first_head = begun.heads.first;
  staged = begun.heads.staged;
  reached = begun.heads.reached;
  some_row = begun.some_row;
  first_row = begun.first_row;
  differ = begun.differ;
  within = begun.within;
  recorded = begun.recorded ∙ all;
  held = begun.held;
  each = λ head step d head_in step_in. begun.each head step d head_in step_in
      (omega (arith, all, record_within head step (length t.heads) t.steps head_in step_in));
}
