-- What is held of a node's first leads, a lead more and a lead less.
use Rattle.std.proofs.Common.{◌≡◌, ℕ, ◌+◌, ◌-◌, ◌<◌, ◌≤◌, Option, Some, None, refl, List, [], ◌∷◌, ◌++◌, length, take, sym, ap, ◌∙◌, subst, arith, length-append}
use Rattle.std.specs.Prelude.{IfSome, IsNone}
use Rattle.std.proofs.lemmas.List.{take-take, take_all, length-take-le}
use Rattle.cr_row.specs.Rows.{Places}
use Rattle.cr_model.specs.Problems.{ProblemParts}
use Rattle.cr_model.specs.Callings.{changes_of, rows_from, last_of, rows_of, length_of, head_of, AllDiffer}
use Rattle.cr_model.specs.Queries.{part_cap}
use Rattle.cr_model.specs.Sizes.{child}
use Rattle.cr_rowset.specs.Stacks.{StackParts}
use Rattle.cr_prune.specs.Heads.{HeadsParts, heads_from}
use Rattle.cr_prune.specs.Ends.{end_of}
use Rattle.cr_prune.specs.Holding.{IsHeld, AreFirst, IsOf, CanRing, Rings, HasMore}
use Rattle.cr_prune.specs.Rung.{room_of}
use Rattle.cr_prune.specs.Walks.{parent}
use Rattle.cr_prune.specs.declared.ends.LeadEnd.{LeadEnd}
use Rattle.cr_prune.specs.declared.held.Held.{Held}
use Rattle.cr_prune.specs.declared.held.Held.TheVariants.{Rows, Heads}
use Rattle.cr_prune.proofs.Leads.{child_rows, child_before, first_rows, first_fewer, rows_counted, fresh_more, fresh_again, fresh_below, fresh_less, fresh_stays, same_lead, same_last, child_head}

-- what is held is of the problem
pub of_problem : (p : ProblemParts) (leads : List ℕ) (held : Held) → IsHeld p leads held → IsOf p held
of_problem p leads (Rows stack) is = tt
of_problem p leads (Heads heads) is = ap (λ (h : HeadsParts). h.problem) is

module _ (p : ProblemParts) (node : List ℕ) (held : Held) (fresh : ℕ) (first : AreFirst p node held fresh) where
  -- where all leads are fresh, the node is held
  pub held_whole : fresh ≡ length node → IsHeld p node held
  held_whole all = subst (λ (leads : List ℕ). IsHeld p leads held) (take_all fresh node (omega (arith, all))) first.are_held

  -- a lead more: one that brings no row again, one that does, and one below that
  pub more : (step : ℕ) (held' : Held) (fresher : ℕ) → fresher ≡ length node + 1 → AllDiffer (rows_of p (child node step)) → IsHeld p (child node step) held' →
      AreFirst p (child node step) held' fresher
  more step held' fresher up differ is =
      let are = fresh_more p node step fresh fresher first.are_fresh up differ in
      record { are_fresh = are; are_held = subst (λ (leads : List ℕ). IsHeld p leads held') (sym (take_all fresher (child node step) (omega (arith, up, length-child node step)))) is }
    where
      length-child : (calling : List ℕ) (s : ℕ) → length (child calling s) ≡ length calling + 1
      length-child calling s = length-append calling (s ∷ [])

  pub again : (step : ℕ) → fresh ≡ length node → (AllDiffer (rows_of p (child node step)) → ⊥) → AreFirst p (child node step) held fresh
  again step all none = record {
    are_fresh = fresh_again p node step fresh first.are_fresh all none;
    are_held = subst (λ (leads : List ℕ). IsHeld p leads held) (sym (child_before node step fresh first.are_fresh.within)) first.are_held;
  }

  pub below : (step : ℕ) → (fresh ≡ length node → ⊥) → AreFirst p (child node step) held fresh
  below step some = record {
    are_fresh = fresh_below p node step fresh first.are_fresh some;
    are_held = subst (λ (leads : List ℕ). IsHeld p leads held) (sym (child_before node step fresh first.are_fresh.within)) first.are_held;
  }

  -- a lead less: one that is held, and one that is not
  pub less : (left : ℕ) (held' : Held) → fresh ≡ length node → left ≡ length node - 1 → IsHeld p (take left node) held' → AreFirst p (take left node) held' left
  less left held' all down is = record {
    are_fresh = fresh_less p node fresh left first.are_fresh all down;
    are_held = subst (λ (leads : List ℕ). IsHeld p leads held') (sym (take_all left (take left node) (omega (arith, length-take-le left node (omega (arith, down)))))) is;
  }

  pub stays : (left : ℕ) → (fresh ≡ length node → ⊥) → left ≡ length node - 1 → AreFirst p (take left node) held fresh
  stays left some down = record {
    are_fresh = fresh_stays p node fresh left first.are_fresh some down;
    are_held = subst (λ (leads : List ℕ). IsHeld p leads held)
        (sym (take-take fresh left node (omega (arith, down, some, first.are_fresh.within)))) first.are_held;
  }

-- no lead
pub none : (p : ProblemParts) (held : Held) (fresh : ℕ) → fresh ≡ 0 → IsHeld p [] held → AreFirst p [] held fresh
none p held fresh zero_is is =
    let cut : take fresh [] ≡ [] = ap (λ (n : ℕ). take {A = ℕ} n []) zero_is in
    record {
      are_fresh = record {
        within = omega (arith, zero_is);
        differ = subst (λ (leads : List ℕ). AllDiffer (rows_of p leads)) (sym cut) (λ i j low inside. absurd (omega arith));
        again = λ low. absurd (omega arith);
      };
      are_held = subst (λ (leads : List ℕ). IsHeld p leads held) (sym cut) is;
    }

-- the rows of leads and one more
module _ (p : ProblemParts) (leads : List ℕ) (step : ℕ) (from : List ℕ) (changes : List Places) (old : StackParts) (was : old ≡ record { rows = rows_of p leads; room = room_of p })
    (head : from ≡ head_of p leads) (lead : changes ≡ changes_of p step) where
  same_rows : old.rows ++ rows_from from changes ≡ rows_of p (child leads step)
  same_rows =
      ap (λ (s : StackParts). s.rows ++ rows_from from changes) was
      ∙ ap (λ (rows : List (List ℕ)). rows_of p leads ++ rows) (same_lead from (head_of p leads) changes (changes_of p step) head lead) ∙ sym (child_rows p leads step)

  pub rings_rows : (new : StackParts) (result : Option (List ℕ)) →
      IfSome result (λ last. (last ≡ last_of from (rows_from from changes)) × (new ≡ record { rows = old.rows ++ rows_from from changes; room = old.room })) →
      IfSome result (λ _. AllDiffer new.rows) →
      (IsNone result → (new ≡ old) × (AllDiffer (old.rows ++ rows_from from changes) → ⊥)) → Rings p leads step (Rows old) result (Rows new)
  rings_rows new (Some last) some differ none =
      let grown : new ≡ record { rows = rows_of p (child leads step); room = room_of p } =
      some.1 ∙ ap (λ (s : StackParts). record { rows = old.rows ++ rows_from from changes; room = s.room }) was
      ∙ ap (λ (rows : List (List ℕ)). record { rows = rows; room = room_of p }) same_rows in (
        some.0 ∙ same_last from (head_of p leads) changes (changes_of p step) head lead ∙ sym (child_head p leads step),
        grown,
        λ _. subst (λ (s : StackParts). AllDiffer s.rows) grown differ,
      )
  rings_rows new None some differ none = (ap Rows (none refl).0, λ all. (none refl).1 (subst AllDiffer (sym same_rows) all))

-- heads and one more
pub rings_heads : (p : ProblemParts) (leads : List ℕ) (step : ℕ) (old new : HeadsParts) (result : Option (List ℕ)) → old ≡ heads_from p leads →
    IfSome result (λ last. last ≡ head_of old.problem (child old.leads step)) → IfSome result (λ _. new ≡ heads_from old.problem (child old.leads step)) →
    IfSome result (λ _. AllDiffer (rows_of old.problem old.leads) → AllDiffer (rows_of old.problem (child old.leads step))) →
    (IsNone result → new ≡ old) → (IsNone result → AllDiffer (rows_of old.problem (child old.leads step)) → ⊥) → Rings p leads step (Heads old) result (Heads new)
rings_heads p leads step old new (Some last) was is grown differ same again = (
  is ∙ ap (λ (h : HeadsParts). head_of h.problem (child h.leads step)) was,
  grown ∙ ap (λ (h : HeadsParts). heads_from h.problem (child h.leads step)) was,
  subst (λ (h : HeadsParts). AllDiffer (rows_of h.problem h.leads) → AllDiffer (rows_of h.problem (child h.leads step))) was differ,
)
rings_heads p leads step old new None was is grown differ same again =
    (ap Heads (same refl), subst (λ (h : HeadsParts). AllDiffer (rows_of h.problem (child h.leads step)) → ⊥) was (again refl))

-- one lead more can be rung
pub can_ring : (p : ProblemParts) (leads : List ℕ) (held : Held) (from : LeadEnd) (step number : ℕ) → IsHeld p leads held → from ≡ end_of p leads → step < length p.leads → length leads < 1024 →
    length_of p leads ≤ part_cap p → part_cap p ≤ 12000 → number ≤ 128 → CanRing held from step number
can_ring p leads (Rows stack) from step number is end known few short cap small =
    omega (arith, ap (λ (s : StackParts). length s.rows) is, ap (λ (s : StackParts). s.room) is, rows_counted p leads, short, small)
can_ring p leads (Heads heads) from step number is end known few short cap small = record {
  end = end ∙ ap (λ (h : HeadsParts). end_of h.problem h.leads) (sym is);
  known = subst (λ (h : HeadsParts). step < length h.problem.leads) (sym is) known;
  few = subst (λ (h : HeadsParts). length h.leads < 1024) (sym is) few;
  short = omega (arith, ap (λ (e : LeadEnd). e.rung) end, short, cap);
}

-- and with one less
pub less_rows : (p : ProblemParts) (leads : List ℕ) (rung : ℕ) (old new : StackParts) → rung ≡ length_of p (parent leads) →
    old ≡ record { rows = rows_of p leads; room = room_of p } → new ≡ record { rows = take rung old.rows; room = old.room } →
    new ≡ record { rows = rows_of p (parent leads); room = room_of p }
less_rows p leads rung old new cut was is =
    is ∙ ap (λ (s : StackParts). record { rows = take rung s.rows; room = s.room }) was
    ∙ ap (λ (rows : List (List ℕ)). record { rows = rows; room = room_of p }) (ap (λ (n : ℕ). take n (rows_of p leads)) cut ∙ first_rows p leads (length leads - 1))

-- there is a lead to be taken back
pub has_more : (p : ProblemParts) (leads : List ℕ) (held : Held) (rung : ℕ) → IsHeld p leads held → 0 < length leads → rung ≡ length_of p (parent leads) → HasMore held rung
has_more p leads (Rows stack) rung is some cut =
    omega (arith, cut, first_fewer p leads (length leads - 1), rows_counted p leads, ap (λ (s : StackParts). length s.rows) is)
has_more p leads (Heads heads) rung is some cut = omega (arith, some, ap (λ (h : HeadsParts). length h.leads) is)
