-- What a walk keeps, a step on and a step back.
use Rattle.std.proofs.Common.{◌≡◌, ℕ, zero, suc, ◌+◌, ◌-◌, ◌<◌, ◌≤◌, List, [], ◌∷◌, ◌++◌, length, get_or, take, sym, ap, ◌∙◌, arith}
use Rattle.std.proofs.lemmas.List.{take_more, take_all}
use Rattle.std.proofs.lemmas.List.Elements.{All-push, All-take, All-nil}
use Rattle.cr_row.specs.Rows.{rounds}
use Rattle.cr_model.specs.Problems.{ProblemParts}
use Rattle.cr_model.specs.Callings.{length_of}
use Rattle.cr_model.specs.Sizes.{child}
use Rattle.cr_leads.specs.Tables.{TableParts, lead_table}
use Rattle.cr_query.specs.Meters.{MeterParts, meter_from}
use Rattle.cr_prune.specs.declared.ends.LeadEnd.{LeadEnd}
use Rattle.cr_prune.specs.Ends.{AreEnds, end_of}
use Rattle.cr_prune.specs.Holding.{AreFirst}
use Rattle.cr_prune.specs.Rung.{room_of}
use Rattle.cr_prune.specs.Walks.{IsWalk, parent}
use Rattle.cr_prune.specs.declared.held.Held.{Held}
use Rattle.cr_prune.proofs.Leads.{first_fewer}

-- a node before all leads
pub begun : (p : ProblemParts) (leads : TableParts) (from : List ℕ) (marks : List LeadEnd) (held : Held) (fresh : ℕ) (counted : MeterParts) →
    leads ≡ lead_table p → from ≡ rounds p.stage → marks ≡ record { head = from; rung = 0 } ∷ [] → AreFirst p [] held fresh → counted ≡ meter_from p [] →
    IsWalk p leads [] marks held fresh counted
begun p leads from marks held fresh counted table from_is marks_is first counted_is = record {
  table = table;
  steps = All-nil (λ step. step < length p.leads);
  short = omega arith;
  ends = record {
    number = ap length marks_is;
    each = λ i d low. ap (λ (es : List LeadEnd). get_or es i d) marks_is ∙ at i d low;
  };
  first = first;
  meter = counted_is;
}
  where
    at : (i : ℕ) (d : LeadEnd) → i ≤ 0 → get_or (record { head = from; rung = 0 } ∷ []) i d ≡ end_of p (take i [])
    at zero d low = ap (λ (h : List ℕ). record { head = h; rung = 0 }) from_is
    at (suc i) d low = absurd (omega arith)

module _ (p : ProblemParts) (leads : TableParts) (node : List ℕ) (marks : List LeadEnd) (held : Held) (fresh : ℕ) (counted : MeterParts) (is : IsWalk p leads node marks held fresh counted) where
  -- a step on
  pub walked : (step : ℕ) (marks' : List LeadEnd) (held' : Held) (fresh' : ℕ) (counted' : MeterParts) → step < length p.leads → length_of p (child node step) ≤ room_of p →
      AreEnds p (child node step) marks' → AreFirst p (child node step) held' fresh' → counted' ≡ record { problem = counted.problem; node = child counted.node step } →
      IsWalk p leads (child node step) marks' held' fresh' counted'
  walked step marks' held' fresh' counted' inside within ends first counted_is = record {
    table = is.table;
    steps = All-push (λ s. s < length p.leads) node step is.steps inside;
    short = within;
    ends = ends;
    first = first;
    meter = counted_is ∙ ap (λ (m : MeterParts). record { problem = m.problem; node = child m.node step }) is.meter;
  }

  -- a step back
  pub returned : (marks' : List LeadEnd) (held' : Held) (fresh' : ℕ) (counted' : MeterParts) →
      AreEnds p (parent node) marks' → AreFirst p (parent node) held' fresh' → counted' ≡ record { problem = counted.problem; node = parent counted.node } →
      IsWalk p leads (parent node) marks' held' fresh' counted'
  returned marks' held' fresh' counted' ends first counted_is = record {
    table = is.table;
    steps = All-take (λ s. s < length p.leads) (length node - 1) node is.steps;
    short = omega (arith, is.short, first_fewer p node (length node - 1));
    ends = ends;
    first = first;
    meter = counted_is ∙ ap (λ (m : MeterParts). record { problem = m.problem; node = parent m.node }) is.meter;
  }

-- a node is its parent with its last step
pub last_step : (node : List ℕ) (step index : ℕ) → 0 < length node → index ≡ length node - 1 → step ≡ get_or node index 0 → node ≡ child (parent node) step
last_step node step index some last at =
    let up : length node - 1 + 1 ≡ length node = omega (arith, some) in
    sym (take_all (length node - 1 + 1) node (omega (arith, up)))
    ∙ take_more node (length node - 1) 0 (omega (arith, some))
    ∙ ap (λ s. take (length node - 1) node ++ s ∷ []) (sym (at ∙ ap (λ i. get_or node i 0) last))
