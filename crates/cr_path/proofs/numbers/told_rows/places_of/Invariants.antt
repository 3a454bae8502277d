use Rattle.std.proofs.Common.{◌≡◌, ℕ, List, [], length, take}
use Rattle.std.specs.Prelude.{All}
use Rattle.cr_path.specs.RungLeads.{AreNumbered}
use Rattle.cr_path.proofs.numbers.told_rows.places_of.Given as goal

abbrev pub invariant-loop-row : goal.invariant-loop-row
invariant-loop-row l = record {
  are : AreNumbered l.initial.rows.rows [] (take l.row-index l.lead) l.rows.rows l.places.items;
  staged : (stage : ℕ) → All (λ (row : List ℕ). length row ≡ stage) l.initial.rows.rows → All (λ (row : List ℕ). length row ≡ stage) l.lead
      → All (λ (row : List ℕ). length row ≡ stage) l.rows.rows;
}
