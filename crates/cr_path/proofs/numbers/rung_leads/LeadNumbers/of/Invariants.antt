use Rattle.std.proofs.Common.{◌-◌, ◌*◌, ◌≤◌, length}
use Rattle.cr_path.specs.Heads.{AreAllHeads}
use Rattle.cr_path.specs.RungLeads.{IsBegun}
use Rattle.cr_path.specs.Begun.{numbers_in}
use Rattle.cr_path.proofs.numbers.rung_leads.LeadNumbers.of.Given as goal

abbrev pub invariant-loop-place : goal.invariant-loop-place
invariant-loop-place l = record {
  begun : IsBegun l.leads l.told.told (numbers_in l.leads l.made) (l.place * length l.leads.leads);
  heads : AreAllHeads l.leads l.made.heads;
  place : l.place ≤ length l.made.heads.rows.items;
}

abbrev pub decreases-loop-place : goal.decreases-loop-place
decreases-loop-place l = length l.made.heads.rows.items - l.place
