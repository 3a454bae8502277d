use Rattle.std.proofs.Common.{◌-◌, ◌*◌, ◌≤◌, length}
use Rattle.cr_path.specs.Heads.{AreNext}
use Rattle.cr_path.specs.RungLeads.{AreHeads}
use Rattle.cr_path.proofs.numbers.heads.Heads.of.Given as goal

abbrev pub invariant-loop-place : goal.invariant-loop-place
invariant-loop-place l = record {
  are : AreHeads l.leads l.stack.rows;
  next : AreNext l.leads l.stack.rows l.next.items (l.place * length l.leads.leads);
  place : l.place ≤ length l.stack.rows;
  few : length l.stack.rows ≤ l.most;
}

abbrev pub decreases-loop-place : goal.decreases-loop-place
decreases-loop-place l = l.most - l.place
