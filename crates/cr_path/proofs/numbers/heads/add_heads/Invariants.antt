use Rattle.std.proofs.Common.{◌≡◌, ◌+◌, ◌*◌, ◌<◌, ◌≤◌, [], length, get_or}
use Rattle.cr_path.specs.Heads.{AreNext}
use Rattle.cr_path.specs.RungLeads.{AreHeads}
use Rattle.cr_path.proofs.numbers.heads.add_heads.Given as goal

abbrev pub invariant-loop-step : goal.invariant-loop-step
invariant-loop-step l = record {
  are : AreHeads l.leads l.heads.rows;
  next : AreNext l.leads l.heads.rows l.next.items (l.place * length l.leads.leads + l.step);
  head : get_or l.heads.rows l.place [] ≡ l.head;
  place : l.place < length l.heads.rows;
  few : length l.heads.rows ≤ l.most;
}
