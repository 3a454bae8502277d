use Rattle.std.proofs.Common.{◌≡◌, ◌+◌, ◌*◌, length}
use Rattle.cr_path.specs.Heads.{IsNamed}
use Rattle.cr_path.specs.RungLeads.{IsBegun}
use Rattle.cr_path.specs.Begun.{numbers_in}
use Rattle.cr_path.proofs.numbers.rung_leads.number_leads.Given as goal

abbrev pub invariant-loop-step : goal.invariant-loop-step
invariant-loop-step l = record {
  begun : IsBegun l.leads l.told.told (numbers_in l.leads l.made) (l.place * length l.leads.leads + l.step);
  named : IsNamed l.leads l.made.heads l.place l.inverse l.told.rows l.made.rows.rows l.names.items;
  heads : l.made.heads ≡ l.initial.made.heads;
}
