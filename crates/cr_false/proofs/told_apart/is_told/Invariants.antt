use Rattle.std.proofs.Common.{ℕ, ◌<◌, [], get_or}
use Rattle.cr_leads.specs.Tables.{lead_rows}
use Rattle.cr_false.specs.Telling.{TellsApart}
use Rattle.cr_false.proofs.told_apart.is_told.Given as goal

abbrev pub invariant-loop-other : goal.invariant-loop-other
invariant-loop-other l = (other : ℕ) → other < l.other → TellsApart l.leads (lead_rows l.leads l.step) (lead_rows l.leads other) (get_or l.told l.step []) (get_or l.told other [])
