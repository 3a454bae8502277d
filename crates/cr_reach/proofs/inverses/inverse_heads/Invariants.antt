use Rattle.cr_reach.specs.Spreading.{AreOfStage, LeadBack}
use Rattle.cr_reach.proofs.inverses.inverse_heads.Given as goal

abbrev pub invariant-loop-step : goal.invariant-loop-step
invariant-loop-step l = record {
  back : LeadBack l.leads l.step l.inverses.items;
  staged : AreOfStage l.leads.stage l.inverses.items;
}
