use Rattle.cr_path.specs.Representatives.{AreLike}
use Rattle.cr_path.proofs.numbers.records.records_of.Given as goal

abbrev pub invariant-loop-lead : goal.invariant-loop-lead
invariant-loop-lead l = AreLike l.steps l.round_heads l.rung l.leads.items l.lead-index
