use Rattle.cr_run.proofs.Returning.{Hinting}
use Rattle.cr_run.proofs.crew.hints_of.Given as goal

abbrev pub invariant-loop-end : goal.invariant-loop-end
invariant-loop-end l = Hinting l.lanes l.initial.end-iterator.rest.items l.yielded l.end-iterator.rest.items l.hints.items l.thieves.items
