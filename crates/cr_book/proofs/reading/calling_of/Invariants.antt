use Rattle.std.proofs.Common.{◌-◌, length}
use Rattle.cr_book.specs.Leads.{IsReadTo}
use Rattle.cr_book.proofs.reading.calling_of.Given as goal

-- the text up to here is that of the steps
abbrev pub invariant-loop-place : goal.invariant-loop-place
invariant-loop-place l = IsReadTo l.problem l.text l.steps.items l.place

abbrev pub decreases-loop-place : goal.decreases-loop-place
decreases-loop-place l = length l.text - l.place
