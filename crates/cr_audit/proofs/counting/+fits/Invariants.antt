use Rattle.std.proofs.Common.{◌≡◌, ℕ, ◌<◌, ◌≤◌, false, length, drop}
use Rattle.cr_model.specs.Queries.{fits}
use Rattle.cr_audit.proofs.counting.+fits.Given as goal

-- from no place so far the others fit
abbrev pub invariant-loop-number : goal.invariant-loop-number
invariant-loop-number l = (k : ℕ) → l.place ≤ k → k < l.number → fits l.others (drop k l.row) ≡ false

abbrev pub decreases-fits : goal.decreases-fits
decreases-fits l = length l.cells.now
