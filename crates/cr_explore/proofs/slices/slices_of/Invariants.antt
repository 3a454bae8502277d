use Rattle.std.proofs.Common.{◌-◌, ◌≤◌, All}
use Rattle.cr_explore.specs.Slices.{IsSlice, Adjoin}
use Rattle.cr_explore.proofs.slices.slices_of.Given as goal

abbrev pub invariant-loop-start : goal.invariant-loop-start
invariant-loop-start l = record {
  inside : l.start ≤ l.long;
  adjoin : Adjoin 0 l.slices.items l.start;
  slices : All (IsSlice l.long) l.slices.items;
}

abbrev pub decreases-loop-start : goal.decreases-loop-start
decreases-loop-start l = l.long - l.start
