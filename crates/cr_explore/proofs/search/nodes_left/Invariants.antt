use Rattle.std.proofs.Common.{◌≡◌, ◌-◌, ◌++◌, take, reverse}
use Rattle.cr_explore.proofs.search.nodes_left.Given as goal

abbrev pub invariant-loop-index : goal.invariant-loop-index
invariant-loop-index g l = take (l.left - l.index) l.job ++ reverse l.nodes.items ≡ take l.left l.job ++ reverse l.initial.nodes.items
