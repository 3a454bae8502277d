use Rattle.std.proofs.Common.{◌≡◌, take}
use Rattle.cr_audit.specs.Paths.{fitting_of}
use Rattle.cr_audit.proofs.fitting.count_rung.Given as goal

abbrev pub invariant-loop-index : goal.invariant-loop-index
invariant-loop-index l = l.numbers.items ≡ take l.index (fitting_of l.problem l.path.node.items)
