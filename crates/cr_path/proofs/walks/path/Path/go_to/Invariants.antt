use Rattle.std.proofs.Common.{◌≡◌, take}
use Rattle.cr_path.specs.Walks.{path_from}
use Rattle.cr_path.proofs.walks.path.Path.go_to.Given as goal

abbrev pub invariant-loop-index : goal.invariant-loop-index
invariant-loop-index g l = l.self ≡ path_from l.fn.self.problem l.fn.self.numbers (take l.index l.node) 0
