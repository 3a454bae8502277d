use Rattle.std.proofs.Common.{◌≡◌, take, map, length}
use Rattle.cr_model.specs.Callings.{least}
use Rattle.cr_model.proofs.lengths.shortest_length.Given as goal

abbrev pub invariant-loop-index : goal.invariant-loop-index
invariant-loop-index l = l.shortest ≡ least (take l.index (map (λ lead. length lead.changes) l.leads))
