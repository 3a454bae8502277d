use Rattle.std.proofs.Common.{◌≡◌, true, take}
use Rattle.std.specs.List.{list_all}
use Rattle.cr_query.specs.Fixing.{is_at}
use Rattle.cr_query.proofs.shape.has_all.Given as goal

abbrev pub invariant-loop-one : goal.invariant-loop-one
invariant-loop-one l = list_all (is_at l.row) (take l.one-index l.fixed) ≡ true
