use Rattle.std.proofs.Common.{◌≡◌, map, take}
use Rattle.toml.specs.View.{view}
use Rattle.cr_model.specs.Files.{limited_in}
use Rattle.cr_read.proofs.file.limits_of.Given as goal

abbrev pub invariant-loop-table : goal.invariant-loop-table
invariant-loop-table l = l.limits.items ≡ map (limited_in l.text) (map view (take l.table-index l.table-items))
