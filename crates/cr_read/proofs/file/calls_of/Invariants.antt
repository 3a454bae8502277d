use Rattle.std.proofs.Common.{◌≡◌, map, take}
use Rattle.toml.specs.View.{view}
use Rattle.cr_model.specs.Files.{call_in}
use Rattle.cr_read.proofs.file.calls_of.Given as goal

abbrev pub invariant-loop-table : goal.invariant-loop-table
invariant-loop-table l = l.calls.items ≡ map call_in (map view (take l.table-index l.table-items))
