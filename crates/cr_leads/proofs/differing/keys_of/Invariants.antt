use Rattle.std.proofs.Common.{◌≡◌, map, take}
use Rattle.cr_row.specs.Packed.{key_of}
use Rattle.cr_leads.proofs.differing.keys_of.Given as goal

abbrev pub invariant-loop-row : goal.invariant-loop-row
invariant-loop-row l = l.keys.items ≡ map key_of (take l.row-index l.rows)
