use Rattle.std.proofs.Common.{◌≡◌, drop, map}
use Rattle.std.specs.Prelude.{flat_map}
use Rattle.toml.specs.View.{view}
use Rattle.cr_model.specs.Keys.{members_in, part_faults}
use Rattle.cr_read.specs.FirstKeys.{letters_in, part_of}
use Rattle.cr_read.proofs.keys.check_parts.Given as goal

abbrev pub invariant-loop-part : goal.invariant-loop-part
invariant-loop-part l =
    flat_map (part_faults (members_in (view l.root))) (map (part_of (letters_in l.methods)) (drop l.part-index l.parts))
    ≡ flat_map (part_faults (members_in (view l.root))) (map (part_of (letters_in l.methods)) l.parts)
