use Rattle.std.proofs.Common.{◌≡◌, drop}
use Rattle.toml.specs.View.{view}
use Rattle.cr_model.specs.Keys.{members_in}
use Rattle.cr_read.specs.FirstKeys.{letters_in, known_faults}
use Rattle.cr_read.proofs.keys.check_known.Given as goal

abbrev pub invariant-loop-key : goal.invariant-loop-key
invariant-loop-key l =
    known_faults l.path (letters_in l.methods) (drop l.key-index l.keys) (members_in (view l.table))
    ≡ known_faults l.path (letters_in l.methods) l.keys (members_in (view l.table))
