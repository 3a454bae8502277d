use Rattle.std.proofs.Common.{◌≡◌, map}
use Rattle.toml.specs.View.{members_view, table_view}
use Rattle.cr_model.specs.Keys.{unknown_keys}
use Rattle.cr_read.proofs.keys.check_unknown_of.Given as goal

abbrev pub invariant-loop-key : goal.invariant-loop-key
invariant-loop-key l = unknown_keys l.path (map (λ key. key.name.now) l.keys) (members_view l.key-iterator) ≡ unknown_keys l.path (map (λ key. key.name.now) l.keys) (table_view l.table)
