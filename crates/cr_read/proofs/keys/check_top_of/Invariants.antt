use Rattle.std.proofs.Common.{◌≡◌, [], ◌∷◌, map, codes}
use Rattle.toml.specs.View.{members_view, table_view}
use Rattle.cr_model.specs.Keys.{unknown_keys}
use Rattle.cr_read.proofs.keys.check_top_of.Given as goal

abbrev pub invariant-loop-key : goal.invariant-loop-key
invariant-loop-key l = unknown_keys [] (codes "stage" ∷ map (λ part. part.name.now) l.parts) (members_view l.key-iterator) ≡ unknown_keys [] (codes "stage" ∷ map (λ part. part.name.now) l.parts) (table_view l.table)
