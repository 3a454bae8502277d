use Rattle.std.proofs.Common.{ℕ, List, subst}
use Rattle.toml.specs.View.{view}
use Rattle.cr_model.specs.Keys.{members_in}
use Rattle.cr_read.specs.FirstKeys.{Checks, letters_in}
use Rattle.cr_read.proofs.KeyTables.{unknown_left}
use Rattle.cr_read.proofs.keys.check_table.Goals as goal

pub returns : goal.returns
returns c = subst (λ (paths : List (List ℕ)). Checks paths c.check_unknown.result)
    (unknown_left c.args.path.now (letters_in c.args.methods.now) c.args.keys.now (members_in (view c.args.table.now)) c.in_ok-check_known.ensures)
    c.check_unknown.ensures
