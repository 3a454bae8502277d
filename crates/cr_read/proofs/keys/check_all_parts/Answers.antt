use Rattle.std.proofs.Common.{ℕ, List, subst}
use Rattle.std.specs.Prelude.{flat_map}
use Rattle.toml.specs.View.{view}
use Rattle.cr_model.specs.Keys.{members_in, part_faults, parts}
use Rattle.cr_read.specs.FirstKeys.{Checks}
use Rattle.cr_read.proofs.Arrays.{letters_written}
use Rattle.cr_read.proofs.keys.check_all_parts.Goals as goal

pub returns : goal.returns
returns c = subst (λ (letters : List (List ℕ)). Checks (flat_map (part_faults (members_in (view c.args.root.now))) (parts letters)) c.check_parts.result)
    (letters_written c.items_at.result.now (members_in (view c.args.root.now)) c.items_at.ensures)
    c.check_parts.ensures
