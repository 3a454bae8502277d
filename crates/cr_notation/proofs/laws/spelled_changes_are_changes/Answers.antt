use Rattle.cr_notation.proofs.Spelled.{spelled_changes}
use Rattle.cr_notation.proofs.laws.spelled_changes_are_changes.Goals as goal

pub returns : goal.returns
returns c = spelled_changes
