use Rattle.cr_row.proofs.Packing.{same_key}
use Rattle.cr_row.proofs.laws.keys_tell_rows_apart.Goals as goal

pub returns : goal.returns
returns c = same_key
