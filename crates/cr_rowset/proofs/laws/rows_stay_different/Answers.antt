use Rattle.cr_rowset.proofs.Answered.{still_differ, still_few, still_room}
use Rattle.cr_rowset.proofs.laws.rows_stay_different.Goals as goal

pub returns : goal.returns
returns c = record { differ = still_differ; few = still_few; same_room = still_room }
