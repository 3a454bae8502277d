use Rattle.cr_board.proofs.Events.{opening_stays}
use Rattle.cr_board.proofs.Appending.{journal_appends, found_appends}
use Rattle.cr_board.proofs.laws.events_only_append.Goals as goal

pub returns : goal.returns
returns c = record { journal = journal_appends; found = found_appends; opening = opening_stays }
