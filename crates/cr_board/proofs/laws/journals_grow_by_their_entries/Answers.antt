use Rattle.cr_board.proofs.Entries.{next_entries, claim_entries, hand_entries, resign_entries, recall_entries}
use Rattle.cr_board.proofs.laws.journals_grow_by_their_entries.Goals as goal

pub returns : goal.returns
returns c = record { next = next_entries; claimed = claim_entries; hand = hand_entries; resigned = resign_entries; recalled = recall_entries }
