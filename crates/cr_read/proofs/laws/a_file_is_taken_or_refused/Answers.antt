use Rattle.cr_read.proofs.OneFileTaken.{taken_or_refused}
use Rattle.cr_read.proofs.laws.a_file_is_taken_or_refused.Goals as goal

pub returns : goal.returns
returns c = taken_or_refused c.a_text_is_taken_or_refused.ensures
