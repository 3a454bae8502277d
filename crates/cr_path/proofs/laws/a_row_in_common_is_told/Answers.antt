use Rattle.cr_path.proofs.Minimus.{first_told_of, last_left_out, round_left_out}
use Rattle.cr_path.proofs.laws.a_row_in_common_is_told.Goals as goal

pub returns : goal.returns
returns c = record { first = first_told_of; last = last_left_out; round = round_left_out }
