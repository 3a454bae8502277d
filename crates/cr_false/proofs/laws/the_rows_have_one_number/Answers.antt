use Rattle.cr_false.proofs.Numbers.{one_whole, held}
use Rattle.cr_false.proofs.laws.the_rows_have_one_number.Goals as goal

pub returns : goal.returns
returns c = record { one = one_whole; held = held }
