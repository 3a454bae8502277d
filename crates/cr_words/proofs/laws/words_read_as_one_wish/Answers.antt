use Rattle.cr_words.specs.Commands.{assigned}
use Rattle.cr_words.proofs.Wishes.{one_wish}
use Rattle.cr_words.proofs.laws.words_read_as_one_wish.Goals as goal

pub returns : goal.returns
returns c = λ words one other. one_wish (assigned words) one other
