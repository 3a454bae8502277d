use Rattle.cr_rotate.proofs.RepeatedWords.{repeated_least}
use Rattle.cr_rotate.proofs.laws.repeated_words_are_least_where_the_word_is.Goals as goal

pub returns : goal.returns
returns c = repeated_least
