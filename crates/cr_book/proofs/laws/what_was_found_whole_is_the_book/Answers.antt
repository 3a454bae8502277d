use Rattle.cr_book.proofs.Sorting.{found_whole_book}
use Rattle.cr_book.proofs.laws.what_was_found_whole_is_the_book.Goals as goal

pub returns : goal.returns
returns c = λ p before nodes found sorted kept each once moved up.
    found_whole_book p before nodes found kept each once (c.covers_are_counted.ensures p before nodes) sorted moved up
