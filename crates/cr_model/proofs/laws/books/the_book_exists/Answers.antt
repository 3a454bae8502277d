use Rattle.cr_model.proofs.BookExists.{a_book}
use Rattle.cr_model.proofs.laws.books.the_book_exists.Goals as goal

pub returns : goal.returns
returns c = a_book
