use Rattle.cr_model.proofs.BookExists.{book_order_total}
use Rattle.cr_model.proofs.InOrder.{same_from_sorted}
use Rattle.cr_model.proofs.laws.books.book_is_unique.Goals as goal

pub returns : goal.returns
returns c = λ p found nodes book other one two. same_from_sorted (book_order_total p) book other one.ascending two.ascending (λ calling.
    (λ held. (two.covered calling).1 ((one.covered calling).0 held), λ held. (one.covered calling).1 ((two.covered calling).0 held)))
