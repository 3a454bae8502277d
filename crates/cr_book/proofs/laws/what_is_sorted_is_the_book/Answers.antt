use Rattle.cr_book.proofs.Sorting.{in_strict_order, sorted_book}
use Rattle.cr_book.proofs.laws.what_is_sorted_is_the_book.Goals as goal

pub returns-clause-strict : goal.returns-clause-strict
returns-clause-strict c = λ p callings sorted moved up once. in_strict_order p callings sorted moved up once

pub returns-clause-book : goal.returns-clause-book
returns-clause-book c = λ p found nodes callings sorted moved up once covered. sorted_book p found nodes callings sorted moved up once covered
