use Rattle.cr_store.proofs.Inputs.{same_book, chained, itself, ended}
use Rattle.cr_store.proofs.laws.what_covers_the_same_has_one_book.Goals as goal

pub returns-clause-book : goal.returns-clause-book
returns-clause-book c = λ text other bytes p found nodes book others q founds rest last few also same is next whole after.
    same_book c.bytes_have_one_answer.ensures.one_checkpoint c.bytes_have_one_answer-2.ensures.one_problem c.book_is_unique.ensures
    text other bytes p found nodes book others q founds rest last few also same is next whole after

pub returns-clause-chain : goal.returns-clause-chain
returns-clause-chain c = λ text texts bytes p found nodes few is chain.
    chained c.bytes_have_one_answer.ensures.one_checkpoint c.bytes_have_one_answer-2.ensures.one_problem text texts few (itself text bytes p found nodes is) chain

pub returns-clause-end : goal.returns-clause-end
returns-clause-end c = λ text texts bytes p found nodes book others q founds rest last few chain is next whole after.
    ended c.bytes_have_one_answer.ensures.one_checkpoint c.bytes_have_one_answer-2.ensures.one_problem c.book_is_unique.ensures
    text texts bytes p found nodes book others q founds rest last few chain is next whole after
