use Rattle.cr_store.proofs.Inputs.{itself, turned, followed}
use Rattle.cr_store.proofs.laws.covering_the_same_is_an_equivalence.Goals as goal

pub returns-clause-itself : goal.returns-clause-itself
returns-clause-itself c = λ text bytes p found nodes is. itself text bytes p found nodes is

pub returns-clause-turned : goal.returns-clause-turned
returns-clause-turned c = λ text other same. turned text other same

pub returns-clause-followed : goal.returns-clause-followed
returns-clause-followed c = λ text other third few same next.
    followed c.bytes_have_one_answer.ensures.one_checkpoint c.bytes_have_one_answer-2.ensures.one_problem text other third few same next
