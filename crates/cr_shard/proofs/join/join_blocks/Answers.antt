use Rattle.cr_shard.proofs.OneJoin.{accepts, refuses}
use Rattle.cr_shard.proofs.join.join_blocks.Goals as goal

pub returns-clause-accepts : goal.returns-clause-accepts
returns-clause-accepts c = λ joined is.
    accepts c.texts_have_one_answer.ensures.one_text c.texts_have_one_answer.ensures.never_both (λ made. made.items) c.args.text.now c.join_whole.result c.join_whole.ensures joined is

pub returns-clause-refuses : goal.returns-clause-refuses
returns-clause-refuses c = λ why first.
    refuses c.texts_have_one_answer.ensures.one_fault c.texts_have_one_answer.ensures.never_both (λ made. made.items) c.args.text.now c.join_whole.result c.join_whole.ensures why first
