use Rattle.cr_words.specs.Commands.{texts_of}
use Rattle.cr_words.proofs.Answering.{answer_reads, answer_fails, assigned_by}
use Rattle.cr_words.proofs.reading.wish_in.Goals as goal

pub returns-clause-ok : goal.returns-clause-ok
returns-clause-ok c = answer_reads (texts_of c.args.words.now) _ c.wish.result c.in_ok-matches.ensures.taken
    (assigned_by (texts_of c.args.words.now) _ _ c.of.ensures c.in_ok-matches.ensures.ok) c.wish.ensures

pub returns-clause-fails : goal.returns-clause-fails
returns-clause-fails c = answer_fails (texts_of c.args.words.now) _ c.wish.result c.in_ok-matches.ensures.taken
    (assigned_by (texts_of c.args.words.now) _ _ c.of.ensures c.in_ok-matches.ensures.ok) c.wish.ensures
