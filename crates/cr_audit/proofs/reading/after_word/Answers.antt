use Rattle.cr_model.proofs.Lacking.{stripped_some, stripped_none}
use Rattle.cr_audit.proofs.reading.after_word.Goals as goal

pub returns-clause-some : goal.returns-clause-some
returns-clause-some c = stripped_some (λ x. x.now) c.args.text.now c.args.word.now c.strip_prefix.result c.strip_prefix.ensures.cases

pub returns-clause-none : goal.returns-clause-none
returns-clause-none c = stripped_none (λ x. x.now) c.args.text.now c.args.word.now c.strip_prefix.result c.strip_prefix.ensures.cases
