use Rattle.cr_model.proofs.Lacking.{stripped_some}
use Rattle.cr_shard.proofs.text_cut.behind.Goals as goal

pub returns : goal.returns
returns c = stripped_some (λ x. x.now) c.args.text.now c.args.front.now c.strip_prefix.result c.strip_prefix.ensures.cases
