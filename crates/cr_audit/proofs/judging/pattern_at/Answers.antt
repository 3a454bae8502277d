use Rattle.std.proofs.Common.{pos, [], ◌∙◌}
use Rattle.std.proofs.lemmas.List.{get_or_default}
use Rattle.cr_audit.proofs.judging.pattern_at.Goals as goal

pub returns : goal.returns
returns c = c.index-patterns-index.is ∙ get_or_default c.args.patterns.now c.args.index c.index-patterns-index.result (record { cells = []; min = pos 0; max = pos 0 }) c.requires
