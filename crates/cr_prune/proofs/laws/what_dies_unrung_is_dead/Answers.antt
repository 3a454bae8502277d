use Rattle.std.proofs.Common.{sym, ◌∙◌}
use Rattle.std.proofs.lemmas.Bool.{false≢true}
use Rattle.cr_prune.proofs.Reasons.{lives_unrung}
use Rattle.cr_prune.proofs.laws.what_dies_unrung_is_dead.Goals as goal

pub returns : goal.returns
returns c p most node dies none =
    false≢true (sym (lives_unrung p most node (λ why. c.a_node_is_dead_for_its_first_reason.ensures.none p most node why none) (c.what_is_hopeless_by_leads_is_hopeless.ensures p node)) ∙ dies)
