use Rattle.std.proofs.Common.{sym, ap, ◌∙◌}
use Rattle.cr_model.specs.Problems.{QueryParts}
use Rattle.cr_model.specs.Dead.{turn_free}
use Rattle.cr_query.proofs.keeping.is_kept.Goals as goal

pub is_least_and_wanted-requires-clause-free : goal.is_least_and_wanted-requires-clause-free
is_least_and_wanted-requires-clause-free c = ap (λ (q : QueryParts). turn_free q) (sym c.query.ensures.is) ∙ sym c.turn_free.ensures ∙ c.if-turn_free.true
