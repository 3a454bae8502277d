use Rattle.std.proofs.Common.{sym, subst}
use Rattle.std.specs.Prelude.{All}
use Rattle.cr_model.specs.Callings.{HasSteps}
use Rattle.cr_top.proofs.Steps.{steps_of_book}
use Rattle.cr_top.proofs.making.summary_for.Goals as goal

pub summary_text-requires : goal.summary_text-requires
summary_text-requires g c = subst (All (HasSteps c.in_ok-problem.problem)) (sym c.deref.ensures.value) (steps_of_book _ _ _ _ c.in_ok-book.ensures)
