use Rattle.std.proofs.Common.{◌≡◌, ◌⊎◌, sym, subst}
use Rattle.cr_top.specs.declared.status.Status.TheVariants as ended
use Rattle.cr_top.proofs.TrailAnswers.{trail_finished, trail_refused}
use Rattle.cr_top.proofs.trailing.trail_alone.Goals as goal

pub returns-clause-complete : goal.returns-clause-complete
returns-clause-complete g c = λ input bytes p found nodes told short is reads writes.
    subst (λ s. (s ≡ ended.Finished) ⊎ (s ≡ ended.NoMemory)) (sym c.status_for.ensures)
    (trail_finished _ _ c.args.every _ c.trailed_alone-result.ensures.ends (λ taken took. g.met.S.Source.shows _ _ taken took) input
    (c.inputs_have_one_answer.ensures input) told reads bytes p found nodes short is writes)

pub returns-clause-refuses : goal.returns-clause-refuses
returns-clause-refuses g c = λ input told due is reads.
    subst (λ s. (s ≡ due) ⊎ (s ≡ ended.NoMemory)) (sym c.status_for.ensures)
    (trail_refused _ _ c.args.every _ c.trailed_alone-result.ensures.ends (λ taken took. g.met.S.Source.shows _ _ taken took) input
    (c.inputs_have_one_answer.ensures input) told reads due is)
