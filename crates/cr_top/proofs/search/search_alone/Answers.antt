use Rattle.std.proofs.Common.{◌≡◌, ◌⊎◌, sym, subst}
use Rattle.cr_top.specs.declared.status.Status.TheVariants as ended
use Rattle.cr_top.proofs.Completeness.{ends_finished, ends_stopped, ends_refused}
use Rattle.cr_top.proofs.search.search_alone.Goals as goal

pub returns-clause-complete : goal.returns-clause-complete
returns-clause-complete g c = λ input bytes p found nodes told short is keeps reads writes.
    subst (λ s. (s ≡ ended.Finished) ⊎ (s ≡ ended.NoMemory)) (sym c.status_for.ensures)
    (ends_finished _ _ c.args.turns _ c.searched_alone-result.ensures.ends (λ taken took. g.met.S.Source.shows _ _ taken took) input
    (c.inputs_have_one_answer.ensures input) told reads bytes p found nodes short is writes keeps)

pub returns-clause-stops : goal.returns-clause-stops
returns-clause-stops g c = λ after allowed input bytes p found nodes told short is less reads writes.
    subst (λ s. (s ≡ ended.Stopped after) ⊎ (s ≡ ended.NoMemory)) (sym c.status_for.ensures)
    (ends_stopped _ _ c.args.turns _ c.searched_alone-result.ensures.ends (λ taken took. g.met.S.Source.shows _ _ taken took) input
    (c.inputs_have_one_answer.ensures input) told reads bytes p found nodes short is writes after allowed less)

pub returns-clause-refuses : goal.returns-clause-refuses
returns-clause-refuses g c = λ input told due is reads.
    subst (λ s. (s ≡ due) ⊎ (s ≡ ended.NoMemory)) (sym c.status_for.ensures)
    (ends_refused _ _ c.args.turns _ c.searched_alone-result.ensures.ends (λ taken took. g.met.S.Source.shows _ _ taken took) input
    (c.inputs_have_one_answer.ensures input) told reads due is)
