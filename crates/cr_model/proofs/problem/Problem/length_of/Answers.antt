use Rattle.std.proofs.Common.{ℕ, ◌<◌, ◌≤◌, length, ap, sym, ◌∙◌, subst}
use Rattle.std.specs.Prelude.{sum_by}
use Rattle.cr_model.specs.Problems.{parts_from}
use Rattle.cr_model.specs.Callings.{changes_at, length_of}
use Rattle.cr_model.specs.Limits.{most_lead_changes}
use Rattle.cr_model.specs.Sound.{sound_leads}
use Rattle.cr_model.proofs.Measured.{lead_few, length_by_leads}
use Rattle.cr_model.proofs.problem.Problem.length_of.Goals as goal

pub total_length-requires-clause-short : goal.total_length-requires-clause-short
total_length-requires-clause-short c =
    subst (λ leads. (i : ℕ) → i < length leads → length (changes_at leads i) ≤ most_lead_changes) (sym c.deref.ensures.value) (lead_few _ _ c.self.inside.leads.items (sound_leads _ c.self.invariant))

pub returns : goal.returns
returns c =
    c.total_length.ensures
    ∙ ap (λ leads. sum_by (λ step. length (changes_at leads step)) c.steps.result.now) c.deref.ensures.value
    ∙ ap (sum_by (λ step. length (changes_at c.self.inside.leads.items step))) c.steps.ensures.is
    ∙ length_by_leads (parts_from c.self.inside.stage c.self.inside.letters.items c.self.inside.leads.items c.self.inside.query) c.args.calling.now
    ∙ ap (λ p. length_of p c.args.calling.now) c.self.view_is
