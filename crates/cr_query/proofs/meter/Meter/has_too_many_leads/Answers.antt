use Rattle.std.proofs.Common.{ap, ◌∙◌}
use Rattle.cr_query.specs.Meters.{MeterParts, marks_now, letters_now, changes_now, has_too_many_leads}
use Rattle.cr_query.proofs.Sizes.{parts_some}
use Rattle.cr_query.proofs.Told.{many_told}
use Rattle.cr_query.proofs.Metering.{whole}
use Rattle.cr_query.proofs.meter.Meter.has_too_many_leads.Goals as goal

pub returns : goal.returns
returns c =
    let m = c.self.inside in
    let counted = whole m.problem m.leads.steps.items m.leads c.self.invariant.1 in
    c.has_too_many.ensures
    ∙ many_told m.problem m.leads.steps.items m.numbers (marks_now m.leads) (letters_now m.leads) (changes_now m.leads) (parts_some m.problem c.self.invariant.0.sound) c.self.invariant.0.found
    counted.by_mark counted.by_letter counted.changed
    ∙ ap (λ (meter : MeterParts). has_too_many_leads meter.problem meter.node) c.self.view_is
