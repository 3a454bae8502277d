use Rattle.std.proofs.Common.{◌≡◌, sym, ap, ◌∙◌}
use Rattle.std.proofs.lemmas.Slice.Eq.{bytes_eq-Decides}
use Rattle.cr_row.specs.Rows.{product}
use Rattle.cr_leads.specs.Tables.{TableParts}
use Rattle.cr_ahead.proofs.HeadMoves.{head_times}
use Rattle.cr_ahead.proofs.tests.lead_heads.leads_to.Goals as goal

pub returns : goal.returns
returns c = λ yes p is.
    let same : c.times.result ≡ c.args.to.now = (bytes_eq-Decides c.times.result c.args.to.now).0 (sym c.eq.ensures ∙ yes) in
    sym same ∙ c.times.ensures.is ∙ ap (product c.args.head.now) (c.head_of.ensures.of_problem p is)
    ∙ head_times c.a_lead_rung_from_a_row.ensures c.rounds_is_neutral.ensures.right p c.args.head.now c.args.step (c.requires.head ∙ ap (λ (t : TableParts). t.stage) is)
