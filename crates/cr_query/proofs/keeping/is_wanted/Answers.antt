use Rattle.std.proofs.Common.{sym, ◌∙◌}
use Rattle.std.proofs.lemmas.Bool.{false≢true}
use Rattle.std.proofs.lemmas.Result.{IfOk-weaker}
use Rattle.cr_leads.specs.Tables.{leads_known}
use Rattle.cr_query.specs.Meeting.{by_leads}
use Rattle.cr_query.proofs.Halves.{wanted_halves, stage_rows}
use Rattle.cr_query.proofs.keeping.is_wanted.Goals as goal

pub ring-requires : goal.ring-requires
ring-requires c = leads_known c.args.leads.now c.args.problem.now c.args.calling.now c.requires.table c.requires.steps

pub meets_by_rows-requires : goal.meets_by_rows-requires
meets_by_rows-requires c =
    stage_rows c.args.leads.now c.args.problem.now c.deref.result.now _ c.requires.table c.deref.ensures.value c.in_ok-rung.ensures.rows

pub returns-then-not-meets_by_leads : goal.returns-then-not-meets_by_leads
returns-then-not-meets_by_leads c = (
  λ h. absurd (false≢true h),
  λ wanted. absurd (false≢true (sym c.if-not-meets_by_leads.true ∙ c.meets_by_leads.ensures.1 (by_leads c.args.problem.now c.args.calling.now wanted.meets))),
)

pub returns-then-not-is_touch : goal.returns-then-not-is_touch
returns-then-not-is_touch c = (
  λ h. absurd (false≢true h),
  λ wanted. absurd (false≢true (sym c.if-not-is_touch.true ∙ c.is_touch.ensures.1 ((c.in_ok-rung.ensures.is c.args.problem.now c.requires.table).touch.0 wanted.touch))),
)

pub returns : goal.returns
returns c =
    let rung = c.in_ok-rung.ensures.is c.args.problem.now c.requires.table in
    IfOk-weaker c.meets_by_rows.result _ _
    (λ met told. wanted_halves c.args.problem.now c.args.calling.now c.deref.result.now met
    (c.deref.ensures.value ∙ rung.rows)
    c.requires.steps
    (rung.touch.1 (c.is_touch.ensures.0 c.if-not-is_touch.false))
    (c.meets_by_leads.ensures.0 c.if-not-meets_by_leads.false) told)
    c.meets_by_rows.ensures
