use Rattle.std.proofs.Common.{◌∙◌, ◌+◌, length, nat_lt, refl, sym, ap, arith, ℕ}
use Rattle.std.proofs.lemmas.Bool.{ltb-false}
use Rattle.cr_model.specs.Callings.{last_of}
use Rattle.cr_model.specs.Queries.{part_cap}
use Rattle.cr_model.specs.Sizes.{child}
use Rattle.cr_row.specs.Rows.{rounds}
use Rattle.cr_leads.specs.Tables.{leads_counted}
use Rattle.cr_log.proofs.FirstOnes.{first_long}
use Rattle.cr_log.proofs.Places.{rows_few, head_long, lead_long}
use Rattle.cr_log.proofs.RungLeads.{child_long, child_rows, cut_again, rung_whole, kept_itself}
use Rattle.cr_log.proofs.ringing.ring_on.Goals as goal

pub rows_of-lead-requires : goal.rows_of-lead-requires
rows_of-lead-requires c = omega (arith, c.requires.step, leads_counted c.args.leads.now c.args.problem.now c.requires.table)

pub is_long-requires : goal.is_long-requires
is_long-requires c = record { few = rows_few c.args.problem.now c.args.node.now c.args.rows.now c.requires.at }

pub ring_lead-requires-clause-staged : goal.ring_lead-requires-clause-staged
ring_lead-requires-clause-staged c =
    lead_long c.args.problem.now c.args.leads.now c.head_of-head.result c.rows_of-lead.result.now c.requires.table c.rows_of-lead.ensures.lead
    (head_long c.args.problem.now c.args.node.now c.args.rows.now c.requires.at c.head_of-head.result
    (c.head_of-head.ensures ∙ ap (λ (n : ℕ). last_of (rounds n) c.args.rows.now.rows) c.stage.ensures.is))

pub ring_lead-requires-clause-room : goal.ring_lead-requires-clause-room
ring_lead-requires-clause-room c =
    let short = ltb-false (part_cap c.args.problem.now) (length c.args.rows.now.rows + length c.rows_of-lead.result.now) (sym c.is_long.ensures ∙ c.if-is_long.false) in
    omega (arith, short, c.requires.at.room)

pub returns-then-is_long : goal.returns-then-is_long
returns-then-is_long c =
    let p = c.args.problem.now in
    let node = c.args.node.now in
    let long = child_long p node c.args.step c.args.rows.now c.requires.at c.requires.step c.rows_of-lead.result.now (c.rows_of-lead.ensures.of_problem p c.requires.table) in (
      first_long p (child node c.args.step) (ap (nat_lt (part_cap p)) long ∙ sym c.is_long.ensures ∙ c.if-is_long.true),
      refl,
      kept_itself c.args.rows.now,
    )

pub returns-in-Some : goal.returns-in-Some
returns-in-Some c =
    let p = c.args.problem.now in
    let node = c.args.node.now in
    let lead_is = c.rows_of-lead.ensures.of_problem p c.requires.table in
    let long = child_long p node c.args.step c.args.rows.now c.requires.at c.requires.step c.rows_of-lead.result.now lead_is in
    let head_is = c.head_of-head.ensures ∙ ap (λ (n : ℕ). last_of (rounds n) c.args.rows.now.rows) c.stage.ensures.is in
    cut_again p node c.args.step c.args.rows.now c.requires.at c.requires.step _ c.in-Some.twice.first c.in-Some.twice.again c.ring_lead.new.rows
    (child_rows p node c.args.step c.args.rows.now c.requires.at c.requires.step (c.joined_callings_multiply.ensures.rows p) c.head_of-head.result c.rows_of-lead.result.now head_is lead_is)
    (ap (nat_lt (part_cap p)) long ∙ sym c.is_long.ensures ∙ c.if-is_long.false)
    c.in-Some.ensures

pub returns-in-None : goal.returns-in-None
returns-in-None c =
    let p = c.args.problem.now in
    let node = c.args.node.now in
    let lead_is = c.rows_of-lead.ensures.of_problem p c.requires.table in
    let long = child_long p node c.args.step c.args.rows.now c.requires.at c.requires.step c.rows_of-lead.result.now lead_is in
    let head_is = c.head_of-head.ensures ∙ ap (λ (n : ℕ). last_of (rounds n) c.args.rows.now.rows) c.stage.ensures.is in
    rung_whole p node c.args.step c.args.rows.now c.requires.at c.requires.step _ c.ring_lead.new.rows
    (child_rows p node c.args.step c.args.rows.now c.requires.at c.requires.step (c.joined_callings_multiply.ensures.rows p) c.head_of-head.result c.rows_of-lead.result.now head_is lead_is)
    (ap (nat_lt (part_cap p)) long ∙ sym c.is_long.ensures ∙ c.if-is_long.false)
    c.in-None.ensures.0
