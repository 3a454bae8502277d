use Rattle.std.proofs.Common.{refl, arith}
use Rattle.cr_leads.proofs.Steps.{ProductLaws, rows_more}
use Rattle.cr_leads.proofs.table.rows_of_all.Goals as goal

pub loop-step-preserved : goal.loop-step-preserved
loop-step-preserved c =
    let laws : ProductLaws = record {
      rows = c.joined_callings_multiply.ensures.rows;
      row = c.product_of_rows.ensures.row;
      long = c.product_of_rows.ensures.same_length;
    } in
    rows_more laws c.args.table.now c.args.steps.now c.loop-step.step-index _ c.loop-step.head c.in_ok-head.head
    c.loop-step.rows.items c.rows_of.result.now c.ring_lead.new.rows.items
    c.loop-step.invariant (omega arith) refl c.rows_of.ensures.of_problem c.rows_of.ensures.lead.are_rows
    c.in_ok-head.ensures.rows c.in_ok-head.ensures.last
