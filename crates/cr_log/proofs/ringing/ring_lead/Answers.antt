use Rattle.std.proofs.Common.{◌<◌, length, arith}
use Rattle.cr_log.proofs.RungLeads.{pushed_on}
use Rattle.cr_log.proofs.ringing.ring_lead.Goals as goal

pub loop-row-preserved : goal.loop-row-preserved
loop-row-preserved c =
    let within : c.loop-row.row-index < length c.args.lead.now = omega (arith, c.loop-row-test.true) in
    pushed_on c.args.rows.now c.args.head c.args.lead.now c.loop-row.row-index c.loop-row.rows c.loop-row.invariant within
    c.push.new.self c.times.result c.row-item.result c.times.ensures.is c.row-item.is c.in-Fresh.ensures
