use Rattle.std.proofs.Common.{ℕ, ◌+◌, ◌≤◌, List, subst, sym, arith}
use Rattle.cr_false.proofs.SomeRows.{AreHome, home_more}
use Rattle.cr_false.proofs.common.Common.of.Goals as goal

pub loop-bell-preserved : goal.loop-bell-preserved
loop-bell-preserved c =
    let table = c.args.leads.now in
    let bell = c.loop-bell.bell in
    let high : bell ≤ table.stage = omega (arith, c.loop-bell-test.true, c.number-stage.ensures, c.stage.ensures.is) in
    record {
      low = omega (arith, c.loop-bell.invariant.low);
      home = subst (AreHome table) (sym c.in_ok-add_if.ensures)
          (home_more table c.loop-bell.bells.items bell c.stands_at_home-is_common.result c.loop-bell.invariant.home (omega (arith, c.loop-bell.invariant.low)) high c.stands_at_home-is_common.ensures);
    }
