use Rattle.std.proofs.Common.{◌≡◌, ◌<◌, length, arith, rules}
use Rattle.cr_audit.proofs.Passing.{shorter, started, stepped, line_fault, ended_well, ended_badly}
use Rattle.cr_audit.proofs.walk.walk_lines.Goals as goal

pub loop-rest-init : goal.loop-rest-init
loop-rest-init c = record {
  passed = started c.args.problem.now c.args.log.now c.in_ok-walk.walk c.in_ok-walk.ensures.due c.in_ok-walk.ensures.root c.in_ok-walk.ensures.none;
  walk = c.in_ok-walk.ensures.walk;
  few = omega arith;
}

pub returns-in-Err-clause-fault : goal.returns-in-Err-clause-fault
returns-in-Err-clause-fault c =
    let some : 0 < length c.loop-rest.rest.now = search rules in
    line_fault c.args.problem.now c.args.log.now c.loop-rest.number c.loop-rest.walk c.loop-rest.rest.now c.in-Err.fault c.loop-rest.invariant.passed some c.in-Err.ensures.stop

pub loop-rest-preserved : goal.loop-rest-preserved
loop-rest-preserved c =
    let moved = c.in-Ok.ensures.moved in
    record {
      passed = stepped c.args.problem.now c.args.log.now c.loop-rest.number c.loop-rest.walk c.loop-rest.rest.now c.pass_line.new.walk c.in-Ok.others.now c.loop-rest.invariant.passed moved;
      walk = c.in-Ok.ensures.walk;
      few = omega (arith, c.loop-rest.invariant.few, shorter c.args.problem.now c.loop-rest.walk c.loop-rest.rest.now c.pass_line.new.walk c.in-Ok.others.now moved);
    }

pub returns-clause-proved : goal.returns-clause-proved
returns-clause-proved c =
    let none : length c.loop-rest.rest.now ≡ 0 = search rules in
    ended_well c.args.problem.now c.args.log.now c.loop-rest.number c.loop-rest.walk c.loop-rest.rest.now c.loop-rest.invariant.passed c.loop-rest.invariant.walk none c.finish.result c.finish.ensures

pub returns-clause-fault : goal.returns-clause-fault
returns-clause-fault c =
    let none : length c.loop-rest.rest.now ≡ 0 = search rules in
    ended_badly c.args.problem.now c.args.log.now c.loop-rest.number c.loop-rest.walk c.loop-rest.rest.now c.loop-rest.invariant.passed none c.finish.result c.finish.ensures
