use Rattle.std.proofs.Common.{◌<◌, ◌≤◌, ◌∙◌, length, Some, subst, sym, arith}
use Rattle.std.proofs.lemmas.Bool.{false≢true}
use Rattle.std.proofs.lemmas.List.{take_all}
use Rattle.cr_prune.specs.Parts.{RingsPast}
use Rattle.cr_prune.proofs.Past.{change_new, change_old}
use Rattle.cr_prune.proofs.passing.ring_past.Goals as goal

pub returns-then-has-clause-past : goal.returns-then-has-clause-past
returns-then-has-clause-past c =
    let inside : c.loop-change.change-index < length c.args.changes.now = omega (arith, c.loop-change-test.true) in
    change_old c.args.stack.now.rows c.args.from c.loop-change.row c.then-row.result c.args.changes.now c.loop-change.change-index c.change-item.result inside
    c.change-item.is c.then-row.ensures.is c.loop-change.invariant.past (c.has.ensures.0 c.if-has.true)

pub loop-change-preserved : goal.loop-change-preserved
loop-change-preserved c =
    let inside : c.loop-change.change-index < length c.args.changes.now = omega (arith, c.loop-change-test.true) in
    record {
      stage = c.then-row.ensures.same_stage ∙ c.loop-change.invariant.stage;
      past = change_new c.args.stack.now.rows c.args.from c.loop-change.row c.then-row.result c.args.changes.now c.loop-change.change-index c.change-item.result inside
          c.change-item.is c.then-row.ensures.is c.loop-change.invariant.past (λ here. false≢true (sym c.if-has.false ∙ c.has.ensures.1 here));
    }

pub returns-clause-past : goal.returns-clause-past
returns-clause-past c =
    let all : length c.args.changes.now ≤ c.loop-change.change-index = omega (arith, c.loop-change-test.false) in
    subst (λ changes. RingsPast c.args.stack.now.rows c.args.from changes (Some c.loop-change.row)) (take_all c.loop-change.change-index c.args.changes.now all) c.loop-change.invariant.past
