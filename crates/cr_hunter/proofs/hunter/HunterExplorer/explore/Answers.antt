use Rattle.std.proofs.Common.{inl, inr, ap, ◌∙◌, subst, arith}
use Rattle.cr_model.specs.Sound.{IsSound}
use Rattle.cr_hunter.proofs.Hunting.{turned, no_items, all_used}
use Rattle.cr_hunter.proofs.hunter.HunterExplorer.explore.Goals as goal
use Rattle.cr_hunter.proofs.hunter.HunterExplorer.explore.Goals.{then-loop-used-test+else-not-is_empty, else-loop-used-test}

pub loop-used-preserved : goal.loop-used-preserved
loop-used-preserved c = (
  turned c.one_turn_splits_a_node.ensures c.sizes_are_sums.ensures.node (subst IsSound c.self.invariant c.stage.ensures.sound)
      c.a_split_among_others.ensures c.sizes_are_sums.ensures.joined c.work_goes_on.ensures.onward
      c.args.job.now c.loop-used.found.items c.loop-used.rest.items c.take_turn.new.found.items c.take_turn.new.rest.items c.loop-used.used
      c.loop-used.invariant.0 c.in_ok-take_turn.ensures,
  omega (arith, c.loop-used-test.true),
)

pub returns-clause-ends : goal.returns-clause-ends
returns-clause-ends c = elim c.loop-used-test.branch [
  | then-loop-used-test+else-not-is_empty w ↦ inl (ap (λ d. d.rest) c.new.ensures ∙ no_items c.loop-used.rest.items _ c.loop-used.rest.ok.0 w.if-not-is_empty.ensures)
  | else-loop-used-test w ↦ inr (ap (λ d. d.used) c.new.ensures ∙ all_used c.loop-used.used c.args.turns c.loop-used.invariant.1 w.loop-used-test.false)
]
