use Rattle.std.proofs.Common.{◌≡◌, true, false, sym, ◌∙◌, subst, arith}
use Rattle.cr_model.specs.Sizes.{most_rows, child}
use Rattle.cr_prune.specs.Walks.{WalkParts}
use Rattle.cr_explore.specs.Stacks.{is_live}
use Rattle.cr_explore.proofs.Live.{first_dead, first_found, first_ended}
use Rattle.cr_explore.proofs.walking.go_down.Goals as goal

pub returns-then-goes_live-clause-step : goal.returns-then-goes_live-clause-step
returns-then-goes_live-clause-step c =
    let lives = subst (λ (w : WalkParts). is_live w.problem most_rows (child w.node c.loop-step.step) ≡ true) c.loop-step.invariant.walk (sym c.goes_live.ensures.live ∙ c.if-goes_live.true) in
    sym (c.loop-step.invariant.first ∙ first_found c.args.walk.now.problem most_rows c.args.walk.now.node c.loop-step.step (omega (arith, c.requires.count)) lives)

pub loop-step-preserved : goal.loop-step-preserved
loop-step-preserved c =
    let dies = subst (λ (w : WalkParts). is_live w.problem most_rows (child w.node c.loop-step.step) ≡ false) c.loop-step.invariant.walk (sym c.goes_live.ensures.live ∙ c.if-goes_live.false) in
    record {
      walk = c.if-goes_live.ensures.walk ∙ c.loop-step.invariant.walk;
      first = c.loop-step.invariant.first ∙ first_dead c.args.walk.now.problem most_rows c.args.walk.now.node c.loop-step.step (omega (arith, c.requires.count)) dies;
    }

pub returns-clause-step : goal.returns-clause-step
returns-clause-step c = sym (c.loop-step.invariant.first ∙ first_ended c.args.walk.now.problem most_rows c.args.walk.now.node c.loop-step.step (omega (arith, c.requires.count)))
