use Rattle.std.proofs.Common.{[], sym, ◌∙◌, subst, below_more}
use Rattle.std.proofs.lemmas.Bool.{false≢true}
use Rattle.std.proofs.lemmas.List.{get_or_default}
use Rattle.cr_model.specs.Touches.{Kept}
use Rattle.cr_explore.proofs.unkept.first_by_ringing.Goals as goal

pub returns-then-not-branch : goal.returns-then-not-branch
returns-then-not-branch c =
    let at = c.index-touches-index.is ∙ get_or_default c.args.touches.now c.loop-index.index c.index-touches-index.result [] c.loop-index-test.true in
    record {
      within = c.loop-index-test.true;
      before = c.loop-index.invariant.kept;
      wrong = λ kept. false≢true (sym c.if-not-branch.true ∙ c.in_ok-is_kept_by_ringing.ensures.kept.1 (subst (Kept c.args.problem.now) (sym at) kept));
    }

pub loop-index-preserved : goal.loop-index-preserved
loop-index-preserved c =
    let at = c.index-touches-index.is ∙ get_or_default c.args.touches.now c.loop-index.index c.index-touches-index.result [] c.loop-index-test.true in
    record {
      same = c.is_kept_by_ringing.ensures.same;
      kept = below_more _ _ c.loop-index.invariant.kept (subst (Kept c.args.problem.now) at (c.in_ok-is_kept_by_ringing.ensures.kept.0 c.if-not-branch.false));
    }
