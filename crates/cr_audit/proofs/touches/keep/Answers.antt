use Rattle.std.proofs.Common.{◌≡◌, ap, ◌∙◌}
use Rattle.std.proofs.lemmas.Result.{IfOk-weaker}
use Rattle.cr_model.specs.OneTurn.{touch_of}
use Rattle.cr_audit.specs.Touched.{callings}
use Rattle.cr_audit.proofs.Stopping.{kept_added}
use Rattle.cr_audit.proofs.touches.keep.Goals as goal

pub returns-then-branch-clause-found : goal.returns-then-branch-clause-found
returns-then-branch-clause-found c =
    let p = c.args.problem.now in
    let is : c.in_ok-touch.touch ≡ touch_of p c.args.path.now.node.items = c.in_ok-touch.ensures.is ∙ ap (touch_of p) c.deref.ensures.value in
    IfOk-weaker c.add.result _ _
    (λ _ told. kept_added p c.args.path.now.node.items c.in_ok-touch.touch (callings c.add.new.touches.keys) (callings c.args.touches.now.keys) is (c.in_ok-is_kept.ensures.0 c.if-branch.true) told)
    c.add.ensures.found
