use Rattle.std.proofs.Common.{◌≡◌, sym, ap, ◌∙◌}
use Rattle.std.proofs.lemmas.Result.{IfOk-weaker}
use Rattle.cr_audit.specs.Touched.{callings}
use Rattle.cr_audit.proofs.Stopping.{found_here, none_found}
use Rattle.cr_audit.proofs.walk.pass.Goals as goal

pub returns-then-opens-clause-found : goal.returns-then-opens-clause-found
returns-then-opens-clause-found c =
    let p = c.args.problem.now in
    IfOk-weaker c.pass_open.result _ _
    (λ _ told. found_here p c.args.walk.now.path.node.items c.args.why (callings c.pass_open.new.walk.touches.keys) (callings c.args.walk.now.touches.keys) (sym c.opens.ensures ∙ c.if-opens.true) told)
    c.pass_open.ensures.found

pub returns-else-opens-clause-found : goal.returns-else-opens-clause-found
returns-else-opens-clause-found c =
    let p = c.args.problem.now in
    IfOk-weaker c.pass_cut.result _ _
    (λ _ same. none_found p c.args.walk.now.path.node.items c.args.why (callings c.pass_cut.new.walk.touches.keys) (callings c.args.walk.now.touches.keys) (sym c.opens.ensures ∙ c.if-opens.false) (ap callings same))
    c.pass_cut.ensures.same
