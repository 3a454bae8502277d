use Rattle.std.proofs.Common.{◌≡◌, ◌+◌, ◌≤◌, ◌<◌, true, length, ap, sym, ◌∙◌, rules}
use Rattle.cr_model.specs.Sizes.{child}
use Rattle.cr_audit.specs.Dues.{later, dues}
use Rattle.cr_audit.proofs.Dues.{from_next, from_last}
use Rattle.cr_audit.proofs.path.go_beside.Goals as goal

pub returns-then-from-steps-clause-due : goal.returns-then-from-steps-clause-due
returns-then-from-steps-clause-due c =
    let p = c.args.problem.now in
    let node = c.go_up.new.path.node.items in
    let is : c.loop-step.path.node.items ≡ child node c.in-Some.step = c.in-Some.ensures.node.1 in
    let more : c.in-Some.step + 1 < length p.leads = search rules in
    ap (dues p true) c.in_ok-go_down.ensures.node ∙ from_next p node c.in-Some.step more ∙ ap (later p) (sym is) ∙ c.loop-step.invariant.1

pub loop-step-preserved : goal.loop-step-preserved
loop-step-preserved c =
    let p = c.args.problem.now in
    let node = c.go_up.new.path.node.items in
    let is : c.loop-step.path.node.items ≡ child node c.in-Some.step = c.in-Some.ensures.node.1 in
    let last : length p.leads ≤ c.in-Some.step + 1 = search rules in
    (c.close.ensures.at, ap (later p) c.close.ensures.same ∙ sym (from_last p node c.in-Some.step last) ∙ ap (later p) (sym is) ∙ c.loop-step.invariant.1)
