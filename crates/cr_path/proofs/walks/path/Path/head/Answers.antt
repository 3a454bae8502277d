use Rattle.std.proofs.Common.{◌∙◌, length, ap}
use Rattle.cr_model.specs.Callings.{head_of}
use Rattle.cr_path.specs.Walks.{PathParts}
use Rattle.cr_path.proofs.Children.{head_long}
use Rattle.cr_path.proofs.Places.{some_head}
use Rattle.cr_path.proofs.walks.path.Path.head.Goals as goal

pub head_at-requires : goal.head_at-requires
head_at-requires g c =
    let w = c.self.inside in
    let at_end = c.last.ensures.is w.problem.now w.numbers w.steps w.next c.self.invariant.0.ends in
    some_head w.numbers (head_of w.problem.now w.steps) c.last.result.base at_end.from

pub returns-clause-is : goal.returns-clause-is
returns-clause-is g c =
    let w = c.self.inside in
    let at_end = c.last.ensures.is w.problem.now w.numbers w.steps w.next c.self.invariant.0.ends in
    c.head_at.ensures (head_of w.problem.now w.steps) at_end.from ∙ ap (λ (v : PathParts). head_of v.problem v.node) c.self.view_is

pub returns-clause-same_stage : goal.returns-clause-same_stage
returns-clause-same_stage g c =
    let w = c.self.inside in
    let at_end = c.last.ensures.is w.problem.now w.numbers w.steps w.next c.self.invariant.0.ends in
    ap length (c.head_at.ensures (head_of w.problem.now w.steps) at_end.from)
    ∙ head_long w.problem.now w.steps
    ∙ ap (λ (v : PathParts). v.problem.stage) c.self.view_is
