use Rattle.std.proofs.Common.{◌≤◌, ◌∙◌, ap, subst, arith}
use Rattle.cr_model.specs.Callings.{length_of}
use Rattle.cr_path.specs.Walks.{PathParts, room_of}
use Rattle.cr_path.proofs.Children.{part_few}
use Rattle.cr_path.proofs.walks.path.Path.length.Goals as goal

pub returns-clause-is : goal.returns-clause-is
returns-clause-is g c =
    c.from.ensures ∙ (c.last.ensures.is c.self.inside.problem.now c.self.inside.numbers c.self.inside.steps c.self.inside.next c.self.invariant.0.ends).long
    ∙ ap (λ (w : PathParts). length_of w.problem w.node) c.self.view_is

pub returns-clause-within : goal.returns-clause-within
returns-clause-within g c =
    let long = (c.last.ensures.is c.self.inside.problem.now c.self.inside.numbers c.self.inside.steps c.self.inside.next c.self.invariant.0.ends).long in
    subst (λ (w : PathParts). c.from.result ≤ room_of w.problem) c.self.view_is (omega (arith, c.from.ensures, long, c.self.invariant.0.valid.short))

pub returns-clause-few : goal.returns-clause-few
returns-clause-few g c =
    let long = (c.last.ensures.is c.self.inside.problem.now c.self.inside.numbers c.self.inside.steps c.self.inside.next c.self.invariant.0.ends).long in
    omega (arith, c.from.ensures, long, c.self.invariant.0.valid.short, part_few c.self.inside.problem.now c.self.invariant.0.sound)
