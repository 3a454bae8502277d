use Rattle.std.proofs.Common.{◌<◌, length, ◌∙◌, subst, arith}
use Rattle.cr_model.specs.Problems.{ProblemParts}
use Rattle.cr_model.specs.Sound.{sound_steps}
use Rattle.cr_explore.proofs.walk_path.WalkPathPath.up.Goals as goal

pub overflow_add-self : goal.overflow_add-self
overflow_add-self c =
    let p = c.self.inside.problem.now in
    let inside : c.go_up-step.result < length p.leads = subst (λ (q : ProblemParts). c.go_up-step.result < length q.leads) c.self.invariant.walk_of c.go_up-step.ensures.inside in
    omega (arith, inside, sound_steps p c.stage.ensures.sound)

pub invariant_of-self : goal.invariant_of-self
invariant_of-self c =
    let p = c.self.inside.problem.now in
    let inside : c.go_up-step.result < length p.leads = subst (λ (q : ProblemParts). c.go_up-step.result < length q.leads) c.self.invariant.walk_of c.go_up-step.ensures.inside in
    record {
      table = c.self.invariant.table;
      walk_of = c.go_up-step.ensures.problem ∙ c.self.invariant.walk_of;
      pruner_of = c.self.invariant.pruner_of;
      reach = c.self.invariant.reach;
      tried = omega (arith, inside);
    }
