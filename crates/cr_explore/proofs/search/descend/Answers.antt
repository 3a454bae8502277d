use Rattle.std.proofs.Common.{◌≡◌, length, refl, sym, ap, ◌∙◌, subst}
use Rattle.cr_model.specs.Problems.{ProblemParts}
use Rattle.cr_model.specs.Sizes.{most_rows}
use Rattle.cr_explore.specs.Stacks.{place_at, stack_of, IsPlace, IsTaken, IsPathEnded}
use Rattle.cr_explore.proofs.Places.{dry_is_place, up_has_steps, up_is_place, up_shorter, up_same, path_ended, down_is_place, down_taken}
use Rattle.cr_explore.proofs.search.descend.Goals as goal

pub returns-then-node-base-clause-place : goal.returns-then-node-base-clause-place
returns-then-node-base-clause-place g c =
    subst (λ (p : ProblemParts). IsPlace p (place_at 0 c.args.base (g.P.Path.next_of c.down.new.self)) (g.P.Path.node_of c.down.new.self)) (sym c.down.ensures.problem)
    (dry_is_place (g.P.Path.problem_of c.loop-path.path) most_rows c.args.base (g.P.Path.next_of c.loop-path.path) (g.P.Path.node_of c.loop-path.path) (g.P.Path.node_of c.down.new.self) (g.P.Path.next_of c.down.new.self) c.down.result c.loop-path.invariant.place c.down.ensures.step
    c.loop-path-test.ensures c.down.ensures.stays)

pub returns-then-node-base-clause-ends : goal.returns-then-node-base-clause-ends
returns-then-node-base-clause-ends g c = λ _ left job.
    let stack = subst (λ (p : ProblemParts). stack_of p most_rows job (place_at left c.args.base (g.P.Path.next_of c.args.path.now)) (g.P.Path.node_of c.args.path.now) ≡ stack_of p most_rows job (place_at left c.args.base (g.P.Path.next_of c.loop-path.path)) (g.P.Path.node_of c.loop-path.path))
    (sym c.loop-path.invariant.problem) (c.loop-path.invariant.stack left job) in
    let here : length (g.P.Path.node_of c.down.new.self) ≡ c.args.base = sym (ap length c.node.ensures) ∙ c.if-node-base.true in
    subst (λ (p : ProblemParts). IsPathEnded p most_rows job (place_at left c.args.base (g.P.Path.next_of c.args.path.now)) (g.P.Path.node_of c.args.path.now) (place_at left c.args.base (g.P.Path.next_of c.down.new.self)) (g.P.Path.node_of c.down.new.self)) c.loop-path.invariant.problem
    (path_ended (g.P.Path.problem_of c.loop-path.path) most_rows c.args.base (g.P.Path.next_of c.loop-path.path) (g.P.Path.node_of c.loop-path.path) (g.P.Path.node_of c.down.new.self) (g.P.Path.next_of c.down.new.self) c.down.result c.loop-path.invariant.place c.down.ensures.step
    c.loop-path-test.ensures c.down.ensures.stays
    left job (place_at left c.args.base (g.P.Path.next_of c.args.path.now)) (g.P.Path.node_of c.args.path.now) stack refl here)

pub up-requires : goal.up-requires
up-requires g c = up_has_steps (g.P.Path.problem_of c.loop-path.path) most_rows c.args.base (g.P.Path.next_of c.loop-path.path) (g.P.Path.node_of c.loop-path.path) (g.P.Path.node_of c.down.new.self) (g.P.Path.next_of c.down.new.self) c.down.result c.loop-path.invariant.place c.down.ensures.step
    c.loop-path-test.ensures c.down.ensures.stays (λ e. c.if-node-base.false (ap length c.node.ensures ∙ e))

pub loop-path-smaller : goal.loop-path-smaller
loop-path-smaller g c = up_shorter (g.P.Path.problem_of c.loop-path.path) most_rows c.args.base (g.P.Path.next_of c.loop-path.path) (g.P.Path.node_of c.loop-path.path) (g.P.Path.node_of c.down.new.self) (g.P.Path.next_of c.down.new.self) c.down.result c.loop-path.invariant.place c.down.ensures.step
    c.loop-path-test.ensures c.down.ensures.stays (g.P.Path.node_of c.up.new.self) c.up.result (g.P.Path.next_of c.up.new.self) c.up.ensures.node c.up.ensures.next

pub loop-path-preserved : goal.loop-path-preserved
loop-path-preserved g c =
    let above = g.P.Path.node_of c.up.new.self in
    let problem : g.P.Path.problem_of c.up.new.self ≡ g.P.Path.problem_of c.loop-path.path = c.up.ensures.problem ∙ c.down.ensures.problem in
    let other : (length (g.P.Path.node_of c.down.new.self) ≡ c.args.base → ⊥) = λ e. c.if-node-base.false (ap length c.node.ensures ∙ e) in
    record {
      problem = problem ∙ c.loop-path.invariant.problem;
      place = subst (λ (p : ProblemParts). IsPlace p (place_at 0 c.args.base (g.P.Path.next_of c.up.new.self)) above) (sym problem)
          (up_is_place (g.P.Path.problem_of c.loop-path.path) most_rows c.args.base (g.P.Path.next_of c.loop-path.path) (g.P.Path.node_of c.loop-path.path) (g.P.Path.node_of c.down.new.self) (g.P.Path.next_of c.down.new.self) c.down.result c.loop-path.invariant.place c.down.ensures.step
          c.loop-path-test.ensures c.down.ensures.stays (g.P.Path.node_of c.up.new.self) c.up.result (g.P.Path.next_of c.up.new.self) c.up.ensures.node c.up.ensures.next other);
      stack = λ left job. c.loop-path.invariant.stack left job
          ∙ subst (λ (p : ProblemParts). stack_of p most_rows job (place_at left c.args.base (g.P.Path.next_of c.loop-path.path)) (g.P.Path.node_of c.loop-path.path) ≡ stack_of p most_rows job (place_at left c.args.base (g.P.Path.next_of c.up.new.self)) above) c.loop-path.invariant.problem
          (up_same (g.P.Path.problem_of c.loop-path.path) most_rows c.args.base (g.P.Path.next_of c.loop-path.path) (g.P.Path.node_of c.loop-path.path) (g.P.Path.node_of c.down.new.self) (g.P.Path.next_of c.down.new.self) c.down.result c.loop-path.invariant.place c.down.ensures.step
          c.loop-path-test.ensures c.down.ensures.stays (g.P.Path.node_of c.up.new.self) c.up.result (g.P.Path.next_of c.up.new.self) c.up.ensures.node c.up.ensures.next other left job);
    }

pub returns-clause-place : goal.returns-clause-place
returns-clause-place g c =
    subst (λ (p : ProblemParts). IsPlace p (place_at 0 c.args.base (g.P.Path.next_of c.down.new.self)) (g.P.Path.node_of c.down.new.self)) (sym c.down.ensures.problem)
    (down_is_place (g.P.Path.problem_of c.loop-path.path) most_rows c.args.base (g.P.Path.next_of c.loop-path.path) (g.P.Path.node_of c.loop-path.path) (g.P.Path.node_of c.down.new.self) (g.P.Path.next_of c.down.new.self) c.down.result c.loop-path.invariant.place c.down.ensures.step
    c.loop-path-test.ensures c.down.ensures.goes (λ node step. c.a_child_is_longer.ensures.valid (g.P.Path.problem_of c.loop-path.path) most_rows node step))

pub returns-clause-goes : goal.returns-clause-goes
returns-clause-goes g c = λ _ left job.
    let stack = subst (λ (p : ProblemParts). stack_of p most_rows job (place_at left c.args.base (g.P.Path.next_of c.args.path.now)) (g.P.Path.node_of c.args.path.now) ≡ stack_of p most_rows job (place_at left c.args.base (g.P.Path.next_of c.loop-path.path)) (g.P.Path.node_of c.loop-path.path))
    (sym c.loop-path.invariant.problem) (c.loop-path.invariant.stack left job) in
    subst (λ (p : ProblemParts). IsTaken p most_rows job (place_at left c.args.base (g.P.Path.next_of c.args.path.now)) (g.P.Path.node_of c.args.path.now) (place_at left c.args.base (g.P.Path.next_of c.down.new.self)) (g.P.Path.node_of c.down.new.self)) c.loop-path.invariant.problem
    (down_taken (g.P.Path.problem_of c.loop-path.path) most_rows c.args.base (g.P.Path.next_of c.loop-path.path) (g.P.Path.node_of c.loop-path.path) (g.P.Path.node_of c.down.new.self) (g.P.Path.next_of c.down.new.self) c.down.result c.loop-path.invariant.place c.down.ensures.step
    c.loop-path-test.ensures c.down.ensures.goes
    left job (place_at left c.args.base (g.P.Path.next_of c.args.path.now)) (g.P.Path.node_of c.args.path.now) stack)
