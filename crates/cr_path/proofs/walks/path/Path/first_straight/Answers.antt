use Rattle.std.proofs.Common.{◌≡◌, ◌∙◌, ◌<◌, ◌≤◌, true, false, sym, subst, arith}
use Rattle.std.specs.Prelude.{min}
use Rattle.cr_model.specs.Dead.{is_turned_back}
use Rattle.cr_model.specs.Sizes.{child}
use Rattle.cr_path.specs.Walks.{PathParts}
use Rattle.cr_path.proofs.Turns.{is_turned, is_straight}
use Rattle.cr_path.proofs.walks.path.Path.first_straight.Goals as goal

pub returns-in-Some-clause-turned : goal.returns-in-Some-clause-turned
returns-in-Some-clause-turned g c step below =
    let w = c.self.inside in
    let least : c.min.result ≡ min c.in-Some.step c.step_count-count.result = c.min.ensures in
    let less : step < c.in-Some.step = omega (arith, least, below) in
    subst (λ (v : PathParts). is_turned_back v.problem (child v.node step) ≡ true) c.self.view_is
    (is_turned w.problem.now (child w.steps step) (sym c.self.invariant.0.free ∙ c.if-not-self.false) ((c.in-Some.ensures step).1 less))

pub returns-in-Some-clause-straight : goal.returns-in-Some-clause-straight
returns-in-Some-clause-straight g c step from known =
    let w = c.self.inside in
    let least : c.min.result ≡ min c.in-Some.step c.step_count-count.result = c.min.ensures in
    let more : c.in-Some.step ≤ step = omega (arith, least, from, known, c.step_count-count.ensures.is) in
    subst (λ (v : PathParts). is_turned_back v.problem (child v.node step) ≡ false) c.self.view_is
    (is_straight w.problem.now (child w.steps step) (sym c.self.invariant.0.free ∙ c.if-not-self.false) (λ turned. absurd (omega (arith, more, (c.in-Some.ensures step).0 turned))))

pub returns-in-None-clause-turned : goal.returns-in-None-clause-turned
returns-in-None-clause-turned g c step below =
    let w = c.self.inside in
    subst (λ (v : PathParts). is_turned_back v.problem (child v.node step) ≡ true) c.self.view_is
    (is_turned w.problem.now (child w.steps step) (sym c.self.invariant.0.free ∙ c.if-not-self.false) ((c.in-None.ensures step).1 tt))
