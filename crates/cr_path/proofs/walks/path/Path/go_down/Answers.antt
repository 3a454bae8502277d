use Rattle.std.proofs.Common.{◌≡◌, ◌+◌, ◌≤◌, ◌∙◌, true, false, length, refl, sym, ap, subst, arith}
use Rattle.cr_model.specs.Sizes.{most_rows, child}
use Rattle.cr_path.specs.Living.{is_live, AreCut, IsFirst}
use Rattle.cr_path.specs.Walks.{PathParts, path_from}
use Rattle.cr_path.proofs.Living.{AreDead, dead_on, one_dead_more, first_live, none_live}
use Rattle.cr_path.proofs.walks.path.Path.go_down.Goals as goal

pub loop-step-init : goal.loop-step-init
loop-step-init g c = record {
  walk = refl;
  from = omega arith;
  within = subst (λ (v : PathParts). v.next ≤ length v.problem.leads) c.self.view_is c.self.invariant.0.tried;
  dead = λ step low high. absurd (omega (arith, low, high));
}

pub returns-then-goes_live-clause-step : goal.returns-then-goes_live-clause-step
returns-then-goes_live-clause-step g c =
    let v = c.args.self.now in
    let is = c.loop-step.invariant in
    let first = subst (λ (w : PathParts). IsFirst w.problem most_rows w.node w.next c.in-Some.step) is.walk c.in-Some.ensures in
    let lives = subst (λ (w : PathParts). is_live w.problem most_rows w.node c.in-Some.step ≡ true) is.walk (sym c.if-goes_live.ensures.live) in
    first_live v.problem v.node v.next c.in-Some.step (omega (arith, is.from, first.from_on)) first.known
    (dead_on c.what_is_hopeless_by_leads_is_hopeless.ensures v.problem v.node v.next c.loop-step.self.next c.in-Some.step is.dead first.before) lives

pub returns-then-goes_live-clause-goes : goal.returns-then-goes_live-clause-goes
returns-then-goes_live-clause-goes g c =
    c.if-goes_live.ensures.path ∙ ap (λ (w : PathParts). path_from w.problem w.numbers (child w.node c.in-Some.step) 0) c.loop-step.invariant.walk

pub loop-step-smaller : goal.loop-step-smaller
loop-step-smaller g c =
    let is = c.loop-step.invariant in
    let first = subst (λ (w : PathParts). IsFirst w.problem most_rows w.node w.next c.in-Some.step) is.walk c.in-Some.ensures in
    let next : c.goes_live.new.self.next ≡ c.in-Some.step + 1 = ap (λ (w : PathParts). w.next) c.if-goes_live.ensures.path in
    omega (arith, next, first.known, first.from_on)

pub loop-step-preserved : goal.loop-step-preserved
loop-step-preserved g c =
    let v = c.args.self.now in
    let is = c.loop-step.invariant in
    let first = subst (λ (w : PathParts). IsFirst w.problem most_rows w.node w.next c.in-Some.step) is.walk c.in-Some.ensures in
    let here = subst (λ (w : PathParts). is_live w.problem most_rows w.node c.in-Some.step ≡ false) is.walk (sym c.if-goes_live.ensures.live) in
    let now : c.goes_live.new.self ≡ path_from v.problem v.numbers v.node (c.in-Some.step + 1) =
    c.if-goes_live.ensures.path ∙ ap (λ (w : PathParts). path_from w.problem w.numbers w.node (c.in-Some.step + 1)) is.walk in
    let next : c.goes_live.new.self.next ≡ c.in-Some.step + 1 = ap (λ (w : PathParts). w.next) now in
    record {
      walk = now ∙ ap (path_from v.problem v.numbers v.node) (sym next);
      from = omega (arith, next, is.from, first.from_on);
      within = omega (arith, next, first.known);
      dead = subst (AreDead v.problem v.node v.next) (sym next)
          (one_dead_more c.what_is_hopeless_by_leads_is_hopeless.ensures v.problem v.node v.next c.in-Some.step
          (dead_on c.what_is_hopeless_by_leads_is_hopeless.ensures v.problem v.node v.next c.loop-step.self.next c.in-Some.step is.dead first.before) here);
    }

pub returns-clause-step : goal.returns-clause-step
returns-clause-step g c =
    let v = c.args.self.now in
    let is = c.loop-step.invariant in
    let cut = subst (λ (w : PathParts). AreCut w.problem most_rows w.node w.next (length w.problem.leads)) is.walk c.in_default.ensures in
    none_live v.problem v.node v.next (omega (arith, is.from, is.within))
    (dead_on c.what_is_hopeless_by_leads_is_hopeless.ensures v.problem v.node v.next c.loop-step.self.next (length v.problem.leads) is.dead cut)

pub returns-clause-stays : goal.returns-clause-stays
returns-clause-stays g c = c.pass.ensures ∙ ap (λ (w : PathParts). path_from w.problem w.numbers w.node (length w.problem.leads)) c.loop-step.invariant.walk
