use Rattle.std.proofs.Common.{◌≡◌, length, sym, subst, arith}
use Rattle.cr_path.specs.Sets.{AreUncut}
use Rattle.cr_path.specs.Walks.{PathParts}
use Rattle.cr_path.proofs.Uncut.{none_left}
use Rattle.cr_path.proofs.Walking.{stayed}
use Rattle.cr_path.proofs.walks.path.Path.pass.Goals as goal

pub invariant_of-self : goal.invariant_of-self
invariant_of-self g c =
    let w = c.self.inside in
    let p = w.problem.now in
    let t = w.numbers in
    let all : c.step_count-self-inside.result ≡ length p.leads = subst (λ (v : PathParts). c.step_count-self-inside.result ≡ length v.problem.leads) (sym c.self.view_is) c.step_count-self-inside.ensures.is in (
      stayed p w.leads.now t w.steps w.next w.ends w.marks.marks w.marks.unmarked w.counting.value w.turn_free c.self.invariant.0 c.step_count-self-inside.result c.keep_left.new.self (omega (arith, all))
          (c.keep_left.ensures p t w.steps w.next c.step_count-self-inside.result c.self.invariant.0.ends (subst (λ n. AreUncut p w.steps n c.no_steps.result) (sym all) (none_left p w.steps c.no_steps.result c.no_steps.ensures))),
      c.self.invariant.1,
      c.self.invariant.2,
      c.self.invariant.3,
    )
