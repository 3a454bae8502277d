use Rattle.std.proofs.Common.{sym, subst, arith}
use Rattle.cr_path.specs.Sets.{AreUncut}
use Rattle.cr_path.specs.Walks.{PathParts}
use Rattle.cr_path.proofs.Walking.{stayed}
use Rattle.cr_path.proofs.walks.path.Path.begin.Goals as goal

pub invariant_of-self : goal.invariant_of-self
invariant_of-self g c =
    let w = c.self.inside in
    let p = w.problem.now in
    let t = w.numbers in (
      stayed p w.leads.now t w.steps w.next w.ends w.marks.marks w.marks.unmarked w.counting.value w.turn_free c.self.invariant.0 0 c.keep_left.new.self (omega arith)
          (c.keep_left.ensures p t w.steps w.next 0 c.self.invariant.0.ends (subst (λ (v : PathParts). AreUncut v.problem v.node 0 c.find_uncut-uncut.result) (sym c.self.view_is) c.find_uncut-uncut.ensures)),
      c.self.invariant.1,
      c.self.invariant.2,
      c.self.invariant.3,
    )
