use Rattle.std.proofs.Common.{rules, ◌≡◌, ◌+◌, sym, subst, arith}
use Rattle.cr_model.specs.Nodes.{IsValid}
use Rattle.cr_model.specs.Sizes.{child}
use Rattle.cr_path.specs.Sets.{AreUncut}
use Rattle.cr_path.specs.Walks.{PathParts}
use Rattle.cr_path.proofs.Uncut.{few_steps, left_above}
use Rattle.cr_path.proofs.Walking.{step_known}
use Rattle.cr_path.proofs.walks.path.Path.go_on.Goals as goal

pub go-requires : goal.go-requires
go-requires g c = (
  (
      search rules),
  (
    c.requires.few,
    (
      c.requires.valid,
      (
        c.brings_new_rows-is_new.ensures,
        (
            let w = c.self.inside in
            let p = w.problem.now in
            let valid = subst (λ (v : PathParts). IsValid v.problem (child v.node c.args.step)) (sym c.self.view_is) c.requires.valid in
            let begun : w.next ≡ 0 = subst (λ (v : PathParts). v.next ≡ 0) (sym c.self.view_is) c.requires.begun in
            subst (λ (v : PathParts). AreUncut v.problem v.node (c.args.step + 1) c.without_below-left.result) c.self.view_is
            (left_above p w.steps w.next c.last.result.left (few_steps p c.self.invariant.0.sound) (c.last.ensures.left p w.numbers w.steps w.next c.self.invariant.0.ends)
            (c.args.step + 1) c.without_below-left.result (omega (arith, begun)) (omega (arith, step_known p w.steps c.args.step valid)) c.without_below-left.ensures.below c.without_below-left.ensures.others)),
      ),
    ),
  ),
)
