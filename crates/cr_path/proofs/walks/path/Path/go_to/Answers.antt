use Rattle.std.proofs.Common.{rules, ◌≡◌, ◌<◌, length, get_or, refl, sym, subst}
use Rattle.cr_model.specs.Nodes.{IsValid}
use Rattle.cr_model.specs.Sizes.{child}
use Rattle.cr_model.specs.Sound.{IsSound}
use Rattle.cr_path.specs.Walks.{PathParts}
use Rattle.cr_path.proofs.Children.{next_valid, next_few}
use Rattle.cr_path.proofs.walks.path.Path.go_to.Goals as goal

pub go_on-requires : goal.go_on-requires
go_on-requires g c = (
  (
      search rules),
  (
    (
        let p = c.args.self.now.problem in
        let sound = subst (λ (w : PathParts). IsSound w.problem) c.self.view_is c.self.invariant.0.sound in
        subst (λ (w : PathParts). length w.node < 1024) (sym c.loop-index.invariant) (next_few p c.args.node.now c.loop-index.index sound c.requires.valid c.loop-index-test.true)),
    (
      (
          let p = c.args.self.now.problem in
          subst (λ (w : PathParts). IsValid w.problem (child w.node (get_or c.args.node.now c.loop-index.index 0))) (sym c.loop-index.invariant) (next_valid p c.args.node.now c.loop-index.index c.requires.valid c.loop-index-test.true)),
      subst (λ (w : PathParts). w.next ≡ 0) (sym c.loop-index.invariant) refl,
    ),
  ),
)
