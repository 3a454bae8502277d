use Rattle.std.proofs.Common.{rules, ◌≡◌, ◌+◌, ◌<◌, ◌∙◌, false, not, length, sym, ap, subst}
use Rattle.cr_model.specs.Nodes.{IsValid}
use Rattle.cr_model.specs.Sizes.{most_rows, child}
use Rattle.cr_query.specs.Meters.{is_hopeless_by_leads}
use Rattle.cr_path.specs.Living.{is_hopeless, IsFirst}
use Rattle.cr_path.specs.Sets.{AreUncut}
use Rattle.cr_path.specs.Walks.{PathParts}
use Rattle.cr_path.proofs.Living.{uncut_differs, uncut_hopes, uncut_valid, uncut_few, uncut_lives}
use Rattle.cr_path.proofs.Uncut.{few_steps, left_without}
use Rattle.cr_path.proofs.walks.path.Path.goes_live.Goals as goal

pub go-requires : goal.go-requires
go-requires g c = (
  (
      search rules),
  (
    (
        let w = c.self.inside in
        let first = subst (λ (v : PathParts). IsFirst v.problem most_rows v.node v.next c.args.step) (sym c.self.view_is) c.requires in
        subst (λ (v : PathParts). length v.node < 1024) c.self.view_is (uncut_few w.problem.now most_rows w.steps c.args.step first.uncut c.self.invariant.0.sound c.self.invariant.0.valid first.known)),
    (
      (
          let w = c.self.inside in
          let first = subst (λ (v : PathParts). IsFirst v.problem most_rows v.node v.next c.args.step) (sym c.self.view_is) c.requires in
          subst (λ (v : PathParts). IsValid v.problem (child v.node c.args.step)) c.self.view_is (uncut_valid w.problem.now most_rows w.steps c.args.step first.uncut c.self.invariant.0.valid first.known)),
      (
        (
            uncut_differs c.args.self.now.problem most_rows c.args.self.now.node c.args.step c.requires.uncut),
        (
            let w = c.self.inside in
            let p = w.problem.now in
            let first = subst (λ (v : PathParts). IsFirst v.problem most_rows v.node v.next c.args.step) (sym c.self.view_is) c.requires in
            subst (λ (v : PathParts). AreUncut v.problem v.node (c.args.step + 1) c.without_step-left.result) c.self.view_is
            (left_without p w.steps w.next c.last.result.left (few_steps p c.self.invariant.0.sound) (c.last.ensures.left p w.numbers w.steps w.next c.self.invariant.0.ends)
            c.args.step c.without_step-left.result first c.without_step-left.ensures.is c.without_step-left.ensures.others)),
      ),
    ),
  ),
)

pub is_hopeless-requires : goal.is_hopeless-requires
is_hopeless-requires g c = (
  (
      search rules),
  (
      subst (λ (v : PathParts). is_hopeless_by_leads v.problem v.node ≡ false) (sym c.go.ensures) (uncut_hopes c.args.self.now.problem most_rows c.args.self.now.node c.args.step c.requires.uncut)),
)

pub returns-then-is_hopeless-clause-live : goal.returns-then-is_hopeless-clause-live
returns-then-is_hopeless-clause-live g c =
    let p = c.args.self.now.problem in
    let hopeless = ap (λ (v : PathParts). is_hopeless v.problem v.node) c.go.ensures in
    sym (uncut_lives c.what_is_hopeless_by_leads_is_hopeless.ensures p most_rows (child c.args.self.now.node c.args.step) c.requires.uncut
    ∙ ap not (sym hopeless ∙ sym c.is_hopeless.ensures ∙ c.if-is_hopeless.true))

pub returns-clause-live : goal.returns-clause-live
returns-clause-live g c =
    let p = c.args.self.now.problem in
    let hopeless = ap (λ (v : PathParts). is_hopeless v.problem v.node) c.go.ensures in
    sym (uncut_lives c.what_is_hopeless_by_leads_is_hopeless.ensures p most_rows (child c.args.self.now.node c.args.step) c.requires.uncut
    ∙ ap not (sym hopeless ∙ sym c.is_hopeless.ensures ∙ c.if-is_hopeless.false))
