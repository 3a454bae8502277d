use Rattle.std.proofs.Common.{◌≡◌, ◌⊎◌, ◌↔◌, true, ℕ, List, Contains, ap, ◌∙◌, subst, sym}
use Rattle.cr_model.specs.OneTurn.{touch_of}
use Rattle.cr_model.specs.Sizes.{child}
use Rattle.cr_model.specs.Sound.{sound_leads}
use Rattle.cr_model.specs.Touches.{Kept}
use Rattle.cr_audit.specs.Dues.{dues}
use Rattle.cr_audit.specs.Touched.{callings}
use Rattle.cr_audit.proofs.Dues.{from_first}
use Rattle.cr_audit.proofs.walk.pass_open.Goals as goal

pub go_down-requires-clause-step : goal.go_down-requires-clause-step
go_down-requires-clause-step c = (sound_leads c.args.problem.now c.stage.ensures.sound).some

pub returns-clause-left : goal.returns-clause-left
returns-clause-left c =
    let p = c.args.problem.now in
    let node = c.args.walk.now.path.node.items in
    let is = c.in_ok-go_down.ensures.node ∙ ap (λ n. child n 0) c.in_ok-open.ensures.same in
    ap (dues p true) is ∙ from_first p node (sound_leads p c.stage.ensures.sound).some

pub returns-clause-found : goal.returns-clause-found
returns-clause-found c =
    let p = c.args.problem.now in
    subst (λ (node : List ℕ). (calling : List ℕ) → Contains (callings c.keep.new.touches.keys) calling
    ↔ (Contains (callings c.args.walk.now.touches.keys) calling ⊎ ((calling ≡ touch_of p node) × Kept p calling))) c.in_ok-open.ensures.same c.in_ok-keep.ensures.found
