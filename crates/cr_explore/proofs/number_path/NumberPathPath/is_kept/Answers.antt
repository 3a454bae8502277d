use Rattle.std.proofs.Common.{ℕ, List, ◌≡◌, Bool, IfOk, sym, ap, ap₂, ◌∙◌, subst}
use Rattle.cr_model.specs.Problems.{ProblemParts}
use Rattle.cr_model.specs.Decided.{is_kept}
use Rattle.cr_model.specs.OneTurn.{touch_of}
use Rattle.cr_path.specs.Walks.{WalkParts}
use Rattle.cr_explore.proofs.OneTest.{in_result}
use Rattle.cr_explore.proofs.number_path.NumberPathPath.is_kept.Goals as goal

pub returns : goal.returns
returns g c =
    let p = c.self.inside.problem.now in
    let node = c.self.inside.walk.node in
    let problem : p ≡ c.args.self.now.problem = sym c.self.invariant.walk_of ∙ ap (λ (w : WalkParts). w.problem) c.self.view_is in
    let here : is_kept p (touch_of p node) ≡ is_kept c.args.self.now.problem (touch_of c.args.self.now.problem c.args.self.now.node) =
    ap₂ (λ (q : ProblemParts) (n : List ℕ). is_kept q (touch_of q n)) problem (ap (λ (w : WalkParts). w.node) c.self.view_is) in
    subst (λ (b : Bool). IfOk c.is_numbered_touch_kept.result (λ kept. kept ≡ b)) here
    (in_result c.is_numbered_touch_kept.result (is_kept p (touch_of p node)) _ c.is_numbered_touch_kept.ensures (c.a_test_decides_what_is_kept.ensures p (touch_of p node)))
