use Rattle.std.proofs.Common.{◌<◌, ◌++◌, ℕ, List, length, sym, ap, ap₂, ◌∙◌, arith}
use Rattle.cr_model.specs.declared.query.Cell.{Cell}
use Rattle.cr_model.specs.Problems.{PatternParts}
use Rattle.cr_query.specs.Shapes.{shape_of}
use Rattle.cr_path.specs.Numbers.{leads_fitting}
use Rattle.cr_path.proofs.Fitting.{pieces_more}
use Rattle.cr_path.proofs.numbers.rung_patterns.fitting_of.Goals as goal

pub loop-head-preserved : goal.loop-head-preserved
loop-head-preserved c =
    let f : List ℕ → List ℕ = leads_fitting c.args.leads.now c.args.pattern.now.cells in
    let inside : c.loop-head.head-index < length c.args.heads.now = omega (arith, c.loop-head-test.true) in
    c.in_ok-add_leads.ensures c.args.pattern.now.cells c.requires.cells (c.in_ok-shape.ensures ∙ ap₂ (λ (n : ℕ) (cells : List Cell). shape_of n cells) c.stage.ensures (c.deref.ensures.value ∙ ap (λ (q : PatternParts). q.cells) c.pattern.view_is))
    ∙ ap (λ (xs : List ℕ). xs ++ f c.head-item.result) c.loop-head.invariant
    ∙ sym (pieces_more f c.args.heads.now c.loop-head.head-index c.head-item.result inside c.head-item.is)
