use Rattle.std.proofs.Common.{◌≡◌, ◌∙◌, ℕ, length, sym, ap, subst, arith}
use Rattle.std.proofs.lemmas.List.Elements.{All-weaker}
use Rattle.cr_model.specs.Queries.{rows_fitting}
use Rattle.cr_model.specs.Right.{FitsStage}
use Rattle.cr_query.specs.Shapes.{ShapeParts, shape_of}
use Rattle.cr_query.proofs.Sizes.{part_cap_short}
use Rattle.cr_log.proofs.Places.{rows_long, rows_few}
use Rattle.cr_log.proofs.items.fitting.Goals as goal

pub rows_fitting-requires : goal.rows_fitting-requires
rows_fitting-requires c =
    All-weaker (λ row. length row ≡ c.args.problem.now.stage) (λ row. length row ≡ c.args.shape.now.stage) (λ row h. h ∙ sym (ap (λ (s : ShapeParts). s.stage) c.requires.shape))
    c.args.rows.now.rows (rows_long c.args.problem.now c.args.node.now c.args.rows.now c.requires.at)

pub returns-clause-is : goal.returns-clause-is
returns-clause-is c =
    let stage : c.args.problem.now.stage ≡ c.args.shape.now.stage = sym (ap (λ (s : ShapeParts). s.stage) c.requires.shape) in
    c.rows_fitting.ensures.is c.args.pattern.now.cells (subst (λ (n : ℕ). FitsStage n c.args.pattern.now.cells) stage c.requires.cells)
    (c.requires.shape ∙ ap (λ (n : ℕ). shape_of n c.args.pattern.now.cells) stage)
    ∙ ap (rows_fitting c.args.pattern.now.cells) c.requires.at.rows

pub returns-clause-few : goal.returns-clause-few
returns-clause-few c =
    omega (arith, c.rows_fitting.ensures.few, rows_few c.args.problem.now c.args.node.now c.args.rows.now c.requires.at, part_cap_short c.args.problem.now c.requires.at.sound)
