use Rattle.std.proofs.Common.{◌∙◌, length, ap, sym}
use Rattle.cr_row.specs.Rows.{product}
use Rattle.cr_model.specs.Problems.{ProblemParts}
use Rattle.cr_model.specs.Callings.{head_of}
use Rattle.cr_model.specs.Queries.{repeated}
use Rattle.cr_prune.proofs.Limits.{head_long}
use Rattle.cr_prune.proofs.Past.{repeated_on}
use Rattle.cr_prune_tests.proofs.tests.trees.comes_round.Goals as goal

pub times-row-requires : goal.times-row-requires
times-row-requires c =
    ap length c.loop-part.invariant ∙ head_long c.args.problem.now (repeated c.loop-part._part c.args.walk.now.node)
    ∙ sym (c.head-head.ensures.same_stage ∙ ap (λ (p : ProblemParts). p.stage) c.requires)

pub loop-part-preserved : goal.loop-part-preserved
loop-part-preserved c =
    let p = c.args.problem.now in
    let node = c.args.walk.now.node in
    let part = c.loop-part._part in
    c.times-row.ensures.is
    ∙ (λ i. product (c.loop-part.invariant i) ((c.head-head.ensures.is ∙ ap (λ (q : ProblemParts). head_of q node) c.requires) i))
    ∙ sym (c.joined_callings_multiply.ensures.head p (repeated part node) node) ∙ ap (head_of p) (sym (repeated_on part node))
