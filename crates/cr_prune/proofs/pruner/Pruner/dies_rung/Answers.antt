use Rattle.std.proofs.Common.{◌||◌, refl, sym, ap, ◌∙◌}
use Rattle.cr_model.specs.Problems.{ProblemParts}
use Rattle.cr_model.specs.Dead.{is_too_many, is_too_few}
use Rattle.cr_prune.proofs.Reasons.{dead_by_rest}
use Rattle.cr_prune.proofs.pruner.Pruner.dies_rung.Goals as goal

pub returns-then-is_cut_by_rows : goal.returns-then-is_cut_by_rows
returns-then-is_cut_by_rows c most lives =
    let p = c.args.self.now.problem in
    let node = c.args.walk.now.node in
    let hopeless = is_too_many p node || is_too_few p node in
    c.if-is_cut_by_rows.true ∙ sym (ap (λ b. b || hopeless) c.if-is_cut_by_rows.true)
    ∙ dead_by_rest p most node c.is_cut_by_rows.result hopeless lives c.is_cut_by_rows.ensures refl

pub returns-else-is_cut_by_rows : goal.returns-else-is_cut_by_rows
returns-else-is_cut_by_rows c most lives =
    let node = c.args.walk.now.node in
    sym (ap (λ b. b || c.is_hopeless.result) c.if-is_cut_by_rows.false)
    ∙ dead_by_rest c.args.self.now.problem most node c.is_cut_by_rows.result c.is_hopeless.result lives c.is_cut_by_rows.ensures
    (c.is_hopeless.ensures ∙ ap (λ (p : ProblemParts). is_too_many p node || is_too_few p node) c.requires.same)
