use Rattle.std.proofs.Common.{◌≡◌, false, not, Option, Some, None, is_some, is_none, refl, sym, ap, ◌∙◌}
use Rattle.cr_model.specs.declared.reason.Reason.{Reason}
use Rattle.cr_model.specs.Problems.{ProblemParts}
use Rattle.cr_model.specs.Dead.{dead}
use Rattle.cr_model.specs.Sizes.{most_rows}
use Rattle.cr_prune.specs.Pruners.{dies_unrung}
use Rattle.cr_explore.specs.Stacks.{is_live}
use Rattle.cr_explore.proofs.walking.lives.Goals as goal

-- the other way round
none_there : (o : Option Reason) → not (is_some o) ≡ is_none o
none_there None = refl
none_there (Some why) = refl

pub returns : goal.returns
returns c =
    let node = c.args.walk.now.node in
    let unrung : dies_unrung c.args.pruner.now.problem most_rows node ≡ false = ap (λ (p : ProblemParts). dies_unrung p most_rows node) (sym c.requires.same) ∙ c.requires.unrung in
    ap not (c.dies_rung.ensures most_rows unrung) ∙ none_there (dead c.args.pruner.now.problem most_rows node) ∙ ap (λ (p : ProblemParts). is_live p most_rows node) (sym c.requires.same)
