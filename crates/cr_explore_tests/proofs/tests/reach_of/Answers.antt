use Rattle.std.proofs.Common.{◌≡◌, refl, sym, ap, ◌∙◌}
use Rattle.cr_model.specs.Sizes.{most_rows}
use Rattle.cr_reach.specs.Tables.{reach_table}
use Rattle.cr_explore_tests.proofs.tests.reach_of.Goals as goal

-- the number of rows
all_rows : most_rows ≡ 200000
unfolding most_rows
all_rows = refl

pub returns : goal.returns
returns c = c.in_ok-reach.ensures c.args.problem.now c.requires ∙ ap (reach_table c.args.problem.now) (sym all_rows)
