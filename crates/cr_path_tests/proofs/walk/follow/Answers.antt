use Rattle.std.proofs.Common.{List, ℕ, rules, sym, subst}
use Rattle.cr_model.specs.Nodes.{IsValid}
use Rattle.cr_model.specs.Problems.{ProblemParts}
use Rattle.cr_path_tests.proofs.walk.follow.Goals as goal

pub go_to-requires : goal.go_to-requires
go_to-requires c = (
  search rules,
  subst (λ (p : ProblemParts). IsValid p c.steps.result.now) (sym c.requires)
      (subst (λ (word : List ℕ). IsValid c.args.walk.now.problem word) (sym c.steps.ensures.is) c.steps.ensures.valid),
)
