use Rattle.std.proofs.Common.{ℕ, List, inl, inr, sym, ◌∙◌, subst, arith}
use Rattle.std.proofs.lemmas.Bool.{false≢true, cases_eq}
use Rattle.cr_audit.specs.Keeping.{IsBetter}
use Rattle.cr_audit.proofs.keeping.none_is_better.Goals as goal

pub loop-by-preserved : goal.loop-by-preserved
loop-by-preserved c = λ k some below better. elim (cases_eq k c.loop-by.by) [
  | inl here ↦
      let p = c.args.problem.now in
      let that = subst (λ (steps : List ℕ). IsBetter p steps c.loop-by.by) (sym c.steps.ensures.is) (subst (IsBetter p c.args.touch.now) here better) in
      false≢true (sym c.if-branch.false ∙ c.in_ok-is_better.ensures.1 that)
  | inr other ↦ c.loop-by.invariant k some (omega arith) better
]
