use Rattle.std.proofs.Common.{◌≡◌, ℕ, inl, inr, sym, ◌∙◌, subst, arith}
use Rattle.std.proofs.lemmas.Bool.{false≢true, cases_eq}
use Rattle.cr_model.specs.Decided.{rotated}
use Rattle.cr_model.specs.Touches.{IsLess}
use Rattle.cr_audit.proofs.keeping.is_least.Goals as goal

pub loop-by-preserved : goal.loop-by-preserved
loop-by-preserved c = λ k some below less. elim (cases_eq k c.loop-by.by) [
  | inl here ↦ false≢true (sym c.if-is_less_turned.false ∙ c.is_less_turned.ensures.1 (subst (λ (n : ℕ). IsLess (rotated n c.args.steps.now) c.args.steps.now) here less))
  | inr other ↦ c.loop-by.invariant k some (omega arith) less
]
