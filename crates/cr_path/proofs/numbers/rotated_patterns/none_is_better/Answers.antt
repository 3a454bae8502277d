use Rattle.std.proofs.Common.{ℕ, inl, inr, sym, ◌∙◌, subst, arith}
use Rattle.std.proofs.lemmas.Bool.{false≢true, cases_eq}
use Rattle.cr_model.specs.Callings.{rows_of}
use Rattle.cr_model.specs.Decided.{rotated}
use Rattle.cr_model.specs.Touches.{IsLess}
use Rattle.cr_query.specs.Meeting.{MeetsByRows}
use Rattle.cr_path.proofs.numbers.rotated_patterns.none_is_better.Goals as goal

pub loop-by-preserved : goal.loop-by-preserved
loop-by-preserved c = λ k some below less rows. elim (cases_eq k c.loop-by.by) [
  | inl here ↦
      let by : ℕ = c.loop-by.by in
      false≢true (sym c.if-is_better.false ∙ c.is_better.ensures.1 (
        subst (λ (n : ℕ). IsLess (rotated n c.args.calling.now) c.args.calling.now) here less,
        subst (λ (n : ℕ). MeetsByRows c.args.problem.now (rows_of c.args.problem.now (rotated n c.args.calling.now))) here rows,
      ))
  | inr other ↦ c.loop-by.invariant k some (omega arith) less rows
]
