use Rattle.std.proofs.Common.{List, ℕ, sym, ◌∙◌, subst, append-nil}
use Rattle.std.proofs.lemmas.Bool.{false≢true}
use Rattle.cr_model.specs.Callings.{rows_of}
use Rattle.cr_query.specs.Meeting.{MeetsByRows}
use Rattle.cr_path.proofs.numbers.rotated_patterns.is_best.Goals as goal

pub returns-then-meets_patterns : goal.returns-then-meets_patterns
returns-then-meets_patterns c = (
  λ h. record {
    meets = subst (λ (steps : List ℕ). MeetsByRows c.args.problem.now (rows_of c.args.problem.now steps)) (append-nil c.args.calling.now) (c.meets_patterns.ensures.0 c.if-meets_patterns.true);
    least = c.none_is_better.ensures.0 h;
  },
  λ best. c.none_is_better.ensures.1 best.least,
)

pub returns-else-meets_patterns : goal.returns-else-meets_patterns
returns-else-meets_patterns c = (
  λ h. absurd (false≢true (sym c.if-meets_patterns.false ∙ h)),
  λ best. c.meets_patterns.ensures.1
      (subst (λ (steps : List ℕ). MeetsByRows c.args.problem.now (rows_of c.args.problem.now steps)) (sym (append-nil c.args.calling.now)) best.meets),
)
