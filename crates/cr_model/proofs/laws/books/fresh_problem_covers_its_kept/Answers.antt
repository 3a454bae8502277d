use Rattle.std.proofs.Common.{zero, refl, inr, [], arith}
use Rattle.cr_model.proofs.laws.books.fresh_problem_covers_its_kept.Goals as goal

pub returns : goal.returns
returns c = λ p calling. (λ covered. covered.kept, λ kept. record { kept = kept; reached = inr ([], (zero, omega arith, refl), refl) })
