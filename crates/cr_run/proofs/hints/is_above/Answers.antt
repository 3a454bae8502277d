use Rattle.std.proofs.Common.{ℕ, Option, subst}
use Rattle.std.proofs.lemmas.Bool.{ltb-true}
use Rattle.cr_run.specs.Keys.{IsLast}
use Rattle.cr_run.proofs.Above.{above_all}
use Rattle.cr_run.proofs.hints.is_above.Goals as goal

pub returns-in-Some : goal.returns-in-Some
returns-in-Some c = λ low put h. above_all c.in-Some.last c.args.number put (ltb-true c.in-Some.last c.args.number low) (subst (λ (o : Option ℕ). IsLast o put) c.in-Some.is h)
