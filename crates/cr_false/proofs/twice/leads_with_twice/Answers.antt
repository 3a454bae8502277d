use Rattle.std.proofs.Common.{◌+◌, ◌↔◌, ℕ, Bool, List, subst, sym}
use Rattle.std.specs.Prelude.{IsTrue}
use Rattle.std.specs.List.{AllZip, range_with_len}
use Rattle.cr_false.specs.Sets.{HasTwice, TellsTwice}
use Rattle.cr_false.proofs.Tables.{one_more_told}
use Rattle.cr_false.proofs.twice.leads_with_twice.Goals as goal

pub loop-step-preserved : goal.loop-step-preserved
loop-step-preserved c =
    let table = c.args.leads.now in
    let step = c.loop-step.step in
    let answer = c.in_ok-has_twice.field-0 in
    subst (λ (twice : List Bool). AllZip (TellsTwice table) (range_with_len 0 (step + 1)) twice) (sym c.in_ok-push.ensures.items)
    (one_more_told table step c.loop-step.twice.items answer c.loop-step.invariant
    (subst (λ (rows : List (List ℕ)). IsTrue answer ↔ HasTwice rows) c.rows_of.ensures.is c.in_ok-has_twice.ensures))
