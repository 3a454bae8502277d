use Rattle.std.proofs.Common.{◌≡◌, ◌+◌, arith, length, refl, subst, below_more}
use Rattle.std.proofs.lemmas.Bool.{false≢true, both_ways}
use Rattle.cr_row.proofs.Reached.{AreReached, row_from_reached, reached_in_row}
use Rattle.cr_row.proofs.rows.is_row.Goals as goal

pub returns-then-not-has : goal.returns-then-not-has
returns-then-not-has c = (
  λ h. absurd (false≢true h),
  λ row. absurd (both_ways c.has.result c.if-not-has.true (c.has.ensures.1 (reached_in_row c.args.bells.now c.loop-bell.bell row (omega arith) (omega arith)))),
)

pub loop-bell-preserved : goal.loop-bell-preserved
loop-bell-preserved c = below_more _ _ c.loop-bell.invariant (λ low. c.has.ensures.0 c.if-not-has.false)

pub returns : goal.returns
returns c =
    let all : c.loop-bell.bell ≡ length c.args.bells.now + 1 = omega arith in
    (λ h. row_from_reached c.args.bells.now (subst (AreReached c.args.bells.now) all c.loop-bell.invariant), λ row. refl)
