use Rattle.std.proofs.Common.{All, refl, sym, ap, ◌∙◌, subst, arith}
use Rattle.std.proofs.lemmas.Bool.{false≢true}
use Rattle.std.proofs.lemmas.List.{take_all}
use Rattle.cr_query.specs.Gauges.{IsIn}
use Rattle.cr_query.specs.Tallies.{at_front, gauges_at}
use Rattle.cr_query.proofs.Stacks.{at_item, all_more}
use Rattle.cr_query.proofs.tallies.all_in.Goals as goal

pub loop-index-preserved : goal.loop-index-preserved
loop-index-preserved c =
    all_more IsIn (at_front c.args.front) c.args.tallies.now c.loop-index.index c.index-tallies-index.result (omega arith) c.index-tallies-index.is c.loop-index.invariant
    (subst IsIn c.at.ensures (c.is_in.ensures.0 c.if-not-is_in.false))

pub returns-then-not-is_in : goal.returns-then-not-is_in
returns-then-not-is_in c = (
  λ h. absurd (false≢true h),
  λ all. absurd (false≢true (sym c.if-not-is_in.true ∙ c.is_in.ensures.1
      (subst IsIn (sym c.at.ensures) (at_item IsIn (at_front c.args.front) c.args.tallies.now c.loop-index.index c.index-tallies-index.result (omega arith) c.index-tallies-index.is all)))),
)

pub returns : goal.returns
returns c = (
  λ _. subst (All IsIn) (ap (gauges_at c.args.front) (take_all c.loop-index.index c.args.tallies.now (omega arith))) c.loop-index.invariant,
  λ _. refl,
)
