-- Another last line, and something after it.
use Rattle.std.proofs.Common.{length, sym, ◌∙◌}
use Rattle.cr_store.proofs.ShapeBytes.{some_left}
use Rattle.cr_store.proofs.ShapeStops.{end_wrong, end_passed}
use Rattle.cr_store.proofs.shape.end_part.Goals as goal

pub returns-in-Some-2-clause-stops : goal.returns-in-Some-2-clause-stops
returns-in-Some-2-clause-stops c = end_passed c.args.text.now c.in-Some.rest.now c.in-Some.ensures.some
    (some_left (length c.in-Some.rest.now) (sym c.is_empty.ensures ∙ c.if-is_empty.false))

pub returns-in-None-clause-stops : goal.returns-in-None-clause-stops
returns-in-None-clause-stops c = end_wrong c.args.text.now c.in-None.ensures.none
