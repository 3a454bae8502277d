use Rattle.std.proofs.Common.{◌<◌, ◌∙◌, sym, ap, arith}
use Rattle.cr_notation.specs.Writing.{has_places}
use Rattle.cr_notation.proofs.Written.{first_of_change, place_left_out, last_of_change}
use Rattle.cr_notation.proofs.writer.makes_some.Goals as goal

pub loop-place-init : goal.loop-place-init
loop-place-init c = first_of_change c.args.change.now.stage c.args.change.now.made c.stage.ensures.is_change

pub loop-place-preserved : goal.loop-place-preserved
loop-place-preserved c = sym (place_left_out c.loop-place.place c.args.change.now.made (sym c.if-makes.ensures)) ∙ c.loop-place.invariant

pub returns-clause-is : goal.returns-clause-is
returns-clause-is c =
    let high : c.args.change.now.stage < c.loop-place.place = omega arith in
    ap has_places (sym (last_of_change c.args.change.now.stage c.loop-place.place c.args.change.now.made c.stage.ensures.is_change high) ∙ c.loop-place.invariant)
