use Rattle.std.proofs.Common.{◌+◌, ◌<◌, ◌++◌, ◌∙◌, sym, ap, arith, map, string_bytes}
use Rattle.cr_row.specs.Symbols.{symbol_of}
use Rattle.cr_notation.specs.Writing.{at_least}
use Rattle.cr_notation.proofs.Written.{first_of_change, last_of_change, place_written, place_not_written, places_written}
use Rattle.cr_notation.proofs.writer.push_places.Goals as goal
use Rattle.cr_notation.proofs.writer.push_places.Goals.{then-makes+in_ok-push_symbol, else-makes}

pub loop-place-init : goal.loop-place-init
loop-place-init c = ap (λ ps. string_bytes c.args.text.now ++ map symbol_of ps) (first_of_change c.args.change.now.stage c.args.change.now.made c.requires.is_change)

pub loop-place-preserved : goal.loop-place-preserved
loop-place-preserved c = elim c.if-makes.branch [
  | then-makes+in_ok-push_symbol w ↦
      ap (λ bytes. bytes ++ map symbol_of (at_least (c.loop-place.place + 1) c.args.change.now.made)) (ap string_bytes w.text-is ∙ w.in_ok-push_symbol.ensures)
      ∙ place_written c.args.change.now.stage c.loop-place.place c.args.change.now.made (string_bytes c.loop-place.text) _ c.requires.is_change (sym w.if-makes.ensures) c.loop-place.invariant
  | else-makes w ↦
      ap (λ bytes. bytes ++ map symbol_of (at_least (c.loop-place.place + 1) c.args.change.now.made)) (ap string_bytes w.text-is)
      ∙ place_not_written c.loop-place.place c.args.change.now.made (string_bytes c.loop-place.text) _ (sym w.if-makes.ensures) c.loop-place.invariant
]

pub returns : goal.returns
returns c =
    let high : c.args.change.now.stage < c.loop-place.place = omega arith in
    places_written c.args.change.now.made (string_bytes c.loop-place.text) (string_bytes c.args.text.now ++ map symbol_of c.args.change.now.made) (at_least c.loop-place.place c.args.change.now.made) (last_of_change c.args.change.now.stage c.loop-place.place c.args.change.now.made c.requires.is_change high) c.loop-place.invariant
