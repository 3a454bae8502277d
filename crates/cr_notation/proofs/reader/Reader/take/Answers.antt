use Rattle.std.proofs.Common.{refl, sym, subst}
use Rattle.cr_notation.specs.Refining.{Steps, state_of}
use Rattle.cr_notation.proofs.Signs.{place_byte, other_byte}
use Rattle.cr_notation.proofs.reader.Reader.take.Goals as goal

pub returns-in-Some-clause-steps : goal.returns-in-Some-clause-steps
returns-in-Some-clause-steps c =
    let symbol = c.in-Some.ensures.is in
    subst (λ r. Steps c.take_place.result r (state_of c.take_place.new.self)) (sym (place_byte c.args.self.now.stage c.args.at c.args.byte c.in-Some.place (state_of c.args.self.now) symbol.0 symbol.1 symbol.2)) c.take_place.ensures.steps

pub returns-in-None-clause-steps : goal.returns-in-None-clause-steps
returns-in-None-clause-steps c =
    other_byte c.args.self.now.stage c.args.at c.args.byte (state_of c.args.self.now) (sym c.if-is_blank.ensures) (sym c.if-is_cross.ensures) c.if-byte-eq46.false c.if-byte-eq44.false (λ p low high e. c.in-None.ensures.none refl p low high e)
