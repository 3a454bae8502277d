use Rattle.std.proofs.Common.{◌∙◌, sym}
use Rattle.cr_notation.specs.Refining.{state_of}
use Rattle.cr_notation.proofs.Taken.{cross_taken}
use Rattle.cr_notation.proofs.reader.Reader.take_cross.Goals as goal

pub returns-clause-steps : goal.returns-clause-steps
returns-clause-steps c =
    cross_taken c.args.self.now.stage c.args.at (state_of c.args.self.now) (state_of c.close.new.self) c.in-Some.cross c.add.new.self (sym c.requires.cross ∙ c.in-Some.is) c.in_ok-close.ensures.closed c.in_ok-add.ensures
