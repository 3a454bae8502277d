use Rattle.std.proofs.Common.{◌∙◌, ap}
use Rattle.cr_notation.specs.Reading.{kept_read, comma_step}
use Rattle.cr_notation.specs.Refining.{state_of}
use Rattle.cr_notation.proofs.Taken.{comma_taken, comma_ends}
use Rattle.cr_notation.proofs.reader.Reader.take_comma.Goals as goal

pub returns-clause-steps : goal.returns-clause-steps
unfolding comma_step
returns-clause-steps c =
    ap kept_read (comma_ends c.args.self.now.stage c.args.self.now.last (state_of c.args.self.now) c.args.at c.in_default-last.not-Nothing (λ d is. c.in_default.not-Dot d is) c.if-self.false)
    ∙ rw c.clear.ensures (comma_taken c.args.self.now.stage (state_of c.args.self.now) (state_of c.close.new.self) c.add_mirrored.new.self c.in_ok-close.ensures.closed (rw c.changes.ensures at c.in_ok-add_mirrored.ensures))
