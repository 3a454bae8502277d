-- It tells another length, or has other parts.
use Rattle.std.proofs.Common.{subst}
use Rattle.std.proofs.lemmas.Bool.{false≢true}
use Rattle.cr_store.specs.ShapeReads.{found_parts}
use Rattle.cr_store.specs.Reading.{TellsCalling}
use Rattle.cr_store.proofs.ReadUpTo.{not_told}
use Rattle.cr_store.proofs.reading.read_touch.Goals as goal

pub returns-else-is_told : goal.returns-else-is_told
returns-else-is_told c = λ touch is.
    let p = c.args.problem.now in
    not_told p (c.callings_differ_in_their_texts.ensures p c.query.ensures.sound) (found_parts c.args.line.now) c.in-Some.touch
    (subst (TellsCalling p c.args.line.now.calling.now) c.in-Some.is c.in_ok-touch.ensures) (λ told. false≢true (c.if-is_told.ensures.1 told)) touch is
