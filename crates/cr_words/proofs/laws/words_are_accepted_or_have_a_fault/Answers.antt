use Rattle.cr_words.proofs.Answering.{accepted_or_fault, not_accepted, one_fault}
use Rattle.cr_words.proofs.laws.words_are_accepted_or_have_a_fault.Goals as goal

pub returns : goal.returns
returns c = record { some = accepted_or_fault; apart = not_accepted; one = one_fault }
