use Rattle.cr_book.proofs.LeadTexts.{one_calling}
use Rattle.cr_book.proofs.laws.callings_differ_in_their_texts.Goals as goal

pub returns : goal.returns
returns c = λ p sound calling other known also same. one_calling p sound calling other known also same
