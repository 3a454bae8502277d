use Rattle.cr_read.proofs.LeadsRight.{leads_right}
use Rattle.cr_read.proofs.TheSteps.{exactly_leads}
use Rattle.cr_read.proofs.laws.leads_are_in_order_and_whole.Goals as goal

pub returns : goal.returns
returns c = record { order = λ file n spellings pass some. leads_right file n spellings pass some; whole = λ file n spellings pass lead. exactly_leads file n spellings pass lead }
