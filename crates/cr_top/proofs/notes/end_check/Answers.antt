use Rattle.cr_top.proofs.notes.end_check.Goals as goal

pub returns-in-FoundOrder : goal.returns-in-FoundOrder
returns-in-FoundOrder g c = rw c.in-FoundOrder.is c.end_detail-in-FoundOrder.ensures
