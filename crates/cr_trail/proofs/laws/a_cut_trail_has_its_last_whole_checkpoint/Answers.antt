use Rattle.cr_trail.proofs.laws.a_cut_trail_has_its_last_whole_checkpoint.Goals as goal

pub returns : goal.returns
returns c = λ input every trail many last is short ends. c.a_cut_has_its_last_whole_block.ensures trail many last is.bodies short ends
