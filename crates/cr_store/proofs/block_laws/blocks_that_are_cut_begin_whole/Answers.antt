use Rattle.cr_store.proofs.BlockLaws.{cut_blocks}
use Rattle.cr_store.proofs.block_laws.blocks_that_are_cut_begin_whole.Goals as goal

pub returns : goal.returns
returns c = λ bodies place all. cut_blocks bodies place all
