use Rattle.cr_store.proofs.BlockLaws.{blocks_injective}
use Rattle.cr_store.proofs.block_laws.blocks_differ_where_bodies_do.Goals as goal

pub returns : goal.returns
returns c = blocks_injective
