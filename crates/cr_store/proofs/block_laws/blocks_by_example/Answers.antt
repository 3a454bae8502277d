use Rattle.std.proofs.Common.{refl}
use Rattle.std.specs.Fmt.{digits}
use Rattle.cr_store.proofs.block_laws.blocks_by_example.Goals as goal

pub returns : goal.returns
unfolding digits
returns c = refl
