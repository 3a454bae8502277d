use Rattle.cr_store.proofs.BlockLaws.{one_next}
use Rattle.cr_store.proofs.block_laws.each_place_has_one_answer.Goals as goal

pub returns : goal.returns
returns c = one_next
