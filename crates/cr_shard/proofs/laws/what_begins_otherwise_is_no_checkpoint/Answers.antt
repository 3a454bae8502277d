use Rattle.std.proofs.Common.{[], get_or}
use Rattle.cr_shard.proofs.OtherForms.{first_line_wrong}
use Rattle.cr_shard.proofs.laws.what_begins_otherwise_is_no_checkpoint.Goals as goal

pub returns : goal.returns
returns c = λ text bodies i before has inside read other. (
  bodies,
  has,
  record {
    inside = inside;
    shards = before;
    before = read;
    wrong = first_line_wrong (get_or bodies i []) other _ _ c.shapes_by_example.ensures.first;
  },
)
