use Rattle.cr_shard.proofs.RoundTrip.{joined_same}
use Rattle.cr_shard.proofs.laws.what_is_joined_covers_what_was_cut.Goals as goal

pub returns : goal.returns
returns c = λ p bytes found jobs into shards searched bodies parts q others joined file goes_on some dealt covers same short few read is input whole apart.
    joined_same c.an_input_has_its_parts_alone.ensures c.checkpoints_begin_as_such.ensures p bytes found jobs into shards searched bodies parts q others joined
    file goes_on some dealt covers same short few read is input whole apart
