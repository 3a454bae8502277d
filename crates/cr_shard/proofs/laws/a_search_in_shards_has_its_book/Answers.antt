use Rattle.cr_shard.proofs.RoundTrip.{same_book}
use Rattle.cr_shard.proofs.laws.a_search_in_shards_has_its_book.Goals as goal

pub returns : goal.returns
returns c = λ p bytes found jobs into shards searched bodies parts q others joined file goes_on some dealt covers same short few read is.
    same_book c.an_input_has_its_parts_alone.ensures c.checkpoints_begin_as_such.ensures p bytes found jobs into shards searched bodies parts q others joined
    file goes_on some dealt covers same short few read is c.book_is_unique.ensures
