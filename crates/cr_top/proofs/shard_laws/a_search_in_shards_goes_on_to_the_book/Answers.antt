use Rattle.cr_top.proofs.ShardBooks.{joined_has_book, book_for_shard}
use Rattle.cr_top.proofs.shard_laws.a_search_in_shards_goes_on_to_the_book.Goals as goal

pub returns : goal.returns
returns c = record {
  book = joined_has_book c.what_is_joined_covers_what_was_cut.ensures c.an_input_has_its_parts_alone.ensures;
  stopped = λ turns shard text is. is.same;
  trailed = c.what_is_left_of_a_trail_has_the_book.ensures.covers;
  finished = book_for_shard c.checkpoints_begin_as_such.ensures c.a_book_covers_its_shard.ensures.checkpoint c.a_book_covers_its_shard.ensures.covers;
}
