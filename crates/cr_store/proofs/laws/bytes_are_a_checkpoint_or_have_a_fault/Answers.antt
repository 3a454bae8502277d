use Rattle.cr_store.proofs.Deciding.{answered}
use Rattle.cr_store.proofs.laws.bytes_are_a_checkpoint_or_have_a_fault.Goals as goal

pub returns : goal.returns
returns c = λ bytes. answered (record {
  shape_or_fault = c.a_text_has_a_shape_or_a_fault.ensures;
  file_or_fault = c.a_file_is_taken_or_refused.ensures;
  one_calling = c.callings_differ_in_their_texts.ensures;
  kept_test = c.a_test_decides_what_is_kept.ensures;
  apart = c.independent_items_do_not_overlap.ensures;
  first_overlap = c.some_pair_overlaps_first.ensures;
}) bytes
