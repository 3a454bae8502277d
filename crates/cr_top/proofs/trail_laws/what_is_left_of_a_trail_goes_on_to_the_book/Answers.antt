use Rattle.cr_top.proofs.CutTrails.{taken_has_book, all_taken_have_book}
use Rattle.cr_top.proofs.trail_laws.what_is_left_of_a_trail_goes_on_to_the_book.Goals as goal

pub returns : goal.returns
returns c = record {
  one = taken_has_book c.what_is_left_of_a_trail_has_the_book.ensures.covers c.what_is_left_of_a_trail_has_the_book.ensures.short
      c.an_input_has_its_parts_alone.ensures;
  many = all_taken_have_book c.what_is_left_of_a_trail_has_the_book.ensures.covers c.what_is_left_of_a_trail_has_the_book.ensures.short
      c.an_input_has_its_parts_alone.ensures;
}
