-- From the laws of the shape, of problem files, of callings and of overlaps.
use Rattle.cr_store.proofs.OneAnswer.{one_checkpoint, one_fault, never_both}
use Rattle.cr_store.proofs.laws.bytes_have_one_answer.Goals as goal

pub returns-clause-one_checkpoint : goal.returns-clause-one_checkpoint
returns-clause-one_checkpoint c = λ bytes one other few file also. one_checkpoint (record {
  one_shape = c.a_text_has_one_shape.ensures;
  one_line = c.one_line_is_first_wrong.ensures;
  no_form = c.no_text_has_shape_and_fault.ensures;
  one_problem = c.bytes_have_one_answer.ensures.one_problem;
  one_wrong = c.bytes_have_one_answer.ensures.one_fault;
  no_wrong = c.bytes_have_one_answer.ensures.never_both;
  one_calling = c.callings_differ_in_their_texts.ensures;
  apart = c.independent_items_do_not_overlap.ensures;
  one_overlap = c.one_pair_overlaps_first.ensures.one;
  no_overlap = c.one_pair_overlaps_first.ensures.none;
}) bytes one other few file also

pub returns-clause-one_fault : goal.returns-clause-one_fault
returns-clause-one_fault c = λ bytes one other first also. one_fault (record {
  one_shape = c.a_text_has_one_shape.ensures;
  one_line = c.one_line_is_first_wrong.ensures;
  no_form = c.no_text_has_shape_and_fault.ensures;
  one_problem = c.bytes_have_one_answer.ensures.one_problem;
  one_wrong = c.bytes_have_one_answer.ensures.one_fault;
  no_wrong = c.bytes_have_one_answer.ensures.never_both;
  one_calling = c.callings_differ_in_their_texts.ensures;
  apart = c.independent_items_do_not_overlap.ensures;
  one_overlap = c.one_pair_overlaps_first.ensures.one;
  no_overlap = c.one_pair_overlaps_first.ensures.none;
}) bytes one other first also

pub returns-clause-never_both : goal.returns-clause-never_both
returns-clause-never_both c = λ bytes one why few file first. never_both (record {
  one_shape = c.a_text_has_one_shape.ensures;
  one_line = c.one_line_is_first_wrong.ensures;
  no_form = c.no_text_has_shape_and_fault.ensures;
  one_problem = c.bytes_have_one_answer.ensures.one_problem;
  one_wrong = c.bytes_have_one_answer.ensures.one_fault;
  no_wrong = c.bytes_have_one_answer.ensures.never_both;
  one_calling = c.callings_differ_in_their_texts.ensures;
  apart = c.independent_items_do_not_overlap.ensures;
  one_overlap = c.one_pair_overlaps_first.ensures.one;
  no_overlap = c.one_pair_overlaps_first.ensures.none;
}) bytes one why few file first
