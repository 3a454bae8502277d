use Rattle.cr_audit.proofs.Cutting.{Reasons}
use Rattle.cr_audit.proofs.Proving.{Touching, proved_is_book}
use Rattle.cr_audit.proofs.laws.proving.what_a_log_proves_is_the_book.Goals as goal

pub returns : goal.returns
returns c p log touches sound proved =
    let reasons : Reasons p = record {
      differ = c.a_test_decides_what_is_true.ensures.rows;
      long = λ node. c.nothing_is_kept_below_a_long_node.ensures p node sound;
      again = λ node. c.nothing_is_kept_below_a_node_with_a_row_twice.ensures p node sound;
      round = λ node. c.nothing_is_kept_below_a_node_that_comes_round.ensures p node sound;
      many = λ node. c.nothing_is_kept_below_a_node_with_too_many.ensures p node sound;
      few = λ node. c.nothing_is_kept_below_a_node_with_too_few.ensures p node sound;
      back = λ node. c.nothing_is_kept_below_a_node_that_turns_back.ensures p node sound;
    } in
    let facts : Touching p = record { reasons = reasons; begins = c.prefixes.ensures; whole = c.a_touch_is_its_part_repeated.ensures p } in
    proved_is_book p facts (c.fresh_problem_covers_its_kept.ensures p) log touches proved
