use Rattle.cr_shard.proofs.OneJoin.{one_text, not_both, one_first}
use Rattle.cr_shard.proofs.SomeJoin.{some_answer}
use Rattle.cr_shard.proofs.laws.texts_have_one_answer.Goals as goal

pub returns : goal.returns
returns c =
    let place = c.each_place_has_one_answer.ensures in
    let checks = c.bytes_have_one_answer.ensures in
    record {
      some = some_answer c.bytes_are_a_checkpoint_or_have_a_fault.ensures c.bytes_have_one_answer-2.ensures.one_problem;
      one_text = one_text place checks.one_checkpoint checks.one_fault checks.never_both;
      one_fault = one_first place checks.one_checkpoint checks.one_fault checks.never_both;
      never_both = not_both place checks.one_checkpoint checks.one_fault checks.never_both;
    }
