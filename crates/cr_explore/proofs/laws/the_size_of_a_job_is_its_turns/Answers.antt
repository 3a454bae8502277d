use Rattle.std.proofs.Common.{arith}
use Rattle.cr_model.specs.Sizes.{most_rows}
use Rattle.cr_explore.specs.Turns.{after_turns}
use Rattle.cr_explore.proofs.Finishing.{size_is_turns}
use Rattle.cr_explore.proofs.laws.the_size_of_a_job_is_its_turns.Goals as goal

pub returns : goal.returns
returns c = λ p job number sound is.
    size_is_turns p job number (after_turns p most_rows job number) (λ node. omega (arith, c.sizes_are_sums.ensures.node p most_rows node sound))
    (record {
      done = c.turns_are_finished_work.ensures.done p job number sound is;
      few = c.turns_are_finished_work.ensures.few p job number sound is;
      ends = c.turns_are_finished_work.ensures.ends p job number sound is;
    })
