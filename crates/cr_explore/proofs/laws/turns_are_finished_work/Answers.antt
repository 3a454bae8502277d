use Rattle.std.proofs.Common.{ℕ, List}
use Rattle.cr_model.specs.Problems.{ProblemParts}
use Rattle.cr_model.specs.Sizes.{most_rows}
use Rattle.cr_model.specs.Sound.{IsSound}
use Rattle.cr_node.specs.Work.{IsJob}
use Rattle.cr_explore.specs.Turns.{after_turns}
use Rattle.cr_explore.proofs.Finishing.{IsFinished, WorkLaws, finished}
use Rattle.cr_explore.proofs.laws.turns_are_finished_work.Goals as goal

pub returns : goal.returns
returns c =
    let laws : (p : ProblemParts) → IsSound p → WorkLaws p = λ p sound. record {
      turned = λ job found below node. c.a_turn_goes_on_with_a_split.ensures.splits p job found below node sound;
      turned_size = λ below node. c.a_turn_goes_on_with_a_split.ensures.size p below node sound;
      not_begun = c.work_goes_on.ensures.not_begun p;
    } in
    let all : (p : ProblemParts) (job : List (List ℕ)) (number : ℕ) → IsSound p → IsJob p job → IsFinished p job number (after_turns p most_rows job number) =
    λ p job number sound is. finished p (laws p sound) job number is in
    record {
      done = λ p job number sound is. (all p job number sound is).done;
      few = λ p job number sound is. (all p job number sound is).few;
      ends = λ p job number sound is. (all p job number sound is).ends;
    }
