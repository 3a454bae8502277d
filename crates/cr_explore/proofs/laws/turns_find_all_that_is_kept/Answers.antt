use Rattle.std.proofs.Common.{ℕ, List, ◌≡◌, [], subst}
use Rattle.cr_model.specs.Problems.{ProblemParts}
use Rattle.cr_model.specs.Sizes.{most_rows}
use Rattle.cr_model.specs.Sound.{IsSound}
use Rattle.cr_node.specs.Work.{IsJob, IsDone}
use Rattle.cr_explore.specs.Turns.{after_turns}
use Rattle.cr_explore.proofs.laws.turns_find_all_that_is_kept.Goals as goal

pub returns : goal.returns
returns c =
    let done : (p : ProblemParts) (job : List (List ℕ)) (number : ℕ) → IsSound p → IsJob p job → (after_turns p most_rows job number).rest ≡ []
    → IsDone p job (after_turns p most_rows job number).found [] (after_turns p most_rows job number).used =
    λ p job number sound is none. subst (λ (rest : List (List ℕ)). IsDone p job (after_turns p most_rows job number).found rest (after_turns p most_rows job number).used) none
    (c.turns_are_finished_work.ensures.done p job number sound is) in
    record {
      each = λ p job number sound is none. c.a_job_without_rest_is_found_whole.ensures.each p job (after_turns p most_rows job number).found (after_turns p most_rows job number).used (done p job number sound is none);
      only = λ p job number sound is none. c.a_job_without_rest_is_found_whole.ensures.only p job (after_turns p most_rows job number).found (after_turns p most_rows job number).used (done p job number sound is none);
    }
