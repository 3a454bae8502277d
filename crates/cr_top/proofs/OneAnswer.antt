-- An input has one size, and no fault.
use Rattle.std.proofs.Common.{◌≡◌, ℕ, ◌^◌, ◌<◌, ◌≤◌, List, length, inl, inr, ap₂, arith}
use Rattle.cr_model.specs.Problems.{ProblemParts}
use Rattle.cr_model.specs.Sizes.{most_rows, size_of_all}
use Rattle.cr_model.specs.ProblemFiles.{ProblemFile, FirstProblemFault}
use Rattle.cr_model.specs.declared.file_fault.ProblemFault.{ProblemFault}
use Rattle.cr_model.specs.Checkpoints.{CheckFile}
use Rattle.cr_model.specs.Inputs.{Input}
use Rattle.cr_model.specs.Sound.{IsSound}
use Rattle.cr_store.specs.Progress.{Progress}
use Rattle.cr_store.specs.Chains.{AreSame}
use Rattle.cr_store.specs.Faults.{FirstCheckFault}
use Rattle.cr_store.specs.declared.fault.CheckFault.{CheckFault}
use Rattle.cr_top.specs.Texts.{IsNoProblem, IsNoCheckpoint}

-- the problem of an input passes all checks
pub is_sound : (input bytes : List ℕ) (p : ProblemParts) (found nodes : List (List ℕ)) → Input input bytes p found nodes → IsSound p
is_sound input bytes p found nodes (inl is) = is.file.problem.sound
is_sound input bytes p found nodes (inr is) = is.file.sound

module _ (input : List ℕ) where
  long : length input ≤ 2 ^ 40 → length input < 2 ^ 63
  long short = omega (arith, short)

  pub one_size : ((text bytes : List ℕ) (p : ProblemParts) (found nodes : List (List ℕ)) (other : List ℕ) (q : ProblemParts) (founds rest : List (List ℕ))
      → length text < 2 ^ 63 → Input text bytes p found nodes → Input text other q founds rest → AreSame bytes p found nodes other q founds rest)
      → length input ≤ 2 ^ 40 → (bytes : List ℕ) (p : ProblemParts) (found nodes : List (List ℕ)) (others : List ℕ) (q : ProblemParts) (those these : List (List ℕ))
      → Input input bytes p found nodes → Input input others q those these → size_of_all p most_rows nodes ≡ size_of_all q most_rows these
  one_size alone short bytes p found nodes others q those these is other =
      let same : AreSame bytes p found nodes others q those these = alone input bytes p found nodes others q those these (long short) is other in
      ap₂ (λ r xs. size_of_all r most_rows xs) same.problem_is same.nodes_are

  pub no_problem_fault : ((bytes : List ℕ) (p : ProblemParts) (fault : ProblemFault) → ProblemFile bytes p → FirstProblemFault bytes fault → ⊥)
      → (bytes : List ℕ) (p : ProblemParts) (found nodes : List (List ℕ)) (fault : ProblemFault)
      → Input input bytes p found nodes → IsNoProblem input fault → ⊥
  no_problem_fault never bytes p found nodes fault (inl is) wrong = wrong.0 is.begins
  no_problem_fault never bytes p found nodes fault (inr is) wrong = never input p fault is.file wrong.1

  pub no_check_fault : ((bytes : List ℕ) (c : Progress) (why : CheckFault) → length bytes < 2 ^ 63
      → CheckFile bytes c.bytes c.problem c.found c.jobs → FirstCheckFault bytes why → ⊥)
      → length input ≤ 2 ^ 40 → (bytes : List ℕ) (p : ProblemParts) (found nodes : List (List ℕ)) (fault : CheckFault)
      → Input input bytes p found nodes → IsNoCheckpoint input fault → ⊥
  no_check_fault never short bytes p found nodes fault (inl is) wrong =
      never input (record { bytes = bytes; problem = p; found = found; jobs = is.jobs }) fault (long short) is.file wrong.1
  no_check_fault never short bytes p found nodes fault (inr is) wrong = is.begins wrong.0

  pub one_problem_fault : ((bytes : List ℕ) (why other : ProblemFault) → FirstProblemFault bytes why → FirstProblemFault bytes other → why ≡ other)
      → (why other : ProblemFault) → IsNoProblem input why → IsNoProblem input other → why ≡ other
  one_problem_fault one why other is also = one input why other is.1 also.1

  pub one_check_fault : ((bytes : List ℕ) (why other : CheckFault) → FirstCheckFault bytes why → FirstCheckFault bytes other → why ≡ other)
      → (why other : CheckFault) → IsNoCheckpoint input why → IsNoCheckpoint input other → why ≡ other
  one_check_fault one why other is also = one input why other is.1 also.1
