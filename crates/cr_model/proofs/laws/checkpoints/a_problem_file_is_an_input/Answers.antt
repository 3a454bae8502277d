use Rattle.std.proofs.Common.{ℕ, List, [], ◌∷◌, inr, refl}
use Rattle.cr_model.specs.Problems.{ProblemParts}
use Rattle.cr_model.specs.ProblemFiles.{ProblemFile}
use Rattle.cr_model.specs.Checkpoints.{IsCheckpoint}
use Rattle.cr_model.specs.Inputs.{Input}
use Rattle.cr_model.proofs.laws.checkpoints.a_problem_file_is_an_input.Goals as goal

fresh : (bytes : List ℕ) (p : ProblemParts) → ProblemFile bytes p → (IsCheckpoint bytes → ⊥) → Input bytes bytes p [] ([] ∷ [])
fresh bytes p file begins = inr (record { begins = begins; bytes_are = refl; file = file; found_are = refl; nodes_are = refl })

pub returns : goal.returns
returns c = record {
  input = fresh;
  same = λ bytes p file begins. record {
    bytes = bytes;
    p = p;
    found = [];
    nodes = [] ∷ [];
    other_found = [];
    other_nodes = [] ∷ [];
    input = fresh bytes p file begins;
    other_input = fresh bytes p file begins;
    covers = λ calling. ((λ covered. covered), (λ covered. covered));
  };
}
