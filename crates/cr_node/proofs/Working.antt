-- Finished work: whole where nothing is left, and one after another.
use Rattle.std.proofs.Common.{◌≡◌, ℕ, ◌+◌, ◌<◌, ◌≤◌, List, [], ◌∷◌, ◌++◌, length, All, refl, arith}
use Rattle.std.proofs.lemmas.List.Elements.{All-nil, All-cons}
use Rattle.cr_model.specs.Problems.{ProblemParts}
use Rattle.cr_model.specs.Sizes.{most_rows, size_of_all}
use Rattle.cr_model.specs.Touches.{Kept}
use Rattle.cr_model.specs.Nodes.{part_of, IsValid, nodes_above, times_found, Independent, Splits}
use Rattle.cr_model.proofs.Independence.{one_begins_each}
use Rattle.cr_node.specs.Work.{IsJob, IsDone}

-- where nothing is left, each kept touch below the job was found once
pub found_once : (p : ProblemParts) (job found : List (List ℕ)) (used : ℕ) → IsDone p job found [] used
    → (calling : List ℕ) → Kept p calling → 1 ≤ nodes_above p job calling → times_found found calling ≡ 1
found_once p job found used done calling kept some =
    let most : nodes_above p job calling ≤ 1 = one_begins_each p [] job done.job.independent (part_of p calling) in
    let none : nodes_above p [] calling ≡ 0 = refl in
    omega (arith, done.splits.each calling kept)

-- work on what finished work left
pub one_after_another : ((p : ProblemParts) (job found rest more left : List (List ℕ)) → Splits p job found rest → Splits p rest more left → Splits p job (found ++ more) left)
    → (p : ProblemParts) (job found rest more left : List (List ℕ)) (used further : ℕ) → IsDone p job found rest used → IsDone p rest more left further
    → IsDone p job (found ++ more) left (used + further)
one_after_another onward p job found rest more left used further one two = record {
  job = one.job;
  splits = onward p job found rest more left one.splits two.splits;
  size = omega (arith, one.size, two.size);
}

-- a job that is not begun
pub not_begun : ((p : ProblemParts) (nodes : List (List ℕ)) → All (IsValid p) nodes → Independent p [] nodes → Splits p nodes [] nodes)
    → (p : ProblemParts) (nodes : List (List ℕ)) → IsJob p nodes → IsDone p nodes [] nodes 0
not_begun splits p nodes job = record {
  job = job;
  splits = splits p nodes job.valid job.independent;
  size = omega arith;
}

-- where nothing is left, the turns are the job's size
pub turns_are_size : (p : ProblemParts) (job found : List (List ℕ)) (used : ℕ) → IsDone p job found [] used → used ≡ size_of_all p most_rows job
turns_are_size p job found used done =
    let none : size_of_all p most_rows [] ≡ 0 = refl in
    omega (arith, done.size)

-- the root is valid, and alone
pub root_is_job : (p : ProblemParts) → IsJob p ([] ∷ [])
root_is_job p = record {
  some = omega arith;
  valid = All-cons (IsValid p) [] [] (record { steps = All-nil (λ step. step < length p.leads); short = omega arith }) (All-nil (IsValid p));
  independent = record {
    nodes_apart = λ i j inside within other. absurd (omega (arith, inside, within, other));
    found_apart = λ i j inside within. absurd (omega (arith, within));
  };
}
