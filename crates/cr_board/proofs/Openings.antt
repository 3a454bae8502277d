-- The board that an opening gives has the partition.
use Rattle.std.proofs.Common.{◌≡◌, ℕ, zero, suc, ◌+◌, ◌<◌, ◌≤◌, false, cond, List, [], ◌∷◌, length, get_or, replicate, sum_by, count_by, All, Option, None, inl, inr, refl, sym, ap, ◌∙◌, subst, arith}
use Rattle.std.proofs.lemmas.Bool.{cases_lt}
use Rattle.std.proofs.lemmas.List.{length-set, length-replicate, get_or-replicate, get_or_past, append-nil}
use Rattle.std.proofs.lemmas.List.Sums.{sum_by-cons, sum_by-set}
use Rattle.std.proofs.lemmas.List.Folds.{sum_by-replicate}
use Rattle.std.proofs.lemmas.List.Concat.{flat_map-cons}
use Rattle.cr_model.specs.Problems.{ProblemParts}
use Rattle.std.specs.List.Sorted.{IsStrictlySortedBy}
use Rattle.std.specs.declared.cmp.Ordering.{Ordering}
use Rattle.cr_model.specs.Books.{book_order}
use Rattle.cr_model.specs.Touches.{Kept}
use Rattle.cr_model.specs.Nodes.{IsValid, Independent}
use Rattle.std.proofs.lemmas.List.Elements.{All-nil}
use Rattle.cr_node.specs.Work.{IsJob}
use Rattle.cr_board.specs.Jobs.{JobParts, OpeningParts, IsOpening, opening_from, numbered, opening_nodes}
use Rattle.cr_board.specs.Boards.{held_at, jobs_of, nodes_of, opened}
use Rattle.cr_board.specs.Partitions.{IsPartition, Partition}
use Rattle.cr_board.specs.declared.held.Held.{Held}
use Rattle.cr_board.proofs.Sums.{HaveSame, sum_joined, jobs_sum, over_held}
use Rattle.cr_board.proofs.Moving.{is_empty, count_filled, full}
use Rattle.cr_board.proofs.Parting.{moved}

-- what is found and left at first is a partition of itself
at_first : (p : ProblemParts) (found nodes : List (List ℕ)) → All (Kept p) found → Independent p found nodes → All (IsValid p) nodes → IsPartition p found nodes found nodes 0
at_first p found nodes kept independent valid = record {
  each = λ calling is_kept. refl;
  kept = kept;
  independent = independent;
  valid = valid;
  size = omega arith;
}

-- sums over numbered jobs
numbered_sum : (f : JobParts → ℕ) (g : List (List ℕ) → ℕ) → ((job : JobParts) → f job ≡ g job.nodes) → (next : ℕ) (jobs : List (List (List ℕ))) → sum_by f (numbered next jobs) ≡ sum_by g jobs
numbered_sum f g same next [] = refl
numbered_sum f g same next (nodes ∷ jobs) =
    omega (
      arith,
      sum_by-cons f (record { number = next; nodes = nodes }) (numbered (next + 1) jobs),
      sum_by-cons g nodes jobs,
      numbered_sum f g same (next + 1) jobs,
      same (record { number = next; nodes = nodes }),
    )

-- the jobs of the board that an opening gives
opened_sum : (o : OpeningParts) → 1 ≤ o.workers → (f : JobParts → ℕ) → sum_by f (jobs_of (opened o)) ≡ sum_by f (numbered 0 o.jobs)
opened_sum o some f =
    let lanes = sum_by-set (sum_by f) (replicate o.workers []) 0 (numbered 0 o.jobs) [] (omega (arith, some, length-replicate {A = List JobParts} o.workers [])) in
    let before : sum_by (sum_by f) (replicate o.workers []) ≡ 0 = sum_by-replicate (sum_by f) o.workers [] ∙ omega arith in
    let first : sum_by f (get_or (replicate o.workers []) 0 []) ≡ 0 = ap (sum_by f) (get_or-replicate o.workers 0 [] [] some) in
    let held : sum_by (over_held f) (replicate o.workers None) ≡ 0 = sum_by-replicate (over_held f) o.workers None ∙ omega arith in
    omega (arith, lanes, before, first, held, jobs_sum f (opened o).lanes (opened o).held)

-- their nodes are the opening's
opened_nodes : (o : OpeningParts) → 1 ≤ o.workers → HaveSame (opening_nodes o) (nodes_of (opened o))
opened_nodes o some f =
    sum_joined f (λ job. job.nodes) (jobs_of (opened o)) ∙ opened_sum o some (λ job. sum_by f job.nodes)
    ∙ numbered_sum (λ job. sum_by f job.nodes) (λ nodes. sum_by f nodes) (λ job. refl) 0 o.jobs ∙ sym (sum_joined f (λ nodes. nodes) o.jobs)

-- and none of them is empty
numbered_filled : (next : ℕ) (jobs : List (List (List ℕ))) → All (λ nodes. 0 < length nodes) jobs → count_by is_empty (numbered next jobs) ≡ 0
numbered_filled next [] filled = refl
numbered_filled next (nodes ∷ jobs) filled =
    let one = sum_by-cons {X = JobParts} (λ job. cond (is_empty job) 1 0) (record { number = next; nodes = nodes }) (numbered (next + 1) jobs) in
    let here = full (record { number = next; nodes = nodes }) (filled zero [] (omega arith)) in
    omega (arith, one, here, numbered_filled (next + 1) jobs (λ k d inside. filled (suc k) d (omega arith)))

pub opened_is : (o : OpeningParts) → IsOpening o → Partition (opened o)
opened_is o opening = record {
  shape = record {
    lanes = length-set (replicate o.workers []) 0 (numbered 0 o.jobs) ∙ length-replicate o.workers [];
    held = length-replicate o.workers None;
    resigned = length-replicate o.workers false;
  };
  nodes = moved o.problem o.found (opening_nodes o) o.found (opening_nodes o) (nodes_of (opened o)) 0 (opened_nodes o opening.some)
      (at_first o.problem o.found (opening_nodes o) opening.kept opening.independent opening.valid);
  filled = count_filled (jobs_of (opened o)) (opened_sum o opening.some (λ job. cond (is_empty job) 1 0) ∙ numbered_filled 0 o.jobs opening.filled);
  resigned = λ worker gone. nothing worker;
}
  where
    nothing : (worker : ℕ) → held_at (replicate o.workers None) worker ≡ None
    nothing worker = elim (cases_lt worker o.workers) [
      | inl inside ↦ get_or-replicate o.workers worker None None inside
      | inr past ↦ get_or_past (replicate o.workers None) worker None (omega (arith, length-replicate {A = Option Held} o.workers None))
    ]

-- no touch stands in order
pub none_ascend : {K : Type 0} (cmp : K → K → Ordering) → IsStrictlySortedBy cmp []
unfolding IsStrictlySortedBy
none_ascend cmp = tt

-- one job is an opening
pub one_job_opens : (p : ProblemParts) (nodes : List (List ℕ)) (budget : Option ℕ) (workers : ℕ) → IsJob p nodes → 1 ≤ workers → workers ≤ 64 → IsOpening (opening_from p [] (nodes ∷ []) budget workers)
one_job_opens p nodes budget workers job some few = record {
  kept = All-nil (Kept p);
  ascending = none_ascend (book_order p);
  filled = λ k d inside. one k d inside;
  valid = subst (All (IsValid p)) (sym alone) job.valid;
  independent = subst (Independent p []) (sym alone) job.independent;
  some = some;
  few = few;
}
  where
    alone : opening_nodes (opening_from p [] (nodes ∷ []) budget workers) ≡ nodes
    alone = flat_map-cons (λ j. j) nodes [] ∙ append-nil nodes

    one : (k : ℕ) (d : List (List ℕ)) → k < 1 → 0 < length (get_or (nodes ∷ []) k d)
    one zero d inside = job.some
    one (suc k) d inside = absurd (omega arith)
