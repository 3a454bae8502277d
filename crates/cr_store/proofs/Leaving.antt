-- What a search found and left: once it is sorted a search can go on from it, and it covers the same.
use Rattle.std.proofs.Common.{◌≡◌, ℕ, ◌<◌, ◌≤◌, ◌⊎◌, ◌↔◌, true, false, List, [], ◌∷◌, ◌++◌, length, get_or, map, Contains, inl, inr, refl, sym, ap, subst, arith}
use Rattle.std.specs.List.Sorted.{IsPermutation, IsSorted, IsStrictlySortedBy}
use Rattle.std.proofs.lemmas.Bool.{cases_lt}
use Rattle.std.proofs.lemmas.List.{get_or_default}
use Rattle.std.proofs.lemmas.List.Elements.{All-map}
use Rattle.std.proofs.lemmas.List.Sorted.{IsPermutation-sym, All-permutation, Contains-permutation}
use Rattle.cr_model.specs.Problems.{ProblemParts}
use Rattle.cr_model.specs.Touches.{Kept}
use Rattle.cr_model.specs.Nodes.{is_above, times_found, Covers, Independent}
use Rattle.cr_model.specs.Books.{book_order}
use Rattle.cr_model.specs.Checkpoints.{CanGoOn, nodes_of_jobs}
use Rattle.cr_board.specs.Jobs.{JobParts, opening_nodes}
use Rattle.cr_board.specs.Boards.{BoardParts, jobs_of, board_jobs, nodes_in}
use Rattle.cr_board.specs.Partitions.{IsPartition, EachOnce, IsKept}
use Rattle.cr_store.specs.Searches.{WentOn}

-- what the law on sorted touches says
abbrev Strict : Type 0
Strict = (p : ProblemParts) (callings sorted : List (List ℕ)) → IsPermutation callings sorted → IsSorted (book_order p) sorted
    → ((calling : List ℕ) → times_found callings calling ≤ 1) → IsStrictlySortedBy (book_order p) sorted

module _ (p : ProblemParts) (before : List (List ℕ)) (begun : List (List (List ℕ))) (now : List (List ℕ)) (left : List (List (List ℕ))) (spent : ℕ)
    (way : WentOn p before begun now left spent) (once : EachOnce p before (nodes_of_jobs begun) now (nodes_of_jobs left)) where
  -- nothing was found twice
  found_once : (calling : List ℕ) → times_found now calling ≤ 1
  found_once calling = elim (cases_lt 1 (times_found now calling)) [
    | inl more ↦ absurd (omega (arith, more, once.unfound calling (λ covers. absurd (omega (arith, more, once.covered calling covers)))))
    | inr few ↦ omega (arith, few)
  ]

  module _ (found : List (List ℕ)) (same : IsPermutation now found) where
    -- no node is above a found touch, in whatever order they stand
    still_apart : Independent p found (nodes_of_jobs left)
    still_apart =
        let apart = way.nodes.independent in
        let none = All-permutation (λ calling. (i : ℕ) → i < length (nodes_of_jobs left) → is_above p (get_or (nodes_of_jobs left) i []) calling ≡ false) now found same
        (λ k d inside i within. subst (λ calling. is_above p (get_or (nodes_of_jobs left) i []) calling ≡ false) (get_or_default now k [] d inside) (apart.found_apart i k within inside)) in
        record { nodes_apart = apart.nodes_apart; found_apart = λ i j inside within. none j [] within i inside }

    pub left_goes_on : Strict → IsSorted (book_order p) found → CanGoOn p found left
    left_goes_on strict up = record {
      kept = All-permutation (Kept p) now found same way.nodes.kept;
      ascending = strict p now found same up found_once;
      filled = way.filled;
      valid = way.nodes.valid;
      independent = still_apart;
    }

-- the same touches in another order cover the same
moved_covers : (p : ProblemParts) (now found nodes : List (List ℕ)) (calling : List ℕ) → IsPermutation now found → Covers p now nodes calling → Covers p found nodes calling
moved_covers p now found nodes calling same covers = record { kept = covers.kept; reached = by covers.reached }
  where
    by : Contains now calling ⊎ ((node : List ℕ) × Contains nodes node × (is_above p node calling ≡ true))
        → Contains found calling ⊎ ((node : List ℕ) × Contains nodes node × (is_above p node calling ≡ true))
    by (inl held) = inl (Contains-permutation now found calling same held)
    by (inr below) = inr below

-- what the law on partitions says of covers
abbrev CoverTheSame : Type 0
CoverTheSame = (p : ProblemParts) (found nodes now left : List (List ℕ)) (spent : ℕ) (calling : List ℕ)
    → IsPartition p found nodes now left spent → Covers p now left calling ↔ Covers p found nodes calling

pub left_covers : CoverTheSame → (p : ProblemParts) (before : List (List ℕ)) (begun : List (List (List ℕ))) (now : List (List ℕ)) (left : List (List (List ℕ))) (spent : ℕ)
    (found : List (List ℕ)) → IsPermutation now found → WentOn p before begun now left spent → (calling : List ℕ)
    → Covers p found (nodes_of_jobs left) calling ↔ Covers p before (nodes_of_jobs begun) calling
left_covers law p before begun now left spent found same way calling =
    let all = law p before (nodes_of_jobs begun) now (nodes_of_jobs left) spent calling way.nodes in (
      λ h. all.0 (moved_covers p found now (nodes_of_jobs left) calling (IsPermutation-sym now found same) h),
      λ h. moved_covers p now found (nodes_of_jobs left) calling same (all.1 h),
    )

-- the nodes of jobs
nodes_are : (jobs : List JobParts) → nodes_of_jobs (map (λ job. job.nodes) jobs) ≡ nodes_in jobs
nodes_are [] = refl
nodes_are (job ∷ jobs) = ap (λ l. job.nodes ++ l) (nodes_are jobs)

-- what a board found and has left went on from its opening
pub board_went_on : (b : BoardParts) (found : List (List ℕ)) (left : List (List (List ℕ))) → IsKept b → found ≡ b.found → left ≡ board_jobs b
    → WentOn b.opening.problem b.opening.found b.opening.jobs found left b.spent
board_went_on b found left kept found_is left_is =
    let o = b.opening in
    subst (λ f. WentOn o.problem o.found o.jobs f left b.spent) (sym found_is) (subst (λ js. WentOn o.problem o.found o.jobs b.found js b.spent) (sym left_is) whole)
  where
    whole : WentOn b.opening.problem b.opening.found b.opening.jobs b.found (board_jobs b) b.spent
    whole = record {
      began = record {
        kept = kept.opening.kept;
        ascending = kept.opening.ascending;
        filled = kept.opening.filled;
        valid = kept.opening.valid;
        independent = kept.opening.independent;
      };
      nodes = subst (λ ns. IsPartition b.opening.problem b.opening.found (opening_nodes b.opening) b.found ns b.spent) (sym (nodes_are (jobs_of b))) kept.partition.nodes;
      filled = All-map (λ job. 0 < length job) (λ job. job.nodes) (jobs_of b) kept.partition.filled;
    }

-- what holds of a problem by that, where the problem is the board's
pub of_board : (b : BoardParts) (p : ProblemParts) (found : List (List ℕ)) (left : List (List (List ℕ))) → IsKept b → p ≡ b.opening.problem → found ≡ b.found → left ≡ board_jobs b
    → (P : ProblemParts → Type 0) → (WentOn p b.opening.found b.opening.jobs found left b.spent → P p) → P b.opening.problem
of_board b p found left kept same found_is left_is P by =
    subst P same (by (subst (λ q. WentOn q b.opening.found b.opening.jobs found left b.spent) (sym same) (board_went_on b found left kept found_is left_is)))
