-- The next checkpoint of a search, whatever the order of what it found.
use Rattle.std.proofs.Common.{◌≡◌, ℕ, ◌+◌, ◌<◌, ◌≤◌, ◌↔◌, List, [], ◌++◌, length, Some, sym, subst, arith}
use Rattle.std.specs.Prelude.{All}
use Rattle.std.specs.List.Sorted.{IsPermutation, IsSorted, IsStrictlySortedBy}
use Rattle.std.proofs.lemmas.List.Sorted.{IsPermutation-append_left, IsPermutation-sym, IsPermutation-trans, All-permutation}
use Rattle.cr_model.specs.Problems.{ProblemParts}
use Rattle.cr_model.specs.Callings.{HasSteps}
use Rattle.cr_model.specs.Touches.{Kept}
use Rattle.cr_model.specs.Nodes.{Covers, Independent, times_found}
use Rattle.cr_model.specs.Books.{book_order}
use Rattle.cr_model.specs.Checkpoints.{CanGoOn, checkpoint_text, nodes_of_jobs}
use Rattle.cr_board.specs.Partitions.{IsPartition, EachOnce}
use Rattle.cr_store.specs.Searches.{WentOn}
use Rattle.cr_store.specs.Written.{IsTextOfLeft}
use Rattle.cr_store.proofs.Leaving.{left_goes_on, left_covers}
use Rattle.cr_trail.specs.Runs.{RunsOn}
use Rattle.cr_trail.specs.Writing.{IsReadyAfter}
use Rattle.cr_trail.proofs.Going.{Begun, Onward, steps_of_kept}
use Rattle.cr_trail.proofs.Trailing.{went_by}

-- a checkpoint has bytes
pub has_bytes : (p : ProblemParts) (bytes : List ℕ) (found : List (List ℕ)) (jobs : List (List (List ℕ))) → 0 < length (checkpoint_text p bytes found jobs)
has_bytes p bytes found jobs = omega arith

-- what the laws say of touches that stand once, of covers, and of what is sorted
abbrev pub Once : Type 0
Once = (p : ProblemParts) (found nodes now left : List (List ℕ)) (spent : ℕ) → IsStrictlySortedBy (book_order p) found
    → Independent p found nodes → IsPartition p found nodes now left spent → EachOnce p found nodes now left

abbrev pub CoverTheSame : Type 0
CoverTheSame = (p : ProblemParts) (found nodes now left : List (List ℕ)) (spent : ℕ) (calling : List ℕ)
    → IsPartition p found nodes now left spent → Covers p now left calling ↔ Covers p found nodes calling

abbrev pub Strict : Type 0
Strict = (p : ProblemParts) (callings sorted : List (List ℕ)) → IsPermutation callings sorted → IsSorted (book_order p) sorted
    → ((calling : List ℕ) → times_found callings calling ≤ 1) → IsStrictlySortedBy (book_order p) sorted

module _ (begun : Begun) (onward : Onward) (p : ProblemParts) (held found : List (List ℕ)) (jobs : List (List (List ℕ))) (every : ℕ)
    (same : IsPermutation held found) (on : CanGoOn p found jobs)
    (now : List (List ℕ)) (left : List (List (List ℕ))) (ran : RunsOn p held jobs (Some every) now left) where
  -- all that is found, with what was found before in order
  abbrev all : List (List ℕ)
  all = found ++ ran.more

  moved : IsPermutation now all
  moved = subst (λ touches. IsPermutation touches all) (sym ran.behind) (IsPermutation-append_left ran.more held found same)

  way : WentOn p found jobs all left ran.run.used
  way =
      let nothing_more : 0 + ran.run.used ≡ ran.run.used = omega arith in
      record {
        began = on;
        nodes = subst (λ spent. IsPartition p found (nodes_of_jobs jobs) all (nodes_of_jobs left) spent) nothing_more
            (onward p found (nodes_of_jobs jobs) found (nodes_of_jobs jobs) ran.more (nodes_of_jobs left) 0 ran.run.used
            (begun p found (nodes_of_jobs jobs) on.kept on.valid on.independent) ran.run.way.nodes);
        filled = ran.run.way.filled;
      }

  pub touches_known : All (HasSteps p) now
  touches_known = steps_of_kept p now (All-permutation (Kept p) all now (IsPermutation-sym now all moved) way.nodes.kept)

  pub nodes_known : All (HasSteps p) (nodes_of_jobs left)
  nodes_known = λ i d within. (way.nodes.valid i d within).steps

  pub ready_after : Once → CoverTheSame → Strict → (bytes text : List ℕ) (spent : List (List ℕ)) → IsTextOfLeft p bytes now left text
      → IsPermutation now spent → IsReadyAfter p bytes found jobs every spent left text
  ready_after once cover strict bytes text spent of back =
      let ordered : IsPermutation all of.book = IsPermutation-trans all now of.book (IsPermutation-sym now all moved) of.same in
      record {
        now = of.book;
        ready = record { same = IsPermutation-trans spent now of.book (IsPermutation-sym now spent back) of.same; is = of.is };
        went = went_by p found jobs every all left of.book
            (record { used = ran.run.used; way = way; keeps = ran.run.keeps; ends = ran.run.ends })
            (left_goes_on p found jobs all left ran.run.used way
            (once p found (nodes_of_jobs jobs) all (nodes_of_jobs left) ran.run.used on.ascending on.independent way.nodes)
            of.book ordered strict of.ascending)
            (left_covers cover p found jobs all left ran.run.used of.book ordered way);
      }
