-- A board as it is written: what was found in the book's order, and all jobs.
use Rattle.std.specs.Prelude.{◌≡◌, ℕ, List, [], ◌∷◌, ◌++◌, length, map, flat_map, codes, Option, Some, None}
use Rattle.std.specs.Global.{Vec}
use denote.Ref.{Bor}
use Rattle.std.specs.List.Sorted.{IsPermutation, IsSorted}
use Rattle.cr_model.specs.Problems.{ProblemParts}
use Rattle.cr_model.specs.Books.{book_order, book_line}
use Rattle.cr_model.specs.Checkpoints.{CheckFile, checkpoint_text, number_line, job_lines}
use Rattle.cr_board.specs.Jobs.{JobParts}
use Rattle.cr_board.specs.Boards.{BoardParts}
pub use Rattle.cr_board.specs.Boards.{board_jobs}

-- jobs as lists of their nodes
abbrev pub lists : List (Vec (List ℕ)) → List (List (List ℕ))
lists jobs = map (λ job. job.items) jobs

-- jobs whose nodes lie together elsewhere
abbrev pub jobs_seen : List (Bor (List (List ℕ))) → List (List (List ℕ))
jobs_seen jobs = map (λ job. job.now) jobs

-- the nodes of a job that may be
abbrev pub nodes_held : Option JobParts → List (List (List ℕ))
nodes_held None = []
nodes_held (Some job) = job.nodes ∷ []

-- the text is the checkpoint, in version 2, of all that the board found and all its jobs. Reading it gives these again
pub record IsWritten (bytes : List ℕ) (b : BoardParts) (text : List ℕ) : Type 0 where
  pub found : List (List ℕ)
  pub same : IsPermutation b.found found
  pub is : text ≡ checkpoint_text b.opening.problem bytes found (board_jobs b)
  pub file : CheckFile text bytes b.opening.problem found (board_jobs b)

-- the text is the checkpoint, in version 2, of found touches, put in the book's order, and of jobs
pub record IsTextOfLeft (p : ProblemParts) (bytes : List ℕ) (found : List (List ℕ)) (jobs : List (List (List ℕ))) (text : List ℕ) : Type 0 where
  pub book : List (List ℕ)
  pub same : IsPermutation found book
  pub ascending : IsSorted (book_order p) book
  pub is : text ≡ checkpoint_text p bytes book jobs

-- what stands in a checkpoint before the lines of so many found touches
abbrev pub head_text : List ℕ → ℕ → List ℕ
head_text bytes touches = number_line (codes "ringsearch checkpoint") 2
    ++ number_line (codes "problem") (length bytes)
    ++ bytes
    ++ codes "\n"
    ++ number_line (codes "found") touches

-- what stands before its jobs: that, and the lines of found touches
abbrev pub front_text : ProblemParts → List ℕ → List (List ℕ) → List ℕ
front_text p bytes found = head_text bytes (length found) ++ flat_map (book_line p) found

-- and the jobs and what stands behind them
abbrev pub tail_text : ProblemParts → List (List (List ℕ)) → List ℕ
tail_text p jobs = number_line (codes "jobs") (length jobs) ++ job_lines p 2 [] jobs ++ codes "end\n"
