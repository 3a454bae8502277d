-- Checkpoints: the text of what a search has found and what is left of it, in its two versions.
use Rattle.std.specs.Prelude.{◌≡◌, ℕ, ◌+◌, ◌<◌, ◌⊎◌, true, cond, nat_eq, List, [], ◌∷◌, ◌++◌, length, drop, flat_map, codes, decimal, All}
use Rattle.std.specs.List.{starts_with}
use Rattle.std.specs.List.Sorted.{IsStrictlySortedBy}
use Rattle.cr_model.specs.Problems.{ProblemParts}
use Rattle.cr_model.specs.Touches.{Kept}
use Rattle.cr_model.specs.Nodes.{IsValid, Independent}
use Rattle.cr_model.specs.Books.{book_order, book_line, calling_text}
use Rattle.cr_model.specs.ProblemFiles.{ProblemFile}

-- a line of a name and a number
abbrev pub number_line : List ℕ → ℕ → List ℕ
number_line name number = name ++ codes " " ++ decimal number ++ codes "\n"

-- steps as a calling; `-` where there are none
abbrev pub steps_text : ProblemParts → List ℕ → List ℕ
steps_text p [] = codes "-"
steps_text p (step ∷ steps) = calling_text p (step ∷ steps)

-- with how many steps two nodes begin alike
abbrev pub steps_shared : List ℕ → List ℕ → ℕ
steps_shared [] node = 0
steps_shared (x ∷ before) [] = 0
steps_shared (x ∷ before) (y ∷ node) = cond (nat_eq x y) (1 + steps_shared before node) 0

-- the line of a node after another: in version 1 its steps, in version 2 how many it shares with the node
-- before, and the others
abbrev pub node_line : ProblemParts → ℕ → List ℕ → List ℕ → List ℕ
node_line p version before node = cond (nat_eq version 1)
    (steps_text p node ++ codes "\n")
    (decimal (steps_shared before node) ++ codes " " ++ steps_text p (drop (steps_shared before node) node) ++ codes "\n")

-- the lines of nodes, of which the first comes after this one
abbrev pub node_lines : ProblemParts → ℕ → List ℕ → List (List ℕ) → List ℕ
node_lines p version before [] = []
node_lines p version before (node ∷ nodes) = node_line p version before node ++ node_lines p version node nodes

-- the last of some nodes, or the one before them where there are none
abbrev pub last_node : List ℕ → List (List ℕ) → List ℕ
last_node before [] = before
last_node before (node ∷ nodes) = last_node node nodes

-- the lines of jobs, of which the first comes after this node
abbrev pub job_lines : ProblemParts → ℕ → List ℕ → List (List (List ℕ)) → List ℕ
job_lines p version before [] = []
job_lines p version before (job ∷ jobs) = number_line (codes "job") (length job)
    ++ node_lines p version before job
    ++ job_lines p version (last_node before job) jobs

-- the version, the problem's bytes, the found touches as lines of the book, and the jobs. The first node shares
-- nothing, as after the root
abbrev pub versioned_text : ProblemParts → ℕ → List ℕ → List (List ℕ) → List (List (List ℕ)) → List ℕ
versioned_text p version bytes found jobs = number_line (codes "ringsearch checkpoint") version
    ++ number_line (codes "problem") (length bytes)
    ++ bytes
    ++ codes "\n"
    ++ number_line (codes "found") (length found)
    ++ flat_map (book_line p) found
    ++ number_line (codes "jobs") (length jobs)
    ++ job_lines p version [] jobs
    ++ codes "end\n"

-- the text that is written, which has version 2
abbrev pub checkpoint_text : ProblemParts → List ℕ → List (List ℕ) → List (List (List ℕ)) → List ℕ
checkpoint_text p bytes found jobs = versioned_text p 2 bytes found jobs

-- the text of version 1, which is read as well
abbrev pub checkpoint_text_1 : ProblemParts → List ℕ → List (List ℕ) → List (List (List ℕ)) → List ℕ
checkpoint_text_1 p bytes found jobs = versioned_text p 1 bytes found jobs

-- the nodes of all jobs
abbrev pub nodes_of_jobs : List (List (List ℕ)) → List (List ℕ)
nodes_of_jobs jobs = flat_map (λ job. job) jobs

-- found touches are kept and in the book's order, jobs have valid nodes, none is empty, and all are independent
pub record CanGoOn (p : ProblemParts) (found : List (List ℕ)) (jobs : List (List (List ℕ))) : Type 0 where
  pub kept : All (Kept p) found
  pub ascending : IsStrictlySortedBy (book_order p) found
  pub filled : All (λ job. 0 < length job) jobs
  pub valid : All (IsValid p) (nodes_of_jobs jobs)
  pub independent : Independent p found (nodes_of_jobs jobs)

-- the text is the checkpoint, in one version or the other, of a problem's file, found touches and jobs from which a
-- search can go on
pub record CheckFile (text bytes : List ℕ) (p : ProblemParts) (found : List (List ℕ)) (jobs : List (List (List ℕ))) : Type 0 where
  pub problem : ProblemFile bytes p
  pub is : (text ≡ checkpoint_text p bytes found jobs) ⊎ (text ≡ checkpoint_text_1 p bytes found jobs)
  pub goes_on : CanGoOn p found jobs

-- the bytes begin as a checkpoint
abbrev pub IsCheckpoint : List ℕ → Type 0
IsCheckpoint text = starts_with nat_eq text (codes "ringsearch checkpoint ") ≡ true
