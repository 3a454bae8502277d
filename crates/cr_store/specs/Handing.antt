-- The nodes of a checkpoint's lines, handed to a sink one after another.
use Rattle.std.specs.Prelude.{◌≡◌, ℕ, ◌<◌, List, ◌∷◌, [], ◌++◌, length, codes, All}
use Rattle.cr_model.specs.Problems.{ProblemParts}
use Rattle.cr_model.specs.Nodes.{IsValid}
use Rattle.cr_model.specs.Checkpoints.{number_line, node_line, node_lines, last_node, job_lines, nodes_of_jobs}
use Rattle.cr_store.specs.Written.{tail_text}

-- a text behind found touches is that of some jobs of valid nodes, none of which is empty, and whoever had taken some
-- nodes has taken all of these too, in order
pub record IsHanded (p : ProblemParts) (text : List ℕ) (Before After : List (List ℕ) → Type 0) : Type 0 where
  pub jobs : List (List (List ℕ))
  pub is : text ≡ tail_text p jobs
  pub filled : All (λ job. 0 < length job) jobs
  pub valid : All (IsValid p) (nodes_of_jobs jobs)
  pub took : (nodes : List (List ℕ)) → Before nodes → After (nodes ++ nodes_of_jobs jobs)

-- the same of the line of one node after another, and what comes after it
pub record HandsNode (p : ProblemParts) (text last rest node : List ℕ) (Before After : List (List ℕ) → Type 0) : Type 0 where
  pub is : text ≡ node_line p 2 last node ++ rest
  pub valid : IsValid p node
  pub took : (nodes : List (List ℕ)) → Before nodes → After (nodes ++ node ∷ [])

-- of the lines of so many nodes, of which the first comes after a node; the last of them comes next
pub record HandsNodes (p : ProblemParts) (text before rest last : List ℕ) (Before After : List (List ℕ) → Type 0) (number : ℕ) : Type 0 where
  pub job : List (List ℕ)
  pub many : length job ≡ number
  pub is : text ≡ node_lines p 2 before job ++ rest
  pub last_is : last ≡ last_node before job
  pub valid : All (IsValid p) job
  pub took : (nodes : List (List ℕ)) → Before nodes → After (nodes ++ job)

-- of the lines of a job
pub record HandsJob (p : ProblemParts) (text before rest last : List ℕ) (Before After : List (List ℕ) → Type 0) : Type 0 where
  pub number : ℕ
  pub some : 0 < number
  pub lines : List ℕ
  pub is : text ≡ number_line (codes "job") number ++ lines
  pub nodes : HandsNodes p lines before rest last Before After number

-- and of the lines of so many jobs
pub record HandsJobs (p : ProblemParts) (text before rest last : List ℕ) (Before After : List (List ℕ) → Type 0) (number : ℕ) : Type 0 where
  pub jobs : List (List (List ℕ))
  pub many : length jobs ≡ number
  pub is : text ≡ job_lines p 2 before jobs ++ rest
  pub last_is : last ≡ last_node before (nodes_of_jobs jobs)
  pub filled : All (λ job. 0 < length job) jobs
  pub valid : All (IsValid p) (nodes_of_jobs jobs)
  pub took : (nodes : List (List ℕ)) → Before nodes → After (nodes ++ nodes_of_jobs jobs)
