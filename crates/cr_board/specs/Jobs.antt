-- Jobs with their numbers, tickets, and openings.
use Rattle.std.specs.Prelude.{ℕ, ◌+◌, ◌<◌, ◌≤◌, List, [], ◌∷◌, length, flat_map, All, Option}
use Rattle.std.specs.List.Sorted.{IsStrictlySortedBy}
use Rattle.cr_model.specs.Problems.{ProblemParts}
use Rattle.cr_model.specs.Touches.{Kept}
use Rattle.cr_model.specs.Nodes.{IsValid, Independent}
use Rattle.cr_model.specs.Books.{book_order}

-- a job with its number
pub record JobParts : Type 0 where
  pub number : ℕ
  pub nodes : List (List ℕ)

-- what a worker gets when it takes a job
pub record TicketParts : Type 0 where
  pub number : ℕ
  pub grant : ℕ
  pub nodes : List (List ℕ)

-- from what a board is opened
pub record OpeningParts : Type 0 where
  pub problem : ProblemParts
  pub found : List (List ℕ)
  pub jobs : List (List (List ℕ))
  pub budget : Option ℕ
  pub workers : ℕ

-- the nodes of all jobs of an opening
abbrev pub opening_nodes : OpeningParts → List (List ℕ)
opening_nodes o = flat_map (λ job. job) o.jobs

-- found touches are kept and in the book's order, jobs have valid nodes, all are independent, and there are 1 to 64 workers
pub record IsOpening (o : OpeningParts) : Type 0 where
  pub kept : All (Kept o.problem) o.found
  pub ascending : IsStrictlySortedBy (book_order o.problem) o.found
  pub filled : All (λ job. 0 < length job) o.jobs
  pub valid : All (IsValid o.problem) (opening_nodes o)
  pub independent : Independent o.problem o.found (opening_nodes o)
  pub some : 1 ≤ o.workers
  pub few : o.workers ≤ 64

-- jobs numbered one after another
abbrev pub numbered : ℕ → List (List (List ℕ)) → List JobParts
numbered next [] = []
numbered next (nodes ∷ jobs) = record { number = next; nodes = nodes } ∷ numbered (next + 1) jobs

abbrev pub opening_from : ProblemParts → List (List ℕ) → List (List (List ℕ)) → Option ℕ → ℕ → OpeningParts
opening_from problem found jobs budget workers = record { problem = problem; found = found; jobs = jobs; budget = budget; workers = workers }
