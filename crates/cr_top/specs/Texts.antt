-- The text that belongs to an input.
use Rattle.std.specs.Prelude.{◌≡◌, ℕ, ◌+◌, ◌<◌, ◌↔◌, List, length, Option, Some, None}
use Rattle.cr_model.specs.Problems.{ProblemParts}
use Rattle.cr_model.specs.Sizes.{most_rows, size_of_all}
use Rattle.cr_model.specs.Books.{IsBook, book_text}
use Rattle.cr_model.specs.ProblemFiles.{FirstProblemFault}
use Rattle.cr_model.specs.declared.file_fault.ProblemFault.{ProblemFault}
use Rattle.cr_model.specs.Nodes.{Covers}
use Rattle.cr_model.specs.Checkpoints.{CanGoOn, IsCheckpoint, checkpoint_text, nodes_of_jobs}
use Rattle.cr_model.specs.Inputs.{Input, SameCover}
use Rattle.cr_book.specs.Pieces.{pieces_joined, IsTextOfFound}
use Rattle.cr_store.specs.Searches.{WentOn}
use Rattle.cr_store.specs.Faults.{FirstCheckFault}
use Rattle.cr_store.specs.declared.fault.CheckFault.{CheckFault}
use Rattle.cr_trail.specs.Runs.{KeepsTo}
use Rattle.cr_top.specs.declared.outcome.Outcome.{Outcome}

-- the text is that of the book of what the input covers, whose size keeps to the turns that are allowed
pub record IsBookOf (turns : Option ℕ) (input text : List ℕ) : Type 0 where
  pub bytes : List ℕ
  pub p : ProblemParts
  pub found : List (List ℕ)
  pub nodes : List (List ℕ)
  pub of_input : Input input bytes p found nodes
  pub keeps : KeepsTo turns (size_of_all p most_rows nodes)
  pub book : List (List ℕ)
  pub is_book : IsBook p found nodes book
  pub is : text ≡ book_text p book

-- the text is a checkpoint, in version 2, that covers what the input covers. Some node is left, and so many turns have
-- made the size of the nodes less
pub record IsStopOf (turns : ℕ) (input text : List ℕ) : Type 0 where
  pub same : SameCover input text
  pub jobs : List (List (List ℕ))
  pub nodes_are : same.other_nodes ≡ nodes_of_jobs jobs
  pub is : text ≡ checkpoint_text same.p same.bytes same.other_found jobs
  pub some : 0 < length same.other_nodes
  pub size : size_of_all same.p most_rows same.other_nodes + turns ≡ size_of_all same.p most_rows same.nodes

-- the text belongs to the input: its book, or a checkpoint after the turns that are allowed
abbrev pub IsReached : Option ℕ → List ℕ → List ℕ → Option ℕ → Type 0
IsReached turns input text None = IsBookOf turns input text
IsReached turns input text (Some after) = (turns ≡ Some after) × IsStopOf after input text

-- one of the two: the checkpoint where the turns that are allowed are less than the size of its nodes, and else the book
abbrev pub IsTextOf : Option ℕ → List ℕ → List ℕ → Type 0
IsTextOf turns input text = (stopped : Option ℕ) × IsReached turns input text stopped

-- the input is no checkpoint, and no problem for this reason
abbrev pub IsNoProblem : List ℕ → ProblemFault → Type 0
IsNoProblem input fault = (IsCheckpoint input → ⊥) × FirstProblemFault input fault

-- the input begins as a checkpoint, and is none for this reason
abbrev pub IsNoCheckpoint : List ℕ → CheckFault → Type 0
IsNoCheckpoint input fault = IsCheckpoint input × FirstCheckFault input fault

-- where a search went on to these found touches and jobs, one can go on from the touches in this order and the jobs
abbrev pub GoesOnOrdered : ProblemParts → List (List ℕ) → List (List (List ℕ)) → List (List ℕ) → List (List (List ℕ)) → Type 0
GoesOnOrdered p found jobs ordered left = (before : List (List ℕ)) (begun : List (List (List ℕ))) (spent : ℕ)
    → WentOn p before begun found jobs spent → CanGoOn p ordered left

-- and these cover what was covered before it went on
abbrev pub CoversOrdered : ProblemParts → List (List ℕ) → List (List (List ℕ)) → List (List ℕ) → List (List (List ℕ)) → Type 0
CoversOrdered p found jobs ordered left = (before : List (List ℕ)) (begun : List (List (List ℕ))) (spent : ℕ)
    → WentOn p before begun found jobs spent → (calling : List ℕ)
    → Covers p ordered (nodes_of_jobs left) calling ↔ Covers p before (nodes_of_jobs begun) calling

-- the text is the checkpoint of found touches, put in order, and jobs
pub record IsStopText (p : ProblemParts) (bytes : List ℕ) (found : List (List ℕ)) (jobs : List (List (List ℕ))) (text : List ℕ) : Type 0 where
  pub ordered : List (List ℕ)
  pub goes_on : GoesOnOrdered p found jobs ordered jobs
  pub covers : CoversOrdered p found jobs ordered jobs
  pub is : text ≡ checkpoint_text p bytes ordered jobs

-- the text of found touches and jobs: a checkpoint where the search stopped, and else the book
abbrev pub IsTextAfter : ProblemParts → List ℕ → List (List ℕ) → List (List (List ℕ)) → Option ℕ → List ℕ → Type 0
IsTextAfter p bytes found jobs None text = IsTextOfFound p found text
IsTextAfter p bytes found jobs (Some after) text = IsStopText p bytes found jobs text

-- the pieces joined are the text that belongs to the input, and the search stopped after so many turns
abbrev pub IsOutcomeOf : Option ℕ → List ℕ → Outcome → Type 0
IsOutcomeOf turns input made = IsReached turns input (pieces_joined made.pieces.items) made.stopped
