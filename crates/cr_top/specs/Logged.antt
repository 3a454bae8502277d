-- What a log of a whole search is written as.
use Rattle.std.specs.Prelude.{ℕ, List, [], ◌∷◌}
use Rattle.cr_model.specs.Problems.{ProblemParts}
use Rattle.cr_model.specs.Checkpoints.{IsCheckpoint}
use Rattle.cr_model.specs.ProblemFiles.{ProblemFile}
use Rattle.cr_model.specs.Books.{IsBook, book_text}
use Rattle.cr_audit.specs.Logs.{LineParts, Proves, log_text}
use Rattle.cr_log.specs.FirstVerdicts.{IsFirstLog}
use Rattle.cr_shard.specs.JoinFaults.{AreBodies}

-- the input is a problem's file, and the text is three blocks: the input, the text of the problem's book, and that of the
-- problem's log, which has the first verdict that holds of each node and proves the book
pub record IsLogOf (input text : List ℕ) : Type 0 where
  pub begins : IsCheckpoint input → ⊥
  pub p : ProblemParts
  pub file : ProblemFile input p
  pub book : List (List ℕ)
  pub is_book : IsBook p [] ([] ∷ []) book
  pub lines : List LineParts
  pub first : IsFirstLog p lines
  pub proved : Proves p (log_text p lines) book
  pub are : AreBodies text (input ∷ book_text p book ∷ log_text p lines ∷ [])
