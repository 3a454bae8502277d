-- Kept touches, and those of a book, have steps of their problem alone.
use Rattle.std.proofs.Common.{ℕ, List, get_or}
use Rattle.std.specs.Prelude.{All}
use Rattle.std.proofs.lemmas.List.{get_or_default}
use Rattle.cr_model.specs.Problems.{ProblemParts}
use Rattle.cr_model.specs.Callings.{HasSteps}
use Rattle.cr_model.specs.Touches.{Kept}
use Rattle.cr_model.specs.Books.{IsBook}

pub steps_of_kept : (p : ProblemParts) (found : List (List ℕ)) → All (Kept p) found → All (HasSteps p) found
steps_of_kept p found kept = λ i d within. (kept i d within).wanted.steps

pub steps_of_book : (p : ProblemParts) (found nodes book : List (List ℕ)) → IsBook p found nodes book → All (HasSteps p) book
steps_of_book p found nodes book is = λ k d within. ((is.covered (get_or book k d)).0 (k, within, get_or_default book k (get_or book k d) d within)).kept.wanted.steps
