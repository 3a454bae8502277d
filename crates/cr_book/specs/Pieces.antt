-- The text of the book of found touches, which may come in pieces.
use Rattle.std.specs.Prelude.{◌≡◌, ℕ, List, flat_map}
use Rattle.std.specs.Global.{Vec}
use Rattle.std.specs.List.Sorted.{IsPermutation, IsSorted}
use Rattle.cr_model.specs.Problems.{ProblemParts}
use Rattle.cr_model.specs.Books.{book_order, book_line, book_text}

-- pieces of a text, one after another
abbrev pub pieces_joined : List (Vec ℕ) → List ℕ
pieces_joined pieces = flat_map (λ piece. piece.items) pieces

-- the text is the lines of found touches, put in the book's order
pub record AreLinesOfFound (p : ProblemParts) (found : List (List ℕ)) (text : List ℕ) : Type 0 where
  pub book : List (List ℕ)
  pub same : IsPermutation found book
  pub ascending : IsSorted (book_order p) book
  pub are : text ≡ flat_map (book_line p) book

-- the text is that of found touches, put in the book's order
pub record IsTextOfFound (p : ProblemParts) (found : List (List ℕ)) (text : List ℕ) : Type 0 where
  pub book : List (List ℕ)
  pub same : IsPermutation found book
  pub ascending : IsSorted (book_order p) book
  pub is : text ≡ book_text p book
