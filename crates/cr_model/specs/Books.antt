-- The book: what is covered, in order, and its text.
use Rattle.std.specs.Prelude.{ℕ, ◌↔◌, cond, nat_lt, List, [], ◌∷◌, ◌++◌, length, flat_map, codes, decimal, Contains}
use Rattle.std.specs.Cmp.Lexicographic.{slice_cmp}
use Rattle.std.specs.Ordering.{nat_cmp, ordering_then}
use Rattle.std.specs.List.Sorted.{IsStrictlySortedBy}
use Rattle.std.specs.declared.cmp.Ordering.{Ordering}
use Rattle.cr_model.specs.Problems.{ProblemParts}
use Rattle.cr_model.specs.Callings.{length_of, letter_of, mark_of}
use Rattle.cr_model.specs.Nodes.{Covers}

-- by length, and at one length by the list of step numbers
abbrev pub book_order : ProblemParts → List ℕ → List ℕ → Ordering
book_order p calling other = ordering_then (nat_cmp (length_of p calling) (length_of p other)) (slice_cmp nat_cmp calling other)

-- the book: strictly ascending, and each calling stands in it exactly where it is covered
pub record IsBook (p : ProblemParts) (found nodes book : List (List ℕ)) : Type 0 where
  pub ascending : IsStrictlySortedBy (book_order p) book
  pub covered : (calling : List ℕ) → Contains book calling ↔ Covers p found nodes calling

-- a lead: its method's letter, if there are several methods, and its mark
abbrev pub lead_text : ProblemParts → ℕ → List ℕ
lead_text p step = cond (nat_lt 1 (length p.letters)) (letter_of p step ∷ mark_of p step ∷ []) (mark_of p step ∷ [])

-- its leads, with nothing between them
abbrev pub calling_text : ProblemParts → List ℕ → List ℕ
calling_text p calling = flat_map (lead_text p) calling

-- a line of the book: the length, a space and the calling
abbrev pub book_line : ProblemParts → List ℕ → List ℕ
book_line p calling = decimal (length_of p calling) ++ codes " " ++ calling_text p calling ++ codes "\n"

-- a line for each touch, and their number
abbrev pub book_text : ProblemParts → List (List ℕ) → List ℕ
book_text p book = flat_map (book_line p) book ++ codes "touches " ++ decimal (length book) ++ codes "\n"
