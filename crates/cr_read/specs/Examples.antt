-- Problem files of a few lines, and what they say.
use Rattle.std.specs.Prelude.{ℕ, List, [], ◌∷◌, ◌++◌, map, flat_map, codes}
use Rattle.cr_model.specs.Problems.{LeadParts, QueryParts, ProblemParts}
use Rattle.cr_model.specs.Examples.{asks, doubles, on_four}

-- Plain Bob Doubles with a bob, up to 120 changes
abbrev pub stage_line : List ℕ
stage_line = codes "stage = 5\n"

abbrev pub method_lines : List ℕ
method_lines = codes "[[method]]\nletter = \"A\"\nnotation = \"5.1.5.1.5,125\"\n"

abbrev pub call_lines : List ℕ
call_lines = codes "[[call]]\nmark = \"b\"\nnotation = \"145\"\n"

abbrev pub query_lines : List ℕ
query_lines = codes "[query]\nmin = 1\nmax = 120\n"

-- a file in four pieces: the stage, the method, the call, and the query with all that follows
abbrev pub in_pieces : List ℕ → List ℕ → List ℕ → List ℕ → List ℕ
in_pieces stage method call query = stage ++ (method ++ (call ++ query))

-- its file, with more lines in the tables of the method and of the call, and at the end
abbrev pub doubles_with : List ℕ → List ℕ → List ℕ → List ℕ
doubles_with of_method of_call last =
    in_pieces stage_line (method_lines ++ of_method) (call_lines ++ of_call) (query_lines ++ last)

-- the same leads, and another query
abbrev pub doubles_asked : QueryParts → ProblemParts
doubles_asked query = record doubles { query = query }

-- up to 120 changes
abbrev pub plainly : QueryParts
plainly = asks 1 120 1

-- two methods of two changes on four bells, a call `s` for both and a call `b` for the second, with more lines behind
-- those of `s`
abbrev pub two_methods_with : List ℕ → List ℕ
two_methods_with of_call =
    codes "stage = 4\n[[method]]\nletter = \"C\"\nnotation = \"x14\"\n[[method]]\nletter = \"A\"\nnotation = \"14x\"\n"
    ++ (codes "[[call]]\nmark = \"s\"\nnotation = \"12\"\n" ++ (of_call
    ++ codes "[[call]]\nmark = \"b\"\nnotation = \"1234\"\nmethods = \"A\"\n[query]\nmin = 1\nmax = 24\n"))

-- their leads, in the order of the steps: the methods as they stand in the file, and of each the plain lead and then
-- the calls by their marks
abbrev pub lead_on_four : ℕ → ℕ → List (List ℕ) → LeadParts
lead_on_four method mark changes =
    record { step = record { method = method; mark = mark }; changes = map on_four changes }

abbrev pub two_methods : ProblemParts
two_methods = record {
  stage = 4;
  letters = 67 ∷ 65 ∷ [];
  leads =
      lead_on_four 0 112 ([] ∷ (1 ∷ 4 ∷ []) ∷ [])
      ∷ lead_on_four 0 115 ([] ∷ (1 ∷ 2 ∷ []) ∷ [])
      ∷ lead_on_four 1 112 ((1 ∷ 4 ∷ []) ∷ [] ∷ [])
      ∷ lead_on_four 1 98 ((1 ∷ 4 ∷ []) ∷ (1 ∷ 2 ∷ 3 ∷ 4 ∷ []) ∷ [])
      ∷ lead_on_four 1 115 ((1 ∷ 4 ∷ []) ∷ (1 ∷ 2 ∷ []) ∷ [])
      ∷ [];
  query = asks 1 24 1;
}

-- eight methods of one change on five bells, and three calls for all of them
abbrev pub one_change_of : List ℕ → List ℕ
one_change_of letter = codes "[[method]]\nletter = \"" ++ (letter ++ codes "\"\nnotation = \"5\"\n")

abbrev pub one_change_by : List ℕ → List ℕ
one_change_by mark = codes "[[call]]\nmark = \"" ++ (mark ++ codes "\"\nnotation = \"145\"\n")

abbrev pub eight_methods : List ℕ
eight_methods = in_pieces stage_line (flat_map (λ letter. one_change_of (letter ∷ [])) (codes "ABCDEFGH"))
    (flat_map (λ mark. one_change_by (mark ∷ [])) (codes "bcd")) query_lines
