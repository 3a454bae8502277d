-- What a query counts a step by.
use Rattle.std.specs.Prelude.{ℕ}
use Rattle.cr_model.specs.Problems.{ProblemParts}
use Rattle.cr_model.specs.Callings.{method_of, mark_of, letter_of, lead_length}
use Rattle.cr_query.specs.declared.kinds.Kind.{Kind}

-- the method, the mark and the letter of a step, and its number of changes
abbrev pub kind_of : ProblemParts → ℕ → Kind
kind_of p step = record { method = method_of p step; mark = mark_of p step; letter = letter_of p step; length = lead_length p step }
