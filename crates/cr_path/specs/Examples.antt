-- The numbers of Plain Bob Minimus, two leads that have rows in common, and problems of its lead with another query.
use Rattle.std.specs.Prelude.{ℕ, ◌+◌, Bool, true, false, [], ◌∷◌}
use Rattle.cr_model.specs.Problems.{QueryParts, ProblemParts}
use Rattle.cr_model.specs.Examples.{minimus, pair, asks}
use Rattle.cr_path.specs.declared.numbers.table.LeadRecord.{LeadRecord}
use Rattle.cr_path.specs.Numbers.{NumberParts}

-- the record of a lead of eight changes
abbrev pub lead_at : ℕ → ℕ → Bool → LeadRecord
lead_at next limit round = record { next = next; limit = limit; length = 8; round = round }

-- three heads, and three representative rows: number 0 is rounds, which is the last row of the third lead, and 1 and 2 are the first rows of the other two. No two leads have a row in common. Rounds is two leads from the end of the first lead, one from that of the second, and at the end of the third
abbrev pub minimus_numbers : NumberParts
minimus_numbers = record {
  steps = 1;
  heads = (1 ∷ 2 ∷ 3 ∷ 4 ∷ []) ∷ (1 ∷ 3 ∷ 4 ∷ 2 ∷ []) ∷ (1 ∷ 4 ∷ 2 ∷ 3 ∷ []) ∷ [];
  rows = 3;
  records = lead_at 1 1 false ∷ lead_at 2 9 false ∷ lead_at 0 17 true ∷ [];
  width = 1;
  numbers = 1 ∷ 2 ∷ 0 ∷ [];
  twice = false ∷ [];
  fittings = [];
}

-- two leads from rounds, without and with a call. Their first seven rows are the same and their last rows differ: that of the call is rounds. The first lead has one representative row, its first or its last one, with number 1 or 2, and the second has its first one and rounds
abbrev pub called : ProblemParts
called = pair (asks 1 24 1)

abbrev pub called_numbers : ℕ → NumberParts
called_numbers place = record {
  steps = 2;
  heads = (1 ∷ 2 ∷ 3 ∷ 4 ∷ []) ∷ [];
  rows = 3;
  records = lead_at 0 1 false ∷ lead_at 0 1 false ∷ [];
  width = 2;
  numbers = (place + 1) ∷ (place + 1) ∷ 1 ∷ 0 ∷ [];
  twice = false ∷ false ∷ [];
  fittings = [];
}

-- Plain Bob Minimus with another query
abbrev pub minimus_asked : QueryParts → ProblemParts
minimus_asked query = record minimus { query = query }
