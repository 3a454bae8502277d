-- Rows that are rung on past those of a node.
use Rattle.std.specs.Prelude.{◌≡◌, ℕ, List, Option, Some, None, All, Contains}
use Rattle.cr_row.specs.Rows.{Places}
use Rattle.cr_model.specs.Callings.{rows_from, last_of}

-- none of some more rows stands among these
abbrev pub AreNew : List (List ℕ) → List (List ℕ) → Type 0
AreNew rows more = All (λ row. Contains rows row → ⊥) more

-- changes rung from a row, past others: the last row, where none that comes stands among those, and else none
abbrev pub RingsPast : List (List ℕ) → List ℕ → List Places → Option (List ℕ) → Type 0
RingsPast rows row changes None = AreNew rows (rows_from row changes) → ⊥
RingsPast rows row changes (Some last) = (last ≡ last_of row (rows_from row changes)) × AreNew rows (rows_from row changes)
