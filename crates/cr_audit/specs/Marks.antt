-- The buckets that rows are marked in.
use Rattle.std.specs.Prelude.{◌≡◌, ℕ, ◌*◌, ◌/◌, ◌%◌, ◌^◌, List, get_or, All}
use Rattle.cr_row.specs.Packed.{key_of}

-- how many there are
unfoldable pub bucket_count : ℕ
bucket_count = 524288

-- a row's bucket: some bits of its key times an odd number
unfoldable pub bucket : List ℕ → ℕ
bucket row = key_of row * 11400714819323198485 % 2 ^ 64 / 2 ^ 40 % 524288

-- the bucket of each row has the mark
abbrev pub AreMarked : List ℕ → ℕ → List (List ℕ) → Type 0
AreMarked at mark rows = All (λ row. get_or at (bucket row) 0 ≡ mark) rows
