-- How the rows of a stack hang together, by their keys: each stands in a bucket, and the places of a bucket form a
-- chain, from the last one down.
use Rattle.std.specs.Prelude.{◌≡◌, ◌≢◌, ℕ, zero, suc, ◌-◌, ◌*◌, ◌/◌, ◌%◌, ◌^◌, ◌<◌, ◌≤◌, cond, List, length, get_or, nat_eq}
use Rattle.cr_rowset.specs.Keys.{IsKey}

-- the bucket of a key: the high bits of the key times an odd number
unfoldable pub bucket : ℕ → ℕ → ℕ
bucket shift key = key * 11400714819323198485 % 2 ^ 64 / 2 ^ shift

-- how many buckets there are
unfoldable pub bucket_count : ℕ → ℕ
bucket_count shift = 2 ^ (64 - shift)

-- among the first n keys, one more than the last place of a bucket, or 0 where none is in it
abbrev pub latest : ℕ → List ℕ → ℕ → ℕ → ℕ
latest shift keys b zero = 0
latest shift keys b (suc n) = cond (nat_eq (bucket shift (get_or keys n 0)) b) (suc n) (latest shift keys b n)

-- each bucket has its latest place, and each place has what its bucket had before it
pub record IsChained (shift : ℕ) (buckets before keys : List ℕ) (len : ℕ) : Type 0 where
  pub lasts : (b : ℕ) → b < length buckets → get_or buckets b 0 ≡ latest shift keys b len
  pub links : (i : ℕ) → i < len → get_or before i 0 ≡ latest shift keys (bucket shift (get_or keys i 0)) i

-- what the fields of a row stack keep: its rows have the first len of the keys
pub record IsStack (shift : ℕ) (buckets before keys : List ℕ) (len : ℕ) : Type 0 where
  pub chained : IsChained shift buckets before keys len
  pub some_bits : shift < 64
  pub counted : length buckets ≡ bucket_count shift
  pub linked : length before ≡ length keys
  pub few : length keys ≤ 4294967295
  pub within : len ≤ length keys
  pub held : (i : ℕ) → i < len → IsKey (get_or keys i 0)
  pub differ : (i j : ℕ) → i < j → j < len → get_or keys i 0 ≢ get_or keys j 0

-- a look-up on its way: below the mark lies each place where the key can stand, and the chain goes on there
pub record Seeks (keys before : List ℕ) (len mark key : ℕ) : Type 0 where
  pub shift : ℕ
  pub links : (i : ℕ) → i < len → get_or before i 0 ≡ latest shift keys (bucket shift (get_or keys i 0)) i
  pub within : mark ≤ len
  pub here : 0 < mark → bucket shift (get_or keys (mark - 1) 0) ≡ bucket shift key
  pub gone : (i : ℕ) → mark ≤ i → i < len → get_or keys i 0 ≢ key
