-- Nodes of which no two overlap, told by hashes of their steps: each node's hash is one of a list, at a place that no other
-- node has, and that of no node above it is.
use Rattle.std.specs.Prelude.{◌≡◌, ◌≢◌, ℕ, ◌+◌, ◌*◌, ◌%◌, ◌^◌, ◌<◌, ◌≤◌, Bool, true, false, List, [], ◌∷◌, length, get_or, set, take, All}

-- the hash after a step
abbrev pub hash_after : ℕ → ℕ → ℕ
hash_after hash step = ((hash * 11400714819323198485) % 2 ^ 64 + (step + 1)) % 2 ^ 64

abbrev pub hash_from : ℕ → List ℕ → ℕ
hash_from hash [] = hash
hash_from hash (step ∷ steps) = hash_from (hash_after hash step) steps

-- the hash of steps
abbrev pub hash_of : List ℕ → ℕ
hash_of steps = hash_from 0 steps

-- each number is less than those after it
abbrev pub Rise : List ℕ → Type 0
Rise numbers = (i j : ℕ) → i < j → j < length numbers → get_or numbers i 0 < get_or numbers j 0

-- a hash is none of these
abbrev pub IsMissing : List ℕ → ℕ → Type 0
IsMissing hashes hash = (k : ℕ) → k < length hashes → get_or hashes k 0 ≢ hash

-- the hash of no node above the steps, other than theirs, is one of these
abbrev pub IsClean : List ℕ → List ℕ → Type 0
IsClean hashes steps = (n : ℕ) → n < length steps → IsMissing hashes (hash_of (take n steps))

-- nor is theirs
abbrev pub IsClear : List ℕ → List ℕ → Type 0
IsClear hashes steps = (n : ℕ) → n ≤ length steps → IsMissing hashes (hash_of (take n steps))

-- hashes, and which of their nodes were come to
pub record KnownParts : Type 0 where
  pub hashes : List ℕ
  pub seen : List Bool

-- a hash has one place, which was not come to, and then it was
pub record ComesTo (old : KnownParts) (hash : ℕ) (new : KnownParts) : Type 0 where
  pub place : ℕ
  pub within : place < length old.seen
  pub is : get_or old.hashes place 0 ≡ hash
  pub inside : place < length old.hashes
  pub one : (k : ℕ) → k < length old.hashes → get_or old.hashes k 0 ≡ hash → k ≡ place
  pub fresh : get_or old.seen place false ≡ false
  pub hashes_are : new.hashes ≡ old.hashes
  pub seen_are : new.seen ≡ set old.seen place true

-- a node's place was come to
pub record IsSeen (hashes : List ℕ) (seen : List Bool) (node : List ℕ) : Type 0 where
  pub place : ℕ
  pub inside : place < length hashes
  pub is : get_or hashes place 0 ≡ hash_of node
  pub come : get_or seen place false ≡ true

-- nodes were come to, each once, and none of them through another
pub record AreSeen (hashes : List ℕ) (seen : List Bool) (nodes : List (List ℕ)) : Type 0 where
  pub each : All (IsSeen hashes seen) nodes
  pub clean : All (IsClean hashes) nodes
  pub apart : (i j : ℕ) → i < j → j < length nodes → get_or nodes i [] ≢ get_or nodes j []
