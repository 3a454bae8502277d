-- Joined shards: one checkpoint of many.
use Rattle.std.specs.Prelude.{◌≡◌, ℕ, ◌<◌, Bool, false, ◌||◌, nat_eq, List, length, get_or, flat_map, All}
use Rattle.std.specs.List.{list_any, AllZip}
use Rattle.std.specs.List.Sorted.{IsPermutation, IsStrictlySortedBy}
use Rattle.std.specs.Cmp.Lexicographic.{pointwise}
use Rattle.cr_model.specs.Problems.{ProblemParts}
use Rattle.cr_model.specs.Nodes.{is_prefix, is_above}
use Rattle.cr_model.specs.Books.{book_order}
use Rattle.cr_model.specs.Checkpoints.{CheckFile, checkpoint_text, nodes_of_jobs}
use Rattle.cr_store.specs.Progress.{Progress}

-- a body is the checkpoint that holds this
abbrev pub IsRead : List ℕ → Progress → Type 0
IsRead body c = CheckFile body c.bytes c.problem c.found c.jobs

-- each body is a checkpoint, and this is what they hold
abbrev pub AreRead : List (List ℕ) → List Progress → Type 0
AreRead bodies shards = AllZip IsRead bodies shards

-- the shards are of one problem, with the same bytes
abbrev pub AreOfOne : List ℕ → ProblemParts → List Progress → Type 0
AreOfOne bytes p shards = All (λ c. (c.bytes ≡ bytes) × (c.problem ≡ p)) shards

-- what all shards found, shard by shard
abbrev pub all_found : List Progress → List (List ℕ)
all_found shards = flat_map (λ c. c.found) shards

-- the jobs of all shards, shard by shard
abbrev pub all_jobs : List Progress → List (List (List ℕ))
all_jobs shards = flat_map (λ c. c.jobs) shards

-- the nodes of a shard
abbrev pub nodes_of : Progress → List (List ℕ)
nodes_of c = nodes_of_jobs c.jobs

-- the text is the shards as one checkpoint: what all found, in the book's order, and the jobs of all, shard by shard
pub record IsJoinedOf (shards : List Progress) (bytes : List ℕ) (p : ProblemParts) (text : List ℕ) : Type 0 where
  pub of_one : AreOfOne bytes p shards
  pub found : List (List ℕ)
  pub same : IsPermutation (all_found shards) found
  pub ascending : IsStrictlySortedBy (book_order p) found
  pub is : text ≡ checkpoint_text p bytes found (all_jobs shards)

-- the bodies are checkpoints of one problem, some at least, and the text is these joined
pub record IsJoined (bodies : List (List ℕ)) (text : List ℕ) : Type 0 where
  pub some : 0 < length bodies
  pub shards : List Progress
  pub read : AreRead bodies shards
  pub bytes : List ℕ
  pub p : ProblemParts
  pub joined : IsJoinedOf shards bytes p text

-- both found one touch
abbrev pub share_a_touch : Progress → Progress → Bool
share_a_touch c other = list_any (λ touch. list_any (pointwise nat_eq touch) other.found) c.found

-- a node of the first is above a touch that the other found
abbrev pub has_above : ProblemParts → Progress → Progress → Bool
has_above p c other = list_any (λ node. list_any (is_above p node) other.found) (nodes_of c)

-- a node of the first begins a node of the other, or is one
abbrev pub has_before : Progress → Progress → Bool
has_before c other = list_any (λ node. list_any (is_prefix node) (nodes_of other)) (nodes_of c)

-- two shards overlap: both found one touch, or a node of one is above a touch that the other found or begins a node of it
abbrev pub shards_overlap : ProblemParts → Progress → Progress → Bool
shards_overlap p c other =
    share_a_touch c other || (has_above p c other || (has_above p other c || (has_before c other || has_before other c)))

-- no two of the shards overlap
abbrev pub NoneOverlap : ProblemParts → List Progress → Type 0
NoneOverlap p shards = (i j : ℕ) (d : Progress) → i < j → j < length shards → shards_overlap p (get_or shards i d) (get_or shards j d) ≡ false
