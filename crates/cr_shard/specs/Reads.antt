-- Steps of reading a text of blocks, and of what is sorted to see whether shards overlap.
use Rattle.std.specs.Prelude.{◌≡◌, ℕ, ◌+◌, ◌<◌, ◌⊎◌, Bool, false, not, ◌&&◌, ◌||◌, nat_eq, List, [], ◌++◌, length, take, drop, map, flat_map, All, Option, Some, None}
use Rattle.std.specs.List.{IsDistinct}
use Rattle.std.specs.Cmp.Lexicographic.{pointwise}
use denote.Ref.{Bor}
use Rattle.cr_model.specs.Problems.{ProblemParts}
use Rattle.cr_model.specs.Nodes.{is_prefix}
use Rattle.cr_model.specs.Checkpoints.{CanGoOn}
use Rattle.cr_model.specs.ProblemFiles.{ProblemFile}
use Rattle.cr_node.specs.Overlaps.{Item, of_found, of_node, items, item_at}
use Rattle.cr_store.specs.declared.fault.CheckFault.{CheckFault}
use Rattle.cr_store.specs.Blocks.{blocks, IsBody}
use Rattle.cr_store.specs.Faults.{FirstCheckFault}
use Rattle.cr_store.specs.Progress.{Progress}
use Rattle.cr_shard.specs.Joins.{IsRead, AreOfOne, IsJoinedOf, nodes_of, NoneOverlap}
use Rattle.cr_shard.specs.JoinFaults.{IsNoCheckpoint, IsOtherProblem, IsOverlap}
use Rattle.cr_shard.specs.declared.fault.JoinFault.{JoinFault}
use Rattle.cr_shard.specs.declared.fault.JoinFault.TheVariants as fault
use Rattle.cr_shard.specs.declared.words.Word.{Word}

-- bytes that are seen through references
abbrev pub bytes_seen : List (Bor (List ℕ)) → List (List ℕ)
bytes_seen bodies = map (λ body. body.now) bodies

-- the text was read up to this place: these bodies as blocks, and a rest
pub record IsReadTo (text : List ℕ) (at : ℕ) (bodies : List (List ℕ)) : Type 0 where
  pub are : All IsBody bodies
  pub rest : List ℕ
  pub is : text ≡ blocks bodies ++ rest
  pub at_is : at ≡ length (blocks bodies)

-- no memory was left, or this
abbrev pub OrNoMemory : (JoinFault → Type 0) → JoinFault → Type 0
OrNoMemory Fails why = (why ≡ fault.NoMemory) ⊎ Fails why

-- a body is no checkpoint
abbrev pub IsRefused : List ℕ → ℕ → JoinFault → Type 0
IsRefused body i why = (cause : CheckFault) × (why ≡ fault.Check i cause) × FirstCheckFault body cause

-- a body is the first that is no checkpoint
abbrev pub AreRefused : List (List ℕ) → JoinFault → Type 0
AreRefused bodies why = (i : ℕ) × (cause : CheckFault) × (why ≡ fault.Check i cause) × IsNoCheckpoint bodies i cause

-- the item of a word
abbrev pub item_of : Word → Item
item_of word = record { word = word.steps.now; found = word.is_found }

abbrev pub items_of : List Word → List Item
items_of words = map item_of words

-- what a shard found and its nodes, as items
abbrev pub shard_items : ProblemParts → Progress → List Item
shard_items p c = items p c.found (nodes_of c)

-- the items of all shards
abbrev pub all_items : ProblemParts → List Progress → List Item
all_items p shards = flat_map (shard_items p) shards

-- a node begins the other item's word, or both were found and have one word
abbrev pub clashes : Item → Item → Bool
clashes item other = (not item.found && is_prefix item.word other.word) || (item.found && (other.found && pointwise nat_eq item.word other.word))

-- one of the two clashes with the other
abbrev pub meet : Item → Item → Bool
meet item other = clashes item other || clashes other item

-- no two of the items meet
abbrev pub NoneMeet : List Item → Type 0
NoneMeet all = IsDistinct meet all

-- found touches as items, and nodes
abbrev pub found_items : ProblemParts → List (List ℕ) → List Item
found_items p found = map (of_found p) found

abbrev pub node_items : List (List ℕ) → List Item
node_items nodes = map of_node nodes

-- no item clashes with the one after it
abbrev pub NoneClashNext : List Item → Type 0
NoneClashNext all = (k : ℕ) → k + 1 < length all → clashes (item_at all k) (item_at all (k + 1)) ≡ false

-- two items of the first shards meet
abbrev pub FrontMeets : ProblemParts → List Progress → ℕ → Type 0
FrontMeets p shards number = NoneMeet (all_items p (take number shards)) → ⊥

-- two items of the first shards and of a later one meet
abbrev pub FrontMeetsOne : ProblemParts → List Progress → ℕ → ℕ → Type 0
FrontMeetsOne p shards later number = NoneMeet (all_items p (take number shards ++ take 1 (drop later shards))) → ⊥

-- what each shard found and its nodes are those of a checkpoint
abbrev pub CanMeet : ProblemParts → List Progress → Type 0
CanMeet p shards = All (λ c. CanGoOn p c.found c.jobs) shards

-- none where no two shards overlap, else the first two that do
abbrev pub TellsOverlap : ProblemParts → List Progress → Option (ℕ × ℕ) → Type 0
TellsOverlap p shards None = NoneOverlap p shards
TellsOverlap p shards (Some pair) = IsOverlap p shards pair.0 pair.1

-- a shard was read from some body
abbrev pub IsHeld : Progress → Type 0
IsHeld c = (body : List ℕ) × IsRead body c

-- the text is the shards joined, no two of which overlap
pub record IsJoinOf (shards : List Progress) (text : List ℕ) : Type 0 where
  pub bytes : List ℕ
  pub p : ProblemParts
  pub joined_is : IsJoinedOf shards bytes p text
  pub apart : NoneOverlap p shards

-- the shards are of one problem, and no two of them overlap
pub record CanJoin (shards : List Progress) : Type 0 where
  pub bytes : List ℕ
  pub p : ProblemParts
  pub file : ProblemFile bytes p
  pub of_one : AreOfOne bytes p shards
  pub can_meet : CanMeet p shards
  pub apart : NoneOverlap p shards

-- a shard without what it found
abbrev pub without_found : Progress → Progress
without_found c = record { bytes = c.bytes; problem = c.problem; found = []; jobs = c.jobs }

-- shards can't be joined for this cause
abbrev pub IsUnjoinable : List Progress → JoinFault → Type 0
IsUnjoinable shards (fault.OtherProblem i place) = IsOtherProblem shards i place
IsUnjoinable shards (fault.Overlap i j) = (bytes : List ℕ) × (p : ProblemParts) × AreOfOne bytes p shards × IsOverlap p shards i j
IsUnjoinable shards why = ⊥
