-- Why a text of blocks can't be joined: the first check that does not hold.
use Rattle.std.specs.Prelude.{◌≡◌, ◌≢◌, ℕ, ◌<◌, ◌≤◌, ◌⊎◌, true, false, List, [], ◌++◌, length, get_or, take, map, All}
use Rattle.cr_model.specs.Problems.{ProblemParts}
use Rattle.cr_store.specs.declared.fault.CheckFault.{CheckFault}
use Rattle.cr_store.specs.declared.blocks.Next.TheVariants as next
use Rattle.cr_store.specs.Blocks.{blocks, IsBody, IsNext}
use Rattle.cr_store.specs.Faults.{FirstCheckFault}
use Rattle.cr_store.specs.Progress.{Progress}
use Rattle.cr_shard.specs.Joins.{AreRead, AreOfOne, IsJoinedOf, NoneOverlap, shards_overlap}
use Rattle.cr_shard.specs.declared.fault.JoinFault.{JoinFault}
use Rattle.cr_shard.specs.declared.fault.JoinFault.TheVariants as fault

-- at most so many shards are joined
abbrev pub most_shards : ℕ
most_shards = 1024

-- the text is these bodies as blocks
pub record AreBodies (text : List ℕ) (bodies : List (List ℕ)) : Type 0 where
  pub are : All IsBody bodies
  pub is : text ≡ blocks bodies

-- the text is whole blocks, behind which something stands that is none: the first byte that cannot be, or the text's
-- length where it ends within a block
pub record IsNoBlock (text : List ℕ) (place : ℕ) : Type 0 where
  pub before : List (List ℕ)
  pub are : All IsBody before
  pub rest : List ℕ
  pub is : text ≡ blocks before ++ rest
  pub wrong : IsNext text (length (blocks before)) (next.Form place)
      ⊎ (IsNext text (length (blocks before)) next.Torn × (place ≡ length text))

-- the text is blocks, but none or too many
pub record IsNoNumber (text : List ℕ) (number : ℕ) : Type 0 where
  pub bodies : List (List ℕ)
  pub are : AreBodies text bodies
  pub number_is : number ≡ length bodies
  pub wrong : (number ≡ 0) ⊎ (most_shards < number)

-- the text is bodies as blocks, not too few and not too many
pub record HasBodies (text : List ℕ) (bodies : List (List ℕ)) : Type 0 where
  pub are : AreBodies text bodies
  pub some : 0 < length bodies
  pub few : length bodies ≤ most_shards

-- a body is the first that is no checkpoint, for this cause
pub record IsNoCheckpoint (bodies : List (List ℕ)) (i : ℕ) (why : CheckFault) : Type 0 where
  pub inside : i < length bodies
  pub shards : List Progress
  pub before : AreRead (take i bodies) shards
  pub wrong : FirstCheckFault (get_or bodies i []) why

-- the lists differ, and this is the first place where they do, or the length of the shorter one where that begins the other
pub record DifferFirstAt (one other : List ℕ) (place : ℕ) : Type 0 where
  pub alike : take place one ≡ take place other
  pub inside : place ≤ length one
  pub within : place ≤ length other
  pub more : (place < length one) ⊎ (place < length other)
  pub differ : place < length one → place < length other → get_or one place 0 ≢ get_or other place 0

-- the problem's bytes of a shard
abbrev pub bytes_at : List Progress → ℕ → List ℕ
bytes_at shards i = get_or (map (λ c. c.bytes) shards) i []

-- all shards have the problem's bytes of the first
abbrev pub AreOneFile : List Progress → Type 0
AreOneFile shards = (k : ℕ) → k < length shards → bytes_at shards k ≡ bytes_at shards 0

-- a shard is the first whose problem's bytes are not those of the first shard, from this byte on
pub record IsOtherProblem (shards : List Progress) (i place : ℕ) : Type 0 where
  pub inside : i < length shards
  pub same : (k : ℕ) → k < i → bytes_at shards k ≡ bytes_at shards 0
  pub differ : DifferFirstAt (bytes_at shards 0) (bytes_at shards i) place

-- the shard of the least number that overlaps an earlier one comes second, and before it the least number that it overlaps
pub record IsOverlap (p : ProblemParts) (shards : List Progress) (i j : ℕ) : Type 0 where
  pub order : i < j
  pub inside : j < length shards
  pub overlap : (d : Progress) → shards_overlap p (get_or shards i d) (get_or shards j d) ≡ true
  pub apart : (k m : ℕ) (d : Progress) → k < m → m < j → shards_overlap p (get_or shards k d) (get_or shards m d) ≡ false
  pub least : (k : ℕ) (d : Progress) → k < i → shards_overlap p (get_or shards k d) (get_or shards j d) ≡ false

-- the bodies of a text are checkpoints, and these are what they hold
pub record HasShards (text : List ℕ) (shards : List Progress) : Type 0 where
  pub bodies : List (List ℕ)
  pub has : HasBodies text bodies
  pub read : AreRead bodies shards

-- the fault is that of the first check that does not hold
abbrev pub FirstJoinFault : List ℕ → JoinFault → Type 0
FirstJoinFault text (fault.Form place) = IsNoBlock text place
FirstJoinFault text (fault.Blocks number) = IsNoNumber text number
FirstJoinFault text (fault.Check i why) = (bodies : List (List ℕ)) × HasBodies text bodies × IsNoCheckpoint bodies i why
FirstJoinFault text (fault.OtherProblem i place) = (shards : List Progress) × HasShards text shards × IsOtherProblem shards i place
FirstJoinFault text (fault.Overlap i j) = (shards : List Progress) × (bytes : List ℕ) × (p : ProblemParts) × HasShards text shards
    × AreOfOne bytes p shards × IsOverlap p shards i j
FirstJoinFault text fault.NoMemory = ⊥

-- the text is blocks, not too few and not too many, of checkpoints of one problem, no two of which overlap, and this is
-- what they are joined
pub record IsJoin (text joined : List ℕ) : Type 0 where
  pub bodies : List (List ℕ)
  pub has : HasBodies text bodies
  pub shards : List Progress
  pub read : AreRead bodies shards
  pub bytes : List ℕ
  pub p : ProblemParts
  pub joined_is : IsJoinedOf shards bytes p joined
  pub apart : NoneOverlap p shards
