-- Shards: what is found and left of one search, dealt to many checkpoints.
use Rattle.std.specs.Prelude.{◌≡◌, ℕ, ◌+◌, ◌%◌, ◌<◌, cond, nat_eq, List, [], ◌∷◌, ◌++◌, length, get_or, map}
use Rattle.std.specs.List.{range_with_len}
use Rattle.std.specs.Global.{Vec}
use denote.Ref.{Bor}
use Rattle.cr_model.specs.Problems.{ProblemParts}
use Rattle.cr_model.specs.Checkpoints.{checkpoint_text, nodes_of_jobs}
use Rattle.cr_store.specs.Blocks.{blocks}

-- of nodes whose positions are counted on from a number, those whose position leaves this remainder, in order
abbrev pub dealt_from : ℕ → ℕ → ℕ → List (List ℕ) → List (List ℕ)
dealt_from into shard at [] = []
dealt_from into shard at (node ∷ nodes) = cond (nat_eq (at % into) shard) (node ∷ []) [] ++ dealt_from into shard (at + 1) nodes

-- the nodes of a shard: those at the positions that leave its number when they are divided by the number of shards
abbrev pub dealt_nodes : ℕ → ℕ → List (List ℕ) → List (List ℕ)
dealt_nodes into shard nodes = dealt_from into shard 0 nodes

-- the found touches of a shard: all stand in shard 0
abbrev pub dealt_found : ℕ → List (List ℕ) → List (List ℕ)
dealt_found shard found = cond (nat_eq shard 0) found []

-- nodes as one job, or as no job where there are none
abbrev pub as_jobs : List (List ℕ) → List (List (List ℕ))
as_jobs [] = []
as_jobs (node ∷ nodes) = (node ∷ nodes) ∷ []

-- the checkpoint of a shard
abbrev pub shard_text : ProblemParts → List ℕ → List (List ℕ) → List (List (List ℕ)) → ℕ → ℕ → List ℕ
shard_text p bytes found jobs into shard =
    checkpoint_text p bytes (dealt_found shard found) (as_jobs (dealt_nodes into shard (nodes_of_jobs jobs)))

-- these are the shards of a search, so many: each is the checkpoint of the found touches and the nodes that are dealt to it
pub record IsDealt (p : ProblemParts) (bytes : List ℕ) (found : List (List ℕ)) (jobs : List (List (List ℕ))) (into : ℕ) (shards : List (List ℕ)) : Type 0 where
  pub many : length shards ≡ into
  pub each : (shard : ℕ) → shard < into → get_or shards shard [] ≡ shard_text p bytes found jobs into shard

-- the text is the shards of a search as blocks
pub record IsCut (p : ProblemParts) (bytes : List ℕ) (found : List (List ℕ)) (jobs : List (List (List ℕ))) (into : ℕ) (text : List ℕ) : Type 0 where
  pub shards : List (List ℕ)
  pub dealt : IsDealt p bytes found jobs into shards
  pub is : text ≡ blocks shards

-- the first shards
abbrev pub first_shards : ProblemParts → List ℕ → List (List ℕ) → List (List (List ℕ)) → ℕ → ℕ → List (List ℕ)
first_shards p bytes found jobs into many = map (shard_text p bytes found jobs into) (range_with_len 0 many)

-- nodes that are seen through references
abbrev pub nodes_seen : List (Bor (List ℕ)) → List (List ℕ)
nodes_seen nodes = map (λ node. node.now) nodes

-- jobs of such nodes
abbrev pub jobs_seen : List (Vec (Bor (List ℕ))) → List (List (List ℕ))
jobs_seen jobs = map (λ job. nodes_seen job.items) jobs
