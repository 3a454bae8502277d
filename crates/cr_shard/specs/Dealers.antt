-- Nodes dealt to shards one after another, as lines of checkpoints.
use Rattle.std.specs.Prelude.{◌≡◌, ℕ, ◌%◌, ◌<◌, cond, nat_eq, List, [], ◌++◌, length, get_or, codes, All}
use Rattle.cr_model.specs.Problems.{ProblemParts}
use Rattle.cr_model.specs.Nodes.{part_of}
use Rattle.cr_model.specs.Checkpoints.{CanGoOn, CheckFile, number_line, node_lines, last_node, nodes_of_jobs}
use Rattle.cr_store.specs.Written.{tail_text}
use Rattle.cr_shard.specs.Deals.{dealt_nodes, IsCut}
use Rattle.cr_shard.specs.Hashes.{IsClean, IsClear, AreSeen}
use Rattle.cr_shard.specs.declared.dealer.NodeLines.{NodeLines}
use Rattle.cr_shard.specs.declared.dealer.Shards.{Shards}
use Rattle.cr_shard.specs.declared.dealer.Dealer.{Dealer}

-- the lines are those of these nodes, of which the first comes after the root
pub record AreLinesOf (p : ProblemParts) (nodes : List (List ℕ)) (lines : NodeLines) : Type 0 where
  pub text_is : lines.text.items ≡ node_lines p 2 [] nodes
  pub many : lines.nodes ≡ length nodes
  pub last_is : lines.last ≡ last_node [] nodes

-- each shard has the lines of the nodes that are dealt to it
abbrev pub HaveLines : ProblemParts → List (List ℕ) → List NodeLines → Type 0
HaveLines p nodes shards = (shard : ℕ) (d : NodeLines) → shard < length shards → AreLinesOf p (dealt_nodes (length shards) shard nodes) (get_or shards shard d)

-- so it is, and the next node comes to this shard
pub record AreDealt (p : ProblemParts) (nodes : List (List ℕ)) (shards : Shards) : Type 0 where
  pub next_is : shards.next ≡ length nodes % length shards.lines.items
  pub each : HaveLines p nodes shards.lines.items

-- what stands before the lines of so many nodes, as one job or as no job
abbrev pub job_head : ℕ → List ℕ
job_head nodes = cond (nat_eq nodes 0) (number_line (codes "jobs") 0) (number_line (codes "jobs") 1 ++ number_line (codes "job") nodes)

-- a dealer has come to these nodes and dealt them
pub record IsDealing (p : ProblemParts) (dealer : Dealer) (nodes : List (List ℕ)) : Type 0 where
  pub seen : AreSeen dealer.known.hashes dealer.known.seen nodes
  pub clean : IsClean dealer.known.hashes dealer.way
  pub dealt : AreDealt p nodes dealer.shards

-- no node whose hash is one of these is above a found touch
abbrev pub AreClear : ProblemParts → List ℕ → List (List ℕ) → Type 0
AreClear p hashes found = All (λ touch. IsClear hashes (part_of p touch)) found

-- a text behind found touches is that of jobs from which a search can go on, and their nodes were dealt to so many shards
pub record IsDealtText (p : ProblemParts) (found : List (List ℕ)) (text : List ℕ) (into : ℕ) (shards : List NodeLines) : Type 0 where
  pub jobs : List (List (List ℕ))
  pub is : text ≡ tail_text p jobs
  pub goes_on : CanGoOn p found jobs
  pub many : length shards ≡ into
  pub each : HaveLines p (nodes_of_jobs jobs) shards

-- a text is a checkpoint, and these are its shards as blocks
pub record IsTextCut (text : List ℕ) (into : ℕ) (cut : List ℕ) : Type 0 where
  pub bytes : List ℕ
  pub p : ProblemParts
  pub found : List (List ℕ)
  pub jobs : List (List (List ℕ))
  pub file : CheckFile text bytes p found jobs
  pub cut_is : IsCut p bytes found jobs into cut
