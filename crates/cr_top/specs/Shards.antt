-- The shards that an input is cut into.
use Rattle.std.specs.Prelude.{ℕ, List}
use Rattle.cr_model.specs.Problems.{ProblemParts}
use Rattle.cr_shard.specs.Deals.{IsCut}
use Rattle.cr_top.specs.Starts.{IsStart}

-- the text is so many shards as blocks, which what the input says is dealt to
pub record IsCutOf (into : ℕ) (input text : List ℕ) : Type 0 where
  pub bytes : List ℕ
  pub p : ProblemParts
  pub found : List (List ℕ)
  pub jobs : List (List (List ℕ))
  pub start : IsStart input bytes p found jobs
  pub cut : IsCut p bytes found jobs into text
