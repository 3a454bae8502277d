-- What reading a line tells, before its node is read.
use Rattle.std.specs.Prelude.{ℕ, List, ◌∷◌, ◌++◌}
use Rattle.cr_model.specs.Texts.{Lacks}
use Rattle.cr_audit.specs.declared.verdict.Item.{Item}
use Rattle.cr_audit.specs.declared.verdict.Verdict.{Verdict}
use Rattle.cr_audit.specs.Logs.{item_text, verdict_text, IsSmall}

-- an item after a word
abbrev pub item_after : List ℕ → Item → List ℕ
item_after word of = word ++ item_text of

-- a line without its line feed: the node's text, a space and the verdict
abbrev pub raw_text : List ℕ → Verdict → List ℕ
raw_text node why = node ++ 32 ∷ verdict_text why

-- the node's text has no space and no line feed, and the verdict's numbers are ones that a line may have
pub record IsRaw (node : List ℕ) (why : Verdict) : Type 0 where
  pub no_space : Lacks 32 node
  pub no_feed : Lacks 10 node
  pub small : IsSmall why
