-- What the making of a falseness table answers.
use Rattle.std.specs.Prelude.{ℕ, ◌<◌, ◌≤◌}
use Rattle.cr_leads.specs.Tables.{TableParts}
use Rattle.cr_false.specs.Sets.{IsFalseTable, IsWholeNumber}
use Rattle.cr_false.specs.declared.built.Built.{Built}
use Rattle.cr_false.specs.declared.built.Built.TheVariants.{Wide, Table}

-- the whole number is no more than the most
pub record HasRoom (table : TableParts) (most : ℕ) : Type 0 where
  pub number : ℕ
  pub is : IsWholeNumber table number
  pub few : number ≤ most

-- Wide: the whole number is more than the most. Table: it is not, and this is the table
abbrev pub IsBuilt : TableParts → ℕ → Built → Type 0
IsBuilt table most (Wide number) = IsWholeNumber table number × (most < number)
IsBuilt table most (Table parts) = IsFalseTable table parts × HasRoom table most
