-- What a source and a sink in memory hold.
use Rattle.std.specs.Prelude.{ℕ, List, Option}
use Rattle.cr_io.specs.Calls.{Calls}

-- the bytes that are left, how many a call gives at most, and the calls
pub record Supply : Type 0 where
  pub left : List ℕ
  pub most : ℕ
  pub calls : Calls

-- the bytes written, if none was lost, how many a call takes at most, and the calls
pub record Store : Type 0 where
  pub told : Option (List ℕ)
  pub most : ℕ
  pub calls : Calls
