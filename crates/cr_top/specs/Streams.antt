-- The streams of a call, before and after it.
use Rattle.std.specs.Prelude.{◌≡◌, ℕ, ◌^◌, ◌≤◌, ⊤, List, length, Option, Some, None}
use Rattle.std.specs.Io.KnownBytes.{IsAtEnd}
use Rattle.cr_io.specs.Causes.{Rose}
use Rattle.cr_io.specs.Grown.{GrowsByFront}

-- a source as a call found it and left it: which bytes are taken between two states, which are left in a state, and how
-- many reads have failed
pub record Reading (S : Type 0) : Type 1 where
  pub took : S → S → List ℕ → Type 0
  pub left : S → Option (List ℕ)
  pub faults : S → ℕ
  pub old : S
  pub new : S

-- a sink as a call found it and left it: which bytes are appended between two states, and how many writes have failed
pub record Writing (K : Type 0) : Type 1 where
  pub grew : K → K → List ℕ → Type 0
  pub faults : K → ℕ
  pub old : K
  pub new : K

-- what a source told was the input
abbrev pub WasTold : Option (List ℕ) → List ℕ → Type 0
WasTold None input = ⊤
WasTold (Some told) input = told ≡ input

-- the source was read to its end, this was left in it, and no read failed
pub record WasRead {S : Type 0} (source : Reading S) (input : List ℕ) : Type 0 where
  pub taken : source.took source.old source.new input
  pub short : length input ≤ 2 ^ 40
  pub ended : IsAtEnd (source.left source.new)
  pub told : WasTold (source.left source.old) input
  pub calm : source.faults source.new ≡ source.faults source.old

-- the text was appended to the sink, and no write failed
pub record WasWritten {K : Type 0} (sink : Writing K) (text : List ℕ) : Type 0 where
  pub grew : sink.grew sink.old sink.new text
  pub calm : sink.faults sink.new ≡ sink.faults sink.old

-- a front of the text was appended to the sink, and a write failed
pub record WasCutOff {K : Type 0} (sink : Writing K) (text : List ℕ) : Type 0 where
  pub front : GrowsByFront sink.grew sink.old sink.new text
  pub rose : Rose (sink.faults sink.old) (sink.faults sink.new)
