-- The parts of a search, one after another.
use Rattle.std.proofs.Common.{◌≡◌, ℕ, List, Option, Some, None, Result, Ok, Err, sym, subst}
use Rattle.std.specs.Prelude.{IsErrAnd}
use Rattle.cr_top.specs.Streams.{Reading, Writing, WasRead, WasCutOff}
use Rattle.cr_top.specs.Texts.{IsReached}
use Rattle.cr_top.specs.Endings.{GetsNoInput, EndsSearch, status_of}
use Rattle.cr_top.specs.Refused.{StartsFrom, WritesSearch}
use Rattle.cr_top.specs.declared.refusal.Refusal.{Refusal}
use Rattle.cr_top.specs.declared.refusal.Refusal.TheVariants as refusal

module _ {S : Type 0} (source : Reading S) (input : List ℕ) (read : WasRead source input) where
  -- an input that was read and ran out of memory
  pub no_memory : GetsNoInput source (status_of (Err refusal.NoMemory))
  no_memory = ((input, read.taken, read.short), read.calm)

  -- an input that was read and is none
  pub is_none : (why : Refusal) → StartsFrom input (Err why) → GetsNoInput source (status_of (Err why))
  is_none (refusal.Problem fault) is = (input, read, is)
  is_none (refusal.Checkpoint fault) is = (input, read, is)
  is_none refusal.NoMemory is = no_memory
  is_none (refusal.Words fault) is = absurd is
  is_none refusal.ReadFault is = absurd is
  is_none refusal.WriteFault is = absurd is
  is_none refusal.TooLong is = absurd is
  is_none (refusal.Trail fault) is = absurd is
  is_none (refusal.Join fault) is = absurd is
  is_none (refusal.Audit fault) is = absurd is
  is_none refusal.NotProblem is = absurd is

  -- a search whose input was read ends as its text is written
  pub ends_search : {K : Type 0} (sink : Writing K) (turns : Option ℕ) (result : Result (Option ℕ) Refusal)
      → WritesSearch sink turns input result → EndsSearch source sink turns (status_of result)
  ends_search sink turns (Ok None) is = (input, is.0, read, is.1, is.2)
  ends_search sink turns (Ok (Some after)) is = (input, is.0, read, is.1.0, is.1.1, is.2)
  ends_search sink turns (Err refusal.WriteFault) is = (input, is.0, read, is.1, is.2)
  ends_search sink turns (Err refusal.NoMemory) is = (no_memory, is)
  ends_search sink turns (Err (refusal.Words fault)) is = absurd is
  ends_search sink turns (Err (refusal.Problem fault)) is = absurd is
  ends_search sink turns (Err (refusal.Checkpoint fault)) is = absurd is
  ends_search sink turns (Err refusal.ReadFault) is = absurd is
  ends_search sink turns (Err refusal.TooLong) is = absurd is
  ends_search sink turns (Err (refusal.Trail fault)) is = absurd is
  ends_search sink turns (Err (refusal.Join fault)) is = absurd is
  ends_search sink turns (Err (refusal.Audit fault)) is = absurd is
  ends_search sink turns (Err refusal.NotProblem) is = absurd is

-- a text of which a front was written
pub cut_off : {K : Type 0} (sink : Writing K) (turns : Option ℕ) (input text : List ℕ) (stopped : Option ℕ) → IsReached turns input text stopped
    → WasCutOff sink text → (result : Result (Option ℕ) Refusal) → IsErrAnd result (λ why. why ≡ refusal.WriteFault) → WritesSearch sink turns input result
cut_off sink turns input text stopped reached cut (Ok after) is = absurd is
cut_off sink turns input text stopped reached cut (Err why) is =
    subst (λ w. WritesSearch sink turns input (Err w)) (sym is) (text, (stopped, reached), cut)
