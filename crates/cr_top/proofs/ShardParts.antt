-- The parts of a call that cuts an input, and of one that joins shards.
use Rattle.std.proofs.Common.{◌≡◌, ℕ, List, Option, Result, Ok, Err, sym, subst}
use Rattle.std.specs.Prelude.{IsErrAnd, MatchResult}
use Rattle.std.specs.Global.{Vec}
use Rattle.cr_io.specs.Grown.{joined}
use Rattle.cr_model.specs.Problems.{ProblemParts}
use Rattle.cr_shard.specs.Deals.{IsCut}
use Rattle.cr_shard.specs.JoinFaults.{IsJoin}
use Rattle.cr_top.specs.Streams.{Reading, Writing, WasRead, WasCutOff}
use Rattle.cr_top.specs.Refused.{IsUnstarted}
use Rattle.cr_top.specs.Shards.{IsCutOf}
use Rattle.cr_top.specs.Starts.{IsStart}
use Rattle.cr_top.specs.Endings.{EndsCut, EndsJoin, status_of}
use Rattle.cr_top.specs.declared.refusal.Refusal.{Refusal}
use Rattle.cr_top.specs.declared.refusal.Refusal.TheVariants as refusal

module _ {S K : Type 0} (source : Reading S) (sink : Writing K) (input text : List ℕ) (read : WasRead source input) (cut : WasCutOff sink text) where
  -- shards of which a front was written
  pub cut_off_shards : (into : ℕ) → IsCutOf into input text → (result : Result (Option ℕ) Refusal)
      → IsErrAnd result (λ why. why ≡ refusal.WriteFault) → EndsCut source sink into (status_of result)
  cut_off_shards into is (Ok after) told = absurd told
  cut_off_shards into is (Err why) told = subst (λ w. EndsCut source sink into (status_of (Err w))) (sym told) (input, text, read, is, cut)

  -- and joined shards
  pub cut_off_join : IsJoin input text → (result : Result (Option ℕ) Refusal)
      → IsErrAnd result (λ why. why ≡ refusal.WriteFault) → EndsJoin source sink (status_of result)
  cut_off_join is (Ok after) told = absurd told
  cut_off_join is (Err why) told = subst (λ w. EndsJoin source sink (status_of (Err w))) (sym told) (input, text, read, is, cut)

-- the shards of what an input says are those of the input
pub cut_of_start : (input bytes : List ℕ) (p : ProblemParts) (found : List (List ℕ)) (jobs : List (List (List ℕ))) (into : ℕ) → IsStart input bytes p found jobs
    → (result : Result (Vec (Vec ℕ)) Refusal) → MatchResult result (λ pieces. IsCut p bytes found jobs into (joined pieces.items)) (λ why. why ≡ refusal.NoMemory)
    → MatchResult result (λ pieces. IsCutOf into input (joined pieces.items)) (IsUnstarted input)
cut_of_start input bytes p found jobs into start (Ok pieces) cut = record {
  bytes = bytes;
  p = p;
  found = found;
  jobs = jobs;
  start = start;
  cut = cut;
}
cut_of_start input bytes p found jobs into start (Err why) is = subst (IsUnstarted input) (sym is) tt
