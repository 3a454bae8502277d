-- The parts of a search that writes a trail, and of a call that writes the last checkpoint of one.
use Rattle.std.proofs.Common.{◌≡◌, ℕ, List, Option, Result, Ok, Err, inl, inr, sym, subst}
use Rattle.std.specs.Prelude.{IsErrAnd}
use Rattle.cr_model.specs.Problems.{ProblemParts}
use Rattle.cr_store.specs.Blocks.{blocks}
use Rattle.cr_trail.specs.Lasts.{IsLast}
use Rattle.cr_trail.specs.Trails.{Says, IsTrailFrom, IsTrail, EndsTrail as Wrote}
use Rattle.cr_trail.specs.declared.trail.TrailEnd.{TrailEnd}
use Rattle.cr_trail.specs.declared.trail.TrailEnd.TheVariants as trail
use Rattle.cr_top.specs.Streams.{Reading, Writing, WasRead, WasCutOff}
use Rattle.cr_top.specs.Endings.{EndsTrail, EndsLast, body_in, status_of}
use Rattle.cr_top.specs.Refused.{trail_result}
use Rattle.cr_top.specs.declared.refusal.Refusal.{Refusal}
use Rattle.cr_top.specs.declared.refusal.Refusal.TheVariants as refusal
use Rattle.cr_top.proofs.Stages.{no_memory}

-- what the law on trails says
abbrev pub OfInput : Type 0
OfInput = (input bytes : List ℕ) (p : ProblemParts) (found : List (List ℕ)) (jobs : List (List (List ℕ))) (every : ℕ) (trail : List (List ℕ))
    → Says input bytes p found jobs → IsTrailFrom p bytes found jobs every trail → IsTrail input every trail

module _ {S K : Type 0} (source : Reading S) (sink : Writing K) where
  module _ (input : List ℕ) (read : WasRead source input) where
    -- a trail whose input was read ends as it was written
    ends_trail : OfInput → (bytes : List ℕ) (p : ProblemParts) (found : List (List ℕ)) (jobs : List (List (List ℕ))) (every : ℕ)
        → Says input bytes p found jobs → (end : TrailEnd) → Wrote sink.grew sink.faults sink.old sink.new p bytes found jobs every end
        → EndsTrail source sink every (status_of (trail_result end))
    ends_trail law bytes p found jobs every says trail.Done is =
        (input, is.0, read, law input bytes p found jobs every is.0 says is.1, (bytes, p, is.2), record { grew = is.3; calm = is.4 })
    ends_trail law bytes p found jobs every says trail.WriteFault is =
        (input, is.0, read, law input bytes p found jobs every is.0 says is.1, record { front = is.2; rose = is.3 })
    ends_trail law bytes p found jobs every says trail.NoMemory is = elim is.1 [
      | inl none ↦
          inl (no_memory source input read, record { grew = subst (λ t. sink.grew sink.old sink.new (blocks t)) none is.2; calm = is.3 })
      | inr from ↦
          inr (input, is.0, read, law input bytes p found jobs every is.0 says from, record { grew = is.2; calm = is.3 })
    ]

    pub ends_so : OfInput → (bytes : List ℕ) (p : ProblemParts) (found : List (List ℕ)) (jobs : List (List (List ℕ))) (every : ℕ)
        → Says input bytes p found jobs → (end : TrailEnd) → Wrote sink.grew sink.faults sink.old sink.new p bytes found jobs every end
        → (result : Result (Option ℕ) Refusal) → result ≡ trail_result end → EndsTrail source sink every (status_of result)
    ends_so law bytes p found jobs every says end is result same =
        subst (λ r. EndsTrail source sink every (status_of r)) (sym same) (ends_trail law bytes p found jobs every says end is)

    -- a text of whose last body a front was written
    pub cut_off_last : (last : ℕ × ℕ) → IsLast input (Ok last) → WasCutOff sink (body_in input last) → (result : Result (Option ℕ) Refusal)
        → IsErrAnd result (λ why. why ≡ refusal.WriteFault) → EndsLast source sink (status_of result)
    cut_off_last last is cut (Ok after) told = absurd told
    cut_off_last last is cut (Err why) told =
        subst (λ w. EndsLast source sink (status_of (Err w))) (sym told) (input, last, read, is, cut)
