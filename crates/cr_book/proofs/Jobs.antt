-- What is made of some jobs: of the first, and of the others.
use Rattle.std.proofs.Common.{ℕ, zero, suc, ◌<◌, List, [], ◌∷◌, ◌++◌, length, take, drop, ap, arith}
use denote.Param.Members.{Shared}
use Rattle.std.specs.Prelude.{slice_index_or}
use Rattle.std.specs.Fork.{AcceptsJobs, GivesJob}
use Rattle.std.specs.Fork.Halves.{GivesFor}

module _ {F J R : Type 0} (g : Shared F (J × Unit {0}) R) (f : F) where
  pub accepts_first : (jobs : List J) → AcceptsJobs g f jobs → AcceptsJobs g f (take 1 jobs)
  accepts_first [] accepts i x inside is = accepts i x inside is
  accepts_first (job ∷ jobs) accepts zero x inside is = accepts zero x (omega arith) is
  accepts_first (job ∷ jobs) accepts (suc i) x inside is = absurd (omega (arith, inside))

  pub accepts_others : (jobs : List J) → AcceptsJobs g f jobs → AcceptsJobs g f (drop 1 jobs)
  accepts_others [] accepts i x inside is = accepts i x inside is
  accepts_others (job ∷ jobs) accepts i x inside is = accepts (suc i) x (omega (arith, inside)) is

  later : (job : J) (jobs : List J) (i : ℕ) (r : R) → GivesJob g f jobs i r → GivesJob g f (job ∷ jobs) (suc i) r
  later job jobs i r gives = record { job = gives.job; job_read = gives.job_read; job_is = gives.job_is; call = gives.call }

  first : (job : J) (jobs : List J) (r : R) → GivesJob g f (job ∷ []) zero r → GivesJob g f (job ∷ jobs) zero r
  first job jobs r gives = record { job = gives.job; job_read = gives.job_read; job_is = gives.job_is; call = gives.call }

  pub gives_all : (jobs : List J) → 0 < length jobs → (made more : List R) → GivesFor g f (take 1 jobs) made → GivesFor g f (drop 1 jobs) more → GivesFor g f jobs (made ++ more)
  gives_all [] some made more one others = absurd (omega (arith, some))
  gives_all (job ∷ jobs) some [] more one others = absurd (omega (arith, one.len))
  gives_all (job ∷ jobs) some (r ∷ s ∷ made) more one others = absurd (omega (arith, one.len))
  gives_all (job ∷ jobs) some (r ∷ []) more one others = record { len = ap suc others.len; each = each }
    where
      each : (i : ℕ) (d : R) → i < length (job ∷ jobs) → GivesJob g f (job ∷ jobs) i (slice_index_or (r ∷ more) i d)
      each zero d inside = first job jobs r (one.each zero d (omega arith))
      each (suc i) d inside = later job jobs i (slice_index_or more i d) (others.each i d (omega (arith, inside)))
