-- Two tests of one fact.
use Rattle.std.proofs.Common.{◌≡◌, Bool, true, false, ◌↔◌, IsTrue, IfOk, Ok, Err, Result, refl, sym}
use Rattle.std.proofs.lemmas.Bool.{true≢false, false≢true}
use Rattle.std.specs.Result.{is_err}

-- they agree
one_test : (a b : Bool) (K : Type 0) → IsTrue a ↔ K → (b ≡ true) ↔ K → a ≡ b
one_test true b K one two = sym (two.1 (one.0 refl))
one_test false true K one two = absurd (false≢true (one.1 (two.0 refl)))
one_test false false K one two = refl

pub in_result : {E : Type 0} (r : Result Bool E) (b : Bool) (K : Type 0) → IfOk r (λ a. IsTrue a ↔ K) → (b ≡ true) ↔ K → IfOk r (λ a. a ≡ b)
in_result (Ok a) b K one two = one_test a b K one two
in_result (Err e) b K one two = tt

-- what holds of a value that is there
pub where_ok : {T E : Type 0} (r : Result T E) (K : Type 0) → is_err r ≡ false → IfOk r (λ _. K) → K
where_ok (Ok a) K ok h = h
where_ok (Err e) K ok h = absurd (true≢false ok)
