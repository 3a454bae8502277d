-- Of checks in an order there is at most one first failure, and none where all hold.
use Rattle.std.proofs.Common.{◌≡◌, ℕ, ◌<◌, List, [], ◌∷◌, ◌++◌, inl, inr, sym, ◌∙◌, ap, arith}
use Rattle.std.proofs.lemmas.Bool.{cases_lt}
use Rattle.cr_model.specs.Checks.{Check, one_fault, each_index, IsFirstWrong, AllHold, IsFirstFailure, renamed}

-- the faults of a check come only where it does not hold, and there is one at most
pub record IsExact {Fault : Type 0} (check : Check Fault) : Type 0 where
  pub apart : (f : Fault) → check.fails f → check.holds → ⊥
  pub single : (f g : Fault) → check.fails f → check.fails g → f ≡ g

pub exact_one_fault : {Fault : Type 0} (P : Type 0) (fault : Fault) → IsExact (one_fault P fault)
exact_one_fault P fault = record { apart = λ f h holds. h.1 holds; single = λ f g a b. a.0 ∙ sym b.0 }

pub one_first : (IsRight : ℕ → Type 0) (number i j : ℕ) → IsFirstWrong IsRight number i
    → IsFirstWrong IsRight number j → i ≡ j
one_first IsRight number i j a b = elim (cases_lt i j) [
  | inl less ↦ absurd (a.wrong (b.before i less))
  | inr more ↦ elim (cases_lt j i) [ inl less ↦ absurd (b.wrong (a.before j less)) | inr other ↦ omega arith ]
]

-- a check whose fault tells an index
pub exact_index : {Fault : Type 0} (P : Type 0) (fault : ℕ → Fault) (Wrong : ℕ → Type 0)
    → ((i : ℕ) → Wrong i → P → ⊥) → ((i j : ℕ) → Wrong i → Wrong j → i ≡ j)
    → IsExact (record { holds = P; fails = λ f. (i : ℕ) × (f ≡ fault i) × Wrong i })
exact_index P fault Wrong apart single = record {
  apart = λ f h holds. apart h.0 h.2 holds;
  single = λ f g a b. a.1 ∙ ap fault (single a.0 b.0 a.2 b.2) ∙ sym b.1;
}

pub exact_each_index : {Fault : Type 0} (IsRight : ℕ → Type 0) (number : ℕ) (fault : ℕ → Fault)
    → IsExact (each_index IsRight number fault)
exact_each_index IsRight number fault =
    exact_index ((i : ℕ) → i < number → IsRight i) fault (IsFirstWrong IsRight number) (λ i wrong holds. wrong.wrong (holds i wrong.within)) (one_first IsRight number)

pub exact_renamed : {Fault Other : Type 0} (name : Fault → Other) (check : Check Fault) → IsExact check
    → IsExact (renamed name check)
exact_renamed name check exact = record {
  apart = λ f h holds. exact.apart h.0 h.2 holds;
  single = λ f g a b. a.1 ∙ ap name (exact.single a.0 b.0 a.2 b.2) ∙ sym b.1;
}

-- each of some checks
abbrev pub AreExact : {Fault : Type 0} → List (Check Fault) → Type 0
AreExact [] = Unit {0}
AreExact (check ∷ checks) = IsExact check × AreExact checks

pub none_fails : {Fault : Type 0} (checks : List (Check Fault)) → AreExact checks → (f : Fault) → AllHold checks
    → IsFirstFailure checks f → ⊥
none_fails [] exact f holds fails = fails
none_fails (check ∷ checks) exact f holds (inl fails) = exact.0.apart f fails holds.0
none_fails (check ∷ checks) exact f holds (inr later) = none_fails checks exact.1 f holds.1 later.1

pub one_failure : {Fault : Type 0} (checks : List (Check Fault)) → AreExact checks → (f g : Fault)
    → IsFirstFailure checks f → IsFirstFailure checks g → f ≡ g
one_failure [] exact f g a b = absurd a
one_failure (check ∷ checks) exact f g (inl a) (inl b) = exact.0.single f g a b
one_failure (check ∷ checks) exact f g (inl a) (inr b) = absurd (exact.0.apart f a b.0)
one_failure (check ∷ checks) exact f g (inr a) (inl b) = absurd (exact.0.apart g b a.0)
one_failure (check ∷ checks) exact f g (inr a) (inr b) = one_failure checks exact.1 f g a.1 b.1

-- checks before others
pub all_joined : {Fault : Type 0} (checks more : List (Check Fault)) → AllHold checks → AllHold more
    → AllHold (checks ++ more)
all_joined [] more holds rest = rest
all_joined (check ∷ checks) more holds rest = (holds.0, all_joined checks more holds.1 rest)

pub fails_before : {Fault : Type 0} (checks more : List (Check Fault)) (f : Fault) → IsFirstFailure checks f
    → IsFirstFailure (checks ++ more) f
fails_before [] more f fails = absurd fails
fails_before (check ∷ checks) more f (inl fails) = inl fails
fails_before (check ∷ checks) more f (inr later) = inr (later.0, fails_before checks more f later.1)

pub fails_after : {Fault : Type 0} (checks more : List (Check Fault)) (f : Fault) → AllHold checks
    → IsFirstFailure more f → IsFirstFailure (checks ++ more) f
fails_after [] more f holds fails = fails
fails_after (check ∷ checks) more f holds fails = inr (holds.0, fails_after checks more f holds.1 fails)
