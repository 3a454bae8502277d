-- Checks in an order: all hold, or one is the first that does not.
use Rattle.std.specs.Prelude.{◌≡◌, ◌⊎◌, ℕ, ◌<◌, List, [], ◌∷◌, Option, MatchOption, Result, MatchResult}

-- a check: what holds where it passes, and what its faults say where it does not
pub record Check (Fault : Type 0) : Type 1 where
  pub holds : Type 0
  pub fails : Fault → Type 0

-- a check that has one fault
abbrev pub one_fault : {Fault : Type 0} → Type 0 → Fault → Check Fault
one_fault holds fault = record { holds = holds; fails = λ f. (f ≡ fault) × (holds → ⊥) }

-- the least index below a number at which something is not right
pub record IsFirstWrong (IsRight : ℕ → Type 0) (number index : ℕ) : Type 0 where
  pub within : index < number
  pub before : (i : ℕ) → i < index → IsRight i
  pub wrong : IsRight index → ⊥

-- none, where all below a number are right, and else the first that is wrong
abbrev pub TellsFirst : (ℕ → Type 0) → ℕ → Option ℕ → Type 0
TellsFirst IsRight number result = MatchOption result ((i : ℕ) → i < number → IsRight i) (IsFirstWrong IsRight number)

-- a check of each index below a number, whose fault tells the first that is wrong
abbrev pub each_index : {Fault : Type 0} → (ℕ → Type 0) → ℕ → (ℕ → Fault) → Check Fault
each_index IsRight number fault = record {
  holds = (i : ℕ) → i < number → IsRight i;
  fails = λ f. (i : ℕ) × (f ≡ fault i) × IsFirstWrong IsRight number i;
}

-- all of some checks hold
abbrev pub AllHold : {Fault : Type 0} → List (Check Fault) → Type 0
AllHold [] = Unit {0}
AllHold (check ∷ checks) = check.holds × AllHold checks

-- the fault is that of the first one that does not hold
abbrev pub IsFirstFailure : {Fault : Type 0} → List (Check Fault) → Fault → Type 0
IsFirstFailure [] fault = ⊥
IsFirstFailure (check ∷ checks) fault = check.fails fault ⊎ (check.holds × IsFirstFailure checks fault)

-- a call answers for one check
abbrev pub Answers : {X Fault : Type 0} → Check Fault → Result X Fault → Type 0
Answers check result = MatchResult result (λ _. check.holds) check.fails

-- a call answers for some checks, in their order
abbrev pub AnswersAll : {X Fault : Type 0} → List (Check Fault) → Result X Fault → Type 0
AnswersAll checks result = MatchResult result (λ _. AllHold checks) (IsFirstFailure checks)

-- a check whose faults have other names
abbrev pub renamed : {Fault Other : Type 0} → (Fault → Other) → Check Fault → Check Other
renamed {Fault} name check = record {
  holds = check.holds;
  fails = λ other. (fault : Fault) × (other ≡ name fault) × check.fails fault;
}
