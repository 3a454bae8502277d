-- The checks of the parts of a problem, in their order, each with its fault.
use Rattle.std.specs.Prelude.{◌≡◌, ◌≢◌, ℕ, ◌/◌, ◌<◌, ◌≤◌, ◌⊎◌, pos, ◌≤ℤ◌, List, [], ◌∷◌, ◌++◌, length}
use Rattle.cr_model.specs.declared.fault.CountAt.TheVariants as counted
use Rattle.cr_model.specs.declared.fault.PartFault.{PartFault}
use Rattle.cr_model.specs.declared.fault.PartFault.TheVariants as fault
use Rattle.cr_model.specs.Problems.{LeadParts, ProblemParts}
use Rattle.cr_model.specs.Callings.{shortest, step_at}
use Rattle.cr_model.specs.Queries.{cap}
use Rattle.cr_model.specs.Limits.{most_steps, most_leads, most_parts}
use Rattle.cr_model.specs.Checks.{Check, one_fault, each_index, IsFirstWrong, IsFirstFailure}
use Rattle.cr_model.specs.Right.{LetterIsRight, LettersAreRight, LeadIsRight, LeadsAreRight, LimitsAreRight, CountIsRight, count_at, MethodCountIsRight, method_count_at, PatternIsRight, pattern_at, ComIsRight}

-- there are no letters, or this one is the first that is wrong
abbrev pub LettersWrongAt : List ℕ → ℕ → Type 0
LettersWrongAt letters index =
    ((length letters ≡ 0) × (index ≡ 0)) ⊎ IsFirstWrong (LetterIsRight letters) (length letters) index

-- some method has no lead
abbrev pub SomeUnled : ℕ → List LeadParts → Type 0
SomeUnled methods leads =
    (method : ℕ) × (method < methods) × ((i : ℕ) → i < length leads → (step_at leads i).method ≢ method)

-- this lead is the first that is wrong, or none is and some method has no lead: then it is the leads' number
abbrev pub LeadsWrongAt : ℕ → ℕ → List LeadParts → ℕ → Type 0
LeadsWrongAt stage methods leads index =
    IsFirstWrong (LeadIsRight stage methods leads) (length leads) index ⊎
    ((index ≡ length leads) × ((i : ℕ) → i < length leads → LeadIsRight stage methods leads i)
    × SomeUnled methods leads)

-- the letters
abbrev pub letters_check : ProblemParts → Check PartFault
letters_check p = record {
  holds = LettersAreRight p.letters;
  fails = λ f. (i : ℕ) × (f ≡ fault.Letters i) × LettersWrongAt p.letters i;
}

-- the leads
abbrev pub leads_check : ProblemParts → Check PartFault
leads_check p = record {
  holds = LeadsAreRight p.stage (length p.letters) p.leads;
  fails = λ f. (i : ℕ) × (f ≡ fault.Leads i) × LeadsWrongAt p.stage (length p.letters) p.leads i;
}

-- how many they are
abbrev pub steps_check : ProblemParts → Check PartFault
steps_check p = one_fault (length p.leads ≤ most_steps) (fault.Steps (length p.leads))

-- the lengths that are asked for
abbrev pub range_check : ProblemParts → Check PartFault
range_check p = one_fault (LimitsAreRight (pos 1) p.query.min p.query.max) (fault.Range p.query.min p.query.max)

-- how many leads a touch can have
abbrev pub depth_check : ProblemParts → Check PartFault
depth_check p = one_fault (cap p / shortest p ≤ most_leads) (fault.Deep (cap p / shortest p))

-- the number of parts
abbrev pub parts_check : ProblemParts → Check PartFault
parts_check p = one_fault ((pos 1 ≤ℤ p.query.parts) × (p.query.parts ≤ℤ pos most_parts)) (fault.Parts p.query.parts)

-- the counts of marks
abbrev pub counts_check : ProblemParts → Check PartFault
counts_check p =
    each_index (λ i. CountIsRight p.leads i (count_at p.query.counts i)) (length p.query.counts)
    (λ i. fault.Count (counted.Mark i))

-- the counts of methods
abbrev pub method_counts_check : ProblemParts → Check PartFault
method_counts_check p =
    each_index (λ i. MethodCountIsRight p.letters i (method_count_at p.query.method_counts i)) (length p.query.method_counts)
    (λ i. fault.Count (counted.Method i))

-- the patterns
abbrev pub patterns_check : ProblemParts → Check PartFault
patterns_check p =
    each_index (λ i. PatternIsRight p.stage i (pattern_at p.query.patterns i)) (length p.query.patterns)
    (λ i. fault.Pattern i)

-- the limits on changes of method
abbrev pub com_check : ProblemParts → Check PartFault
com_check p = one_fault (ComIsRight p.query.com) fault.Com

-- in their order: of what is rung, of how long it is, and of what it has
abbrev pub lead_checks : ProblemParts → List (Check PartFault)
lead_checks p = letters_check p ∷ leads_check p ∷ steps_check p ∷ []

abbrev pub length_checks : ProblemParts → List (Check PartFault)
length_checks p = range_check p ∷ depth_check p ∷ parts_check p ∷ []

abbrev pub query_checks : ProblemParts → List (Check PartFault)
query_checks p = counts_check p ∷ method_counts_check p ∷ patterns_check p ∷ com_check p ∷ []

-- all checks
abbrev pub checks : ProblemParts → List (Check PartFault)
checks p = lead_checks p ++ (length_checks p ++ query_checks p)

-- the fault is that of the first check that does not hold
pub record IsPartFault (p : ProblemParts) (fault : PartFault) : Type 0 where
  pub first : IsFirstFailure (checks p) fault
