-- What every problem keeps.
use Rattle.std.specs.Prelude.{ℕ, ◌/◌, ◌<◌, ◌≤◌, pos, ◌≤ℤ◌, length, Result, MatchResult}
use Rattle.cr_model.specs.declared.fault.PartFault.{PartFault}
use Rattle.cr_model.specs.Problems.{ProblemParts}
use Rattle.cr_model.specs.Callings.{shortest}
use Rattle.cr_model.specs.Queries.{cap}
use Rattle.cr_model.specs.Limits.{most_steps, most_leads, most_parts}
use Rattle.cr_model.specs.Checks.{AllHold}
use Rattle.cr_model.specs.Faults.{checks, IsPartFault}
use Rattle.cr_model.specs.Right.{LettersAreRight, LeadsAreRight, LimitsAreRight, CountIsRight, count_at, MethodCountIsRight, method_count_at, PatternIsRight, pattern_at, ComIsRight}

-- 3 to 16 bells, and all checks hold
pub record IsSound (p : ProblemParts) : Type 0 where
  pub stage_from : 3 ≤ p.stage
  pub stage_to : p.stage ≤ 16
  pub checks : AllHold (checks p)

-- a call answers for all of them, where the stage is from 3 to 16
abbrev pub IsChecked : {X : Type 0} → ProblemParts → Result X PartFault → Type 0
IsChecked p result = MatchResult result (λ _. IsSound p) (IsPartFault p)

-- what is sound, check by check
pub sound_letters : (p : ProblemParts) → IsSound p → LettersAreRight p.letters
sound_letters p sound = sound.checks.0

pub sound_leads : (p : ProblemParts) → IsSound p → LeadsAreRight p.stage (length p.letters) p.leads
sound_leads p sound = sound.checks.1.0

pub sound_steps : (p : ProblemParts) → IsSound p → length p.leads ≤ most_steps
sound_steps p sound = sound.checks.1.1.0

pub sound_range : (p : ProblemParts) → IsSound p → LimitsAreRight (pos 1) p.query.min p.query.max
sound_range p sound = sound.checks.1.1.1.0

pub sound_depth : (p : ProblemParts) → IsSound p → cap p / shortest p ≤ most_leads
sound_depth p sound = sound.checks.1.1.1.1.0

pub sound_parts : (p : ProblemParts) → IsSound p → (pos 1 ≤ℤ p.query.parts) × (p.query.parts ≤ℤ pos most_parts)
sound_parts p sound = sound.checks.1.1.1.1.1.0

pub sound_counts : (p : ProblemParts) → IsSound p
    → (i : ℕ) → i < length p.query.counts → CountIsRight p.leads i (count_at p.query.counts i)
sound_counts p sound = sound.checks.1.1.1.1.1.1.0

pub sound_method_counts : (p : ProblemParts) → IsSound p
    → (i : ℕ) → i < length p.query.method_counts → MethodCountIsRight p.letters i (method_count_at p.query.method_counts i)
sound_method_counts p sound = sound.checks.1.1.1.1.1.1.1.0

pub sound_patterns : (p : ProblemParts) → IsSound p
    → (i : ℕ) → i < length p.query.patterns → PatternIsRight p.stage i (pattern_at p.query.patterns i)
sound_patterns p sound = sound.checks.1.1.1.1.1.1.1.1.0

pub sound_com : (p : ProblemParts) → IsSound p → ComIsRight p.query.com
sound_com p sound = sound.checks.1.1.1.1.1.1.1.1.1.0
