-- What is asked of Plain Bob Doubles by example is a sound problem.
use Rattle.std.proofs.Common.{ℕ, ◌<◌, pos, Option, None, List, [], length, arith}
use Rattle.std.proofs.lemmas.Int.{ints}
use Rattle.cr_model.specs.declared.query.Com.{Com}
use Rattle.cr_model.specs.declared.query.Count.{Count}
use Rattle.cr_model.specs.declared.query.MethodCount.{MethodCount}
use Rattle.cr_model.specs.Queries.{extent}
use Rattle.cr_model.specs.Problems.{PatternParts}
use Rattle.cr_model.specs.Examples.{doubles}
use Rattle.cr_model.specs.Right.{CountIsRight, count_at, MethodCountIsRight, method_count_at, PatternIsRight, pattern_at, ComIsRight}
use Rattle.cr_model.specs.Checks.{AllHold}
use Rattle.cr_read.specs.Examples.{doubles_asked, plainly}
use Rattle.cr_read.proofs.ByExample.{later_checks}
use Rattle.cr_read.proofs.OneMethod.{Asked}

-- from 1 to 120 changes in one part, and nothing is counted
abbrev pub asked : Asked
asked = record { min = pos 1; max = pos 120; parts = pos 1; counts = []; leads = []; patterns = []; «com» = None }

-- nothing is left to be right
pub none : (P : ℕ → Type 0) → (i : ℕ) → i < 0 → P i
none P i h = absurd (omega arith)

-- from 1 to 120 changes in one part, with what is counted
pub doubles_hold : (counts : List Count) (methods : List MethodCount) (patterns : List PatternParts) (limits : Option Com)
    → ((i : ℕ) → i < length counts → CountIsRight doubles.leads i (count_at counts i))
    → ((i : ℕ) → i < length methods → MethodCountIsRight doubles.letters i (method_count_at methods i))
    → ((i : ℕ) → i < length patterns → PatternIsRight 5 i (pattern_at patterns i)) → ComIsRight limits
    → AllHold (later_checks (doubles_asked (record plainly { counts = counts; method_counts = methods; patterns = patterns; «com» = limits })))
unfolding extent
doubles_hold counts methods patterns limits counted led fitted changed = (
  omega arith,
  (
    record { from = omega (arith, ints); order = omega (arith, ints); to = omega (arith, ints) },
    (omega arith, ((omega (arith, ints), omega (arith, ints)), (counted, (led, (fitted, (changed, tt)))))),
  ),
)
