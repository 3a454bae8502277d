use Rattle.std.proofs.Common.{◌≡◌, ◌≤◌, ℕ, List, length, get_or, map, take}
use Rattle.cr_model.specs.Limits.{most_patterns}
use Rattle.cr_path.proofs.numbers.pattern_rows.PatternRows.take.Given as goal

abbrev pub invariant-loop-index : goal.invariant-loop-index
invariant-loop-index l =
    (length l.self-inside.numbers ≡ most_patterns) × (l.self-inside.count ≤ most_patterns)
    × (take l.index l.self-inside.numbers ≡ map (λ (fitting : List ℕ). get_or fitting l.place 0) (take l.index l.fittings))
