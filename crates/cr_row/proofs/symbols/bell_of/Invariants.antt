use Rattle.std.proofs.Common.{◌≡◌, ℕ, ◌+◌, ◌<◌}
use Rattle.cr_row.specs.Symbols.{symbol_of}
use Rattle.cr_row.proofs.symbols.bell_of.Given as goal

abbrev pub invariant-loop-index : goal.invariant-loop-index
invariant-loop-index l = (k : ℕ) → k < l.index → symbol_of (k + 1) ≡ l.symbol → ⊥
