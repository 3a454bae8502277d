-- The cell of a bell's symbol.
use Rattle.std.proofs.Common.{◌≡◌, ◌≢◌, ℕ, ◌+◌, ◌-◌, ◌<◌, true, false, sym, ◌∙◌, arith}
use Rattle.std.specs.Prelude.{nat_eq}
use Rattle.std.specs.List.{range_with_len}
use Rattle.std.proofs.lemmas.Bool.Decides.{nat_tests}
use Rattle.cr_row.specs.Symbols.{symbol_of}
use Rattle.cr_model.specs.declared.query.Cell.TheVariants as cell
use Rattle.cr_model.specs.ProblemFiles.{bell_cell}
use Rattle.cr_read.proofs.Ranges.{range_step}

test_of : (a b : ℕ) → a ≡ b → nat_eq a b ≡ true
test_of a b e = grind (arith, nat_tests)

test_not : (a b : ℕ) → a ≢ b → nat_eq a b ≡ false
test_not a b e = grind (arith, nat_tests)

pub cell_on : (byte i end other : ℕ) → i < end → other ≡ symbol_of i → byte ≢ other → bell_cell (range_with_len (i + 1) (end - (i + 1))) byte ≡ bell_cell (range_with_len i (end - i)) byte
cell_on byte i end other low is differ =
    let fails : nat_eq byte (symbol_of i) ≡ false = test_not byte (symbol_of i) (λ same. differ (same ∙ sym is)) in
    rw (range_step i end low, fails)

pub cell_here : (byte i end other : ℕ) → i < end → other ≡ symbol_of i → byte ≡ other → bell_cell (range_with_len i (end - i)) byte ≡ cell.Bell i
cell_here byte i end other low is same =
    let holds : nat_eq byte (symbol_of i) ≡ true = test_of byte (symbol_of i) (same ∙ is) in
    rw (range_step i end low, holds)
