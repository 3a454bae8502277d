use Rattle.std.proofs.Common.{◌≡◌, ℕ, ◌+◌, ◌-◌, ◌≤◌, max, length, get_or}
use Rattle.cr_book.proofs.summary.grow.Given as goal

-- each number is as it was, and there are no more than needed
abbrev pub invariant-loop-numbers : goal.invariant-loop-numbers
invariant-loop-numbers l =
    ((k : ℕ) → get_or l.numbers.items k 0 ≡ get_or l.initial.numbers.items k 0)
    × (length l.initial.numbers.items ≤ length l.numbers.items)
    × (length l.numbers.items ≤ max (length l.initial.numbers.items) (l.long + 1))

abbrev pub decreases-loop-numbers : goal.decreases-loop-numbers
decreases-loop-numbers l = l.long + 1 - length l.numbers.items
