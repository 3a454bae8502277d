use Rattle.std.proofs.Common.{◌≡◌, ◌++◌, get_or}
use Rattle.std.specs.Prelude.{flat_map}
use Rattle.std.specs.List.{range_with_len}
use Rattle.cr_model.specs.Summaries.{length_line}
use Rattle.cr_book.proofs.summary.write_lengths.Given as goal

-- the lines so far are written
abbrev pub invariant-loop-long : goal.invariant-loop-long
invariant-loop-long l =
    l.text.items
    ≡ l.initial.text.items ++ flat_map (λ long. length_line long (get_or l.numbers long 0)) (range_with_len 0 l.long)
