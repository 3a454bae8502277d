use Rattle.std.proofs.Common.{◌≡◌, ◌++◌, drop}
use Rattle.std.specs.Prelude.{flat_map}
use Rattle.cr_model.specs.Books.{book_line}
use Rattle.cr_book.proofs.texts.write_lines.Given as goal

abbrev pub invariant-loop-touch : goal.invariant-loop-touch
invariant-loop-touch l =
    l.text.items ++ flat_map (book_line l.problem) (drop l.touch-index l.touches) ≡ l.initial.text.items ++ flat_map (book_line l.problem) l.touches
