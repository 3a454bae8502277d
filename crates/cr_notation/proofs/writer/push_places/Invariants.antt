use Rattle.std.proofs.Common.{◌≡◌, ◌++◌, map, string_bytes}
use Rattle.cr_row.specs.Symbols.{symbol_of}
use Rattle.cr_notation.specs.Writing.{at_least}
use Rattle.cr_notation.proofs.writer.push_places.Given as goal

abbrev pub invariant-loop-place : goal.invariant-loop-place
invariant-loop-place l = string_bytes l.text ++ map symbol_of (at_least l.place l.change.made) ≡ string_bytes l.fn.text ++ map symbol_of l.change.made
