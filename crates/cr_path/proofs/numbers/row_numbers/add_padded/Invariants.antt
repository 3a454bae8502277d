use Rattle.std.proofs.Common.{◌≡◌, ◌-◌, ◌≤◌, ◌++◌, length, get_or}
use Rattle.std.specs.Prelude.{replicate}
use Rattle.cr_path.proofs.numbers.row_numbers.add_padded.Given as goal

abbrev pub invariant-loop-more : goal.invariant-loop-more
invariant-loop-more l = record {
  from : length l.names ≤ l._more;
  are : l.numbers.items ≡ l.fn.numbers.items ++ (l.names ++ replicate (l._more - length l.names) (get_or l.names 0 0));
}
