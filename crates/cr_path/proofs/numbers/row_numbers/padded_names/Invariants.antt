use Rattle.std.proofs.Common.{◌≡◌, take}
use Rattle.cr_path.specs.Representatives.{all_padded}
use Rattle.cr_path.proofs.numbers.row_numbers.padded_names.Given as goal

abbrev pub invariant-loop-lead : goal.invariant-loop-lead
invariant-loop-lead l = l.numbers.items ≡ all_padded l.width l.names (take l.lead-index l.leads)
