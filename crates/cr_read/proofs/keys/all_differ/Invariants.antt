use Rattle.std.proofs.Common.{◌≡◌, drop}
use Rattle.cr_model.specs.Keys.{all_differ}
use Rattle.cr_read.proofs.keys.all_differ.Given as goal

abbrev pub invariant-loop-index : goal.invariant-loop-index
invariant-loop-index l = all_differ (drop l.index l.text) ≡ all_differ l.text
