use Rattle.std.proofs.Common.{◌≡◌, length}
use Rattle.cr_path.specs.Numbers.{power}
use Rattle.cr_path.proofs.numbers.leads.power.Given as goal

abbrev pub invariant-loop-part : goal.invariant-loop-part
invariant-loop-part l = record {
  is : l.product ≡ power l.fn.stage l.row l._part;
  same_stage : length l.product ≡ l.fn.stage;
}
