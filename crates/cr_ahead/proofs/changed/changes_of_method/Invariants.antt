-- what is counted of the leads before
use Rattle.std.proofs.Common.{◌≡◌, take}
use Rattle.cr_model.specs.Queries.{changes_of_method}
use Rattle.cr_ahead.specs.LeadMoves.{last_method}
use Rattle.cr_ahead.proofs.changed.changes_of_method.Given as goal

abbrev pub invariant-loop-index : goal.invariant-loop-index
invariant-loop-index l = record {
  is : l.changed ≡ changes_of_method l.problem (take l.index l.steps);
  last : l.last ≡ last_method l.problem (take l.index l.steps);
}
