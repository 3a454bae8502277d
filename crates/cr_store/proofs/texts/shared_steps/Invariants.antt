use Rattle.std.proofs.Common.{◌≡◌, ◌+◌, drop}
use Rattle.cr_model.specs.Checkpoints.{steps_shared}
use Rattle.cr_store.proofs.texts.shared_steps.Given as goal

abbrev pub invariant-loop-index : goal.invariant-loop-index
invariant-loop-index l =
    steps_shared l.before l.node ≡ l.index + steps_shared (drop l.index l.before) (drop l.index l.node)
