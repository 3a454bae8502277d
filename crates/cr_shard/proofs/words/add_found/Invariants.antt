use Rattle.std.proofs.Common.{◌≡◌, ◌++◌, drop}
use Rattle.cr_shard.specs.Reads.{items_of, found_items}
use Rattle.cr_shard.proofs.words.add_found.Given as goal

abbrev pub invariant-loop-calling : goal.invariant-loop-calling
invariant-loop-calling l =
    items_of l.words.items ++ found_items l.problem (drop l.calling-index l.found) ≡ items_of l.initial.words.items ++ found_items l.problem l.found
