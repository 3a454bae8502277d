use Rattle.std.proofs.Common.{rules}
use Rattle.cr_false.specs.Sets.{IsFalsePair}
use Rattle.cr_false.proofs.Room.{room_of_number}
use Rattle.cr_false.proofs.step_pairs.set_with.Goals as goal

pub set_of-requires : goal.set_of-requires
set_of-requires c = search (rules, room_of_number (IsFalsePair c.args.leads.now c.args.pair) _ c.requires)
