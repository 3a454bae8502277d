use Rattle.std.proofs.Common.{refl}
use Rattle.cr_board.proofs.laws.boards_by_example.Goals as goal

pub returns : goal.returns
returns c = record {
  ways = refl;
  rests = refl;
  grants = refl;
  without_budget = refl;
  own = refl;
  stolen = refl;
  refused = refl;
  spent = refl;
  claims = refl;
  stale = refl;
  holding = refl;
  wait = refl;
  wait_for_the_first = refl;
  replayed = refl;
}
