use Rattle.std.proofs.Common.{refl, arith}
use Rattle.cr_board.proofs.Rooms.{rooms_stay}
use Rattle.cr_board.proofs.handing.make_hand_room.Goals as goal

pub returns-in_err-reserve_lane-clause-kept : goal.returns-in_err-reserve_lane-clause-kept
returns-in_err-reserve_lane-clause-kept c = rooms_stay _ _ refl c.reserve_lane.ensures.kept refl (omega arith)

pub returns-clause-kept : goal.returns-clause-kept
returns-clause-kept c = rooms_stay _ _ refl c.reserve_lane.ensures.kept refl (omega arith)
