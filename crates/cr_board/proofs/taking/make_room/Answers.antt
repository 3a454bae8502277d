use Rattle.std.proofs.Common.{refl, arith}
use Rattle.cr_board.proofs.Rooms.{rooms_stay, few_holding}
use Rattle.cr_board.proofs.taking.make_room.Goals as goal

pub returns-in_err-reserve_lane-clause-kept : goal.returns-in_err-reserve_lane-clause-kept
returns-in_err-reserve_lane-clause-kept c = rooms_stay _ _ refl c.reserve_lane.ensures.kept refl (omega arith)

pub returns-in_err-reserve-clause-kept : goal.returns-in_err-reserve-clause-kept
returns-in_err-reserve-clause-kept c = rooms_stay _ _ refl c.reserve_lane.ensures.kept c.reserve.ensures.len c.reserve.ensures.capacity

pub returns-clause-kept : goal.returns-clause-kept
returns-clause-kept c = rooms_stay _ _ refl c.reserve_lane.ensures.kept c.reserve.ensures.len c.reserve.ensures.capacity

pub returns-clause-journal : goal.returns-clause-journal
returns-clause-journal c = omega (arith, few_holding c.args.state.now.held.items, c.in_ok-reserve.ensures, c.len.ensures, c.args.state.now.held.ok)
