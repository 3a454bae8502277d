use Rattle.std.proofs.Common.{◌<◌, set, length, [], sym, ap, ◌∙◌, arith}
use Rattle.std.proofs.lemmas.List.{map-set, set-get_or}
use Rattle.cr_board.specs.Rooms.{jobs_on}
use Rattle.cr_board.proofs.Reading.{lane_read}
use Rattle.cr_board.proofs.lanes.reserve_lane.Goals as goal

pub returns-in_err-reserve-clause-same : goal.returns-in_err-reserve-clause-same
returns-in_err-reserve-clause-same c =
    let inside : c.args.worker < length c.args.lanes.now.items = omega (arith, c.requires, c.args.lanes.now.ok) in
    map-set (λ lane. lane.items) c.args.lanes.now.items c.args.worker c.reserve.new.self
    ∙ ap (set (jobs_on c.args.lanes.now.items) c.args.worker)
    (c.reserve.ensures.items ∙ sym (lane_read c.args.lanes.now.items c.args.worker c.index_mut.result.now inside c.index_mut.ensures.value))
    ∙ set-get_or (jobs_on c.args.lanes.now.items) c.args.worker []

pub returns-clause-same : goal.returns-clause-same
returns-clause-same c =
    let inside : c.args.worker < length c.args.lanes.now.items = omega (arith, c.requires, c.args.lanes.now.ok) in
    map-set (λ lane. lane.items) c.args.lanes.now.items c.args.worker c.reserve.new.self
    ∙ ap (set (jobs_on c.args.lanes.now.items) c.args.worker)
    (c.reserve.ensures.items ∙ sym (lane_read c.args.lanes.now.items c.args.worker c.index_mut.result.now inside c.index_mut.ensures.value))
    ∙ set-get_or (jobs_on c.args.lanes.now.items) c.args.worker []
