use Rattle.std.proofs.Common.{◌<◌, set, length, sym, ap, ◌∙◌, arith}
use Rattle.std.specs.Prelude.{remove}
use Rattle.std.proofs.lemmas.List.{map-set}
use Rattle.cr_board.specs.Rooms.{jobs_on}
use Rattle.cr_board.proofs.Reading.{lane_read}
use Rattle.cr_board.proofs.lanes.take_job.Goals as goal

pub returns-clause-lanes : goal.returns-clause-lanes
returns-clause-lanes c =
    let inside : c.args.place.lane < length c.args.lanes.now.items = omega (arith, c.requires.lane, c.args.lanes.now.ok) in
    map-set (λ lane. lane.items) c.args.lanes.now.items c.args.place.lane c.remove.new.self
    ∙ ap (set (jobs_on c.args.lanes.now.items) c.args.place.lane)
    (c.remove.ensures.items ∙ ap (λ l. remove l c.args.place.place) (sym (lane_read c.args.lanes.now.items c.args.place.lane c.index_mut.result.now inside c.index_mut.ensures.value)))
