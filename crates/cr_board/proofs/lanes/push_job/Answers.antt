use Rattle.std.proofs.Common.{◌<◌, ◌∷◌, [], ◌++◌, set, length, sym, ap, ◌∙◌, arith}
use Rattle.std.proofs.lemmas.List.{map-set}
use Rattle.cr_board.specs.Rooms.{jobs_on}
use Rattle.cr_board.proofs.Reading.{lane_read}
use Rattle.cr_board.proofs.lanes.push_job.Goals as goal

pub returns-clause-lanes : goal.returns-clause-lanes
returns-clause-lanes c =
    let inside : c.args.worker < length c.args.lanes.now.items = omega (arith, c.requires.inside, c.args.lanes.now.ok) in
    map-set (λ lane. lane.items) c.args.lanes.now.items c.args.worker c.put.new.list
    ∙ ap (set (jobs_on c.args.lanes.now.items) c.args.worker)
    (c.put.ensures.items ∙ ap (λ l. l ++ c.args.job ∷ []) (sym (lane_read c.args.lanes.now.items c.args.worker c.index_mut.result.now inside c.index_mut.ensures.value)))
