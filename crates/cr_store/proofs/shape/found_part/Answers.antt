-- The line `found` is wrong, or a line after it.
use Rattle.std.proofs.Common.{map}
use Rattle.std.proofs.lemmas.Result.{IfOk-weaker, IfErr-weaker}
use Rattle.cr_store.specs.ShapeReads.{found_parts}
use Rattle.cr_store.specs.ShapeStages.{AtFound, AtFoundCount}
use Rattle.cr_store.proofs.ShapeStops.{found_count_wrong, found_count_after, found_part_from, stops_on}
use Rattle.cr_store.proofs.shape.found_part.Goals as goal

pub returns-in-Some-clause-found : goal.returns-in-Some-clause-found
returns-in-Some-clause-found c =
    IfOk-weaker c.found_lines.result _ _
    (λ x read. found_part_from c.in-Some.count c.args.text.now c.in-Some.rest.now (map found_parts x.0.items) x.1.now c.in-Some.ensures.some.0 c.in-Some.ensures.some.1 read)
    c.found_lines.ensures.found

pub returns-in-Some-clause-stops : goal.returns-in-Some-clause-stops
returns-in-Some-clause-stops c =
    IfErr-weaker c.found_lines.result _ _
    (λ why stops version.
    stops_on (AtFoundCount version) (AtFound version c.in-Some.count) c.args.text.now c.in-Some.rest.now
    (found_count_after version c.in-Some.count c.args.text.now c.in-Some.rest.now c.in-Some.ensures.some.0 c.in-Some.ensures.some.1) why (stops version))
    c.found_lines.ensures.stops

pub returns-in-None-clause-stops : goal.returns-in-None-clause-stops
returns-in-None-clause-stops c = λ version. found_count_wrong version c.args.text.now c.in-None.ensures.none
