use Rattle.cr_store.specs.Written.{lists}
use Rattle.cr_top.proofs.TrailParts.{ends_so}
use Rattle.cr_top.proofs.trailing.trailed_together.Goals as goal

pub returns-clause-ends : goal.returns-clause-ends
returns-clause-ends g c =
    let ready = c.in_ok-prepared.ensures.prepares in
    ends_so _ _ ready.0 ready.1 c.a_trail_of_what_an_input_says.ensures c.in_ok-prepared.prepared.start.bytes.items
    c.in_ok-prepared.prepared.start.problem c.in_ok-prepared.prepared.start.left.found.items (lists c.in_ok-prepared.prepared.start.left.jobs.items)
    c.args.every ready.2.says c.trail_by-end.result (rw ready.3 at c.trail_by-end.ensures.ends)
    c.result_for.result c.result_for.ensures
