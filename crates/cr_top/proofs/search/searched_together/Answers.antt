use Rattle.std.proofs.Common.{sym, subst}
use Rattle.cr_store.specs.Written.{lists}
use Rattle.cr_top.specs.Starts.{IsStart}
use Rattle.cr_top.proofs.Stages.{ends_search}
use Rattle.cr_top.proofs.search.searched_together.Goals as goal

pub returns-clause-ends : goal.returns-clause-ends
returns-clause-ends g c =
    let ready = c.in_ok-prepared.ensures.prepares in
    ends_search _ ready.0 ready.1 _ c.args.turns c.write_search.result
    (c.write_search.ensures.writes ready.0 c.in_ok-prepared.prepared.start.left.found.items (lists c.in_ok-prepared.prepared.start.left.jobs.items)
    (subst (λ bytes. IsStart ready.0 bytes c.in_ok-prepared.prepared.start.problem c.in_ok-prepared.prepared.start.left.found.items (lists c.in_ok-prepared.prepared.start.left.jobs.items))
    (sym c.deref.ensures.value) ready.2)
    (rw ready.3 at c.in_ok-went.ensures))
