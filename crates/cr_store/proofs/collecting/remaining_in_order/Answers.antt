use Rattle.cr_store.specs.Written.{lists}
use Rattle.cr_store.proofs.collecting.remaining_in_order.Goals as goal

pub returns-clause-goes_on : goal.returns-clause-goes_on
returns-clause-goes_on c = λ before begun spent way. c.in_ok-found.ensures.goes_on before begun (lists c.args.jobs.items) spent way

pub returns-clause-covers : goal.returns-clause-covers
returns-clause-covers c = λ before begun spent way. c.in_ok-found.ensures.covers before begun (lists c.args.jobs.items) spent way
