use Rattle.std.proofs.Common.{refl}
use Rattle.cr_query.proofs.leads.LeadCounts.out_steps.Goals as goal

pub returns : goal.returns
returns c step mark letter low marks letters =
    let first = c.out_steps.ensures step mark low (rw (c.front-front.ensures, c.deref.ensures.value, c.deref-2.ensures.value) marks) in
    let second = c.out_steps-2.ensures step letter low (rw (c.front-front.ensures, c.deref-3.ensures.value, c.deref-4.ensures.value) letters) in
    rw (c.joined.ensures step, first, second, c.front-front.ensures, c.deref.ensures.value, c.deref-3.ensures.value) refl
