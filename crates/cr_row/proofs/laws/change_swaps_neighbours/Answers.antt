use Rattle.std.proofs.Common.{◌≡◌, ◌+◌, ◌∙◌, ap, arith, nat_eq}
use Rattle.std.specs.List.{list_any}
use Rattle.cr_row.proofs.ChangeLaws.{after_stays, after_swaps, changed_near}
use Rattle.cr_row.proofs.laws.change_swaps_neighbours.Goals as goal

pub returns-clause-stays : goal.returns-clause-stays
returns-clause-stays c = λ change r p is long made. after_stays change r p is long made

pub returns-clause-swaps : goal.returns-clause-swaps
returns-clause-swaps c = λ change r i is long within free. (
    let swap = after_swaps change r i is long within free in
    let place : swap.to + 1 ≡ 1 + swap.to = omega arith in (
      swap.to,
      record {
        within = omega (arith, swap.within);
        next = swap.next;
        free = ap (λ q. list_any (nat_eq q) change.made) place ∙ swap.free;
        here = swap.here;
        there = swap.there;
      },
    ))

pub returns-clause-near : goal.returns-clause-near
returns-clause-near c = λ change r i inside. (
    let near = changed_near change.made 1 r i inside in
    (near.to, record { within = near.within; up = near.up; down = near.down; bell = near.bell }))
