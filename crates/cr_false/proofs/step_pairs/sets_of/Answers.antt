use Rattle.std.proofs.Common.{◌≡◌, ℕ, ◌-◌, ◌*◌, ◌<◌, ◌∙◌, length, get_or, ap, arith, List, subst}
use Rattle.std.specs.Prelude.{IfOk}
use Rattle.std.specs.List.{range_with_len, AllZip}
use Rattle.rayon.specs.Numbers.{nat_range}
use Rattle.cr_rowset.specs.Stacks.{StackParts}
use Rattle.cr_false.specs.Sets.{IsFalsePair, IsSetOf, HasNumber, pairs}
use Rattle.rayon.proofs.ToStd.{nat_range-All}
use Rattle.cr_false.proofs.Tables.{ok_then, collected, number_at}
use Rattle.cr_false.proofs.step_pairs.sets_of.Goals as goal

pub collect-requires-clause-ready : goal.collect-requires-clause-ready
collect-requires-clause-ready g c κs within =
    let table = c.args.leads.now in
    let numbers = c.args.numbers.now in
    let ends = c.into_par_iter.ensures in
    let far : 24 * c.from-end.result ≡ 24 * length table.leads = omega (arith, c.from-end.ensures, c.count.ensures.is) in
    let all = nat_range-All (λ pair. HasNumber (IsFalsePair table pair) (get_or numbers pair 0) × (pair < length numbers)) 0 (24 * c.from-end.result)
    (λ pair low high. number_at table numbers pair c.requires (omega (arith, high, far))) in
    rw (c.map.ensures.base, c.with_min_len.ensures.base, c.map.ensures.f, ends.0, ends.1) (λ k d lt. (all k d lt, λ answer told. tt))

pub returns : goal.returns
returns g c =
    let ends = c.into_par_iter.ensures in
    let whole : 24 * c.from-end.result - 0 ≡ 24 * length c.args.leads.now.leads = omega (arith, c.from-end.ensures, c.count.ensures.is) in
    let h = c.in_ok-collect.ensures in
    let chain = rw (c.map.ensures.base, c.with_min_len.ensures.base, c.map.ensures.f) at h.1 in
    let places = chain.1 ∙ (λ i. nat_range (ends.0 i) (ends.1 i)) ∙ ap (range_with_len 0) whole in
    ok_then c.in_ok-collect.field-0 _ _ _ h.2 (λ v told.
    collected (λ (pair : ℕ) (set : StackParts). IsSetOf (IsFalsePair c.args.leads.now pair) set.rows) (pairs c.args.leads.now) h.0 told.0 v.items
    (subst (λ (ps : List ℕ). AllZip (λ pair r. IfOk r ((λ (pair : ℕ) (set : StackParts). IsSetOf (IsFalsePair c.args.leads.now pair) set.rows) pair)) ps h.0) places chain.2) told.1 told.2)
