use Rattle.std.proofs.Common.{◌≡◌, ℕ, ◌+◌, ◌-◌, ◌<◌, ◌≤◌, length, take, drop, subst, arith}
use Rattle.std.proofs.lemmas.List.{length-drop}
use Rattle.cr_reach.specs.Spreading.{products, pushed}
use Rattle.cr_reach.proofs.Pushing.{row_read, row_more, row_too_many}
use Rattle.cr_reach.proofs.spreading.spread.Goals as goal

pub returns-then-not-push_products : goal.returns-then-not-push_products
returns-then-not-push_products c =
    let old = c.args.rows.now in
    let start = c.args.start in
    let place = c.loop-place.place in
    let from : start ≤ place = omega (arith, c.loop-place.auto.place) in
    let to : place < length old.rows = omega (arith, c.loop-place-test.true, c.len-place-end.ensures.is) in
    let within : place - start < length (drop start old.rows) = omega (arith, from, to, length-drop start old.rows) in
    row_too_many old c.loop-place.rows c.push_products.new.rows c.args.inverses.now (drop start old.rows) (place - start) c.row_at-row.result
    c.loop-place.invariant within (row_read old c.loop-place.rows _ start place c.row_at-row.result c.loop-place.invariant from to c.row_at-row.ensures)
    c.if-not-push_products.ensures

pub loop-place-preserved : goal.loop-place-preserved
loop-place-preserved c =
    let old = c.args.rows.now in
    let start = c.args.start in
    let place = c.loop-place.place in
    let from : start ≤ place = omega (arith, c.loop-place.auto.place) in
    let to : place < length old.rows = omega (arith, c.loop-place-test.true, c.len-place-end.ensures.is) in
    let within : place - start < length (drop start old.rows) = omega (arith, from, to, length-drop start old.rows) in
    let up : (place - start) + 1 ≡ place + 1 - start = omega (arith, from) in
    subst (λ (n : ℕ). c.push_products.new.rows ≡ pushed old (products c.args.inverses.now (take n (drop start old.rows)))) up
    (row_more old c.loop-place.rows c.push_products.new.rows c.args.inverses.now (drop start old.rows) (place - start) c.row_at-row.result
    c.loop-place.invariant within (row_read old c.loop-place.rows _ start place c.row_at-row.result c.loop-place.invariant from to c.row_at-row.ensures)
    c.if-not-push_products.ensures)
