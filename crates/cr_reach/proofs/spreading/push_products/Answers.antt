use Rattle.std.proofs.Common.{◌≡◌, ◌<◌, ◌∙◌, [], length, get_or, refl, arith}
use Rattle.std.proofs.lemmas.List.{get_or_default}
use Rattle.cr_row.specs.Rows.{product}
use Rattle.cr_rowset.specs.declared.pushed.Pushed.TheVariants.{Full}
use Rattle.cr_reach.proofs.Pushing.{one_more, none_more}
use Rattle.cr_reach.proofs.spreading.push_products.Goals as goal

pub returns-in-Full : goal.returns-in-Full
returns-in-Full c =
    let index = c.loop-inverse.inverse-index in
    let item = c.inverse-item.result in
    let within : index < length c.args.inverses.now = omega (arith, c.loop-inverse-test.true) in
    let at : item ≡ get_or c.args.inverses.now index [] = c.inverse-item.is ∙ get_or_default c.args.inverses.now index item [] within in
    none_more c.args.rows.now c.loop-inverse.rows c.push.new.self (product c.args.row) c.args.inverses.now index item c.times.result Full
    c.loop-inverse.invariant within at c.times.ensures.is refl c.in-Full.ensures

pub loop-inverse-preserved : goal.loop-inverse-preserved
loop-inverse-preserved c =
    let index = c.loop-inverse.inverse-index in
    let item = c.inverse-item.result in
    let within : index < length c.args.inverses.now = omega (arith, c.loop-inverse-test.true) in
    let at : item ≡ get_or c.args.inverses.now index [] = c.inverse-item.is ∙ get_or_default c.args.inverses.now index item [] within in
    one_more c.args.rows.now c.loop-inverse.rows c.push.new.self (product c.args.row) c.args.inverses.now index item c.times.result c.push.result
    c.loop-inverse.invariant within at c.times.ensures.is c.in_default.not-Full c.push.ensures
