use Rattle.std.proofs.Common.{◌≡◌, ℕ, ◌+◌, ◌<◌, ◌∙◌, List, [], length, get_or, subst, sym, arith}
use Rattle.std.proofs.lemmas.List.{get_or_default}
use Rattle.cr_false.proofs.SomeRows.{AreAmong, more_among, among_all}
use Rattle.cr_false.proofs.telling.some_rows.Goals as goal

pub loop-index-preserved : goal.loop-index-preserved
loop-index-preserved c =
    let rows = c.args.rows.now in
    let index = c.loop-index.index in
    let within : index < length rows = omega (arith, c.loop-index-test.true) in
    let at : c.index-rows-index.result ≡ get_or rows index [] = c.index-rows-index.is ∙ get_or_default rows index c.index-rows-index.result [] within in
    subst (λ (told : List (List ℕ)). AreAmong rows told (index + 1)) (sym c.in_ok-add_if.ensures)
    (more_among rows c.loop-index.told.items index c.index-rows-index.result c.is_kept-is_kept.result c.loop-index.invariant within at)

pub returns : goal.returns
returns c = among_all c.args.rows.now c.loop-index.told.items c.loop-index.index c.loop-index.invariant
