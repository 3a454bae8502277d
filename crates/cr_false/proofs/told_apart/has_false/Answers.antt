use Rattle.std.proofs.Common.{◌≡◌, ℕ, ◌<◌, ◌∙◌, List, [], length, get_or, ap, subst, arith, below_more}
use Rattle.std.proofs.lemmas.List.{get_or_default}
use Rattle.cr_row.specs.Rows.{product}
use Rattle.cr_false.proofs.Adding.{QuotientLaws}
use Rattle.cr_false.proofs.SomeRows.{HasProduct, has_false}
use Rattle.cr_false.proofs.told_apart.has_false.Goals as goal

pub loop-row-preserved : goal.loop-row-preserved
loop-row-preserved c =
    let rows = c.args.rows.now in
    let index = c.loop-row.row-index in
    let item = c.row-item.result in
    let within : index < length rows = omega (arith, c.loop-row-test.true) in
    let at : item ≡ get_or rows index [] = c.row-item.is ∙ get_or_default rows index item [] within in
    let is = c.times.ensures.is ∙ ap (λ (row : List ℕ). product row c.inverse-inverse.result) at in
    below_more _ _ c.loop-row.invariant
    (subst (λ (between : List ℕ). HasProduct c.args.set.now.rows between c.args.common.now.bells.items c.args.common.now.even) is
    (c.is_in_or_apart.ensures c.if-not-is_in_or_apart.false))

pub returns : goal.returns
returns c = λ _.
    let laws : QuotientLaws = record {
      associates = c.product_associates.ensures;
      long = c.product_of_rows.ensures.same_length;
      neutral = c.rounds_is_neutral.ensures.right;
      rounds_long = c.rounds_is_neutral.ensures.length;
      cancel = c.rows_cancel.ensures.right;
    } in
    has_false laws c.args.set.now.rows c.args.rows.now c.args.other.now c.inverse-inverse.result c.args.common.now.bells.items c.args.common.now.even
    c.stage.ensures.is_row c.requires c.inverse-inverse.ensures.undoes (λ i low. c.loop-row.invariant i (omega (arith, low, c.loop-row-test.false)))
