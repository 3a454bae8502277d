use Rattle.std.proofs.Common.{◌≡◌, ◌<◌, ◌∙◌, [], length, get_or, arith}
use Rattle.std.proofs.lemmas.List.{get_or_default}
use Rattle.cr_false.proofs.Adding.{QuotientLaws, set_taken}
use Rattle.cr_false.proofs.Room.{room_for_products}
use Rattle.cr_false.proofs.sets.false_rows.Goals as goal

pub push_products-requires-clause-room : goal.push_products-requires-clause-room
push_products-requires-clause-room c =
    let laws : QuotientLaws = record {
      associates = c.product_associates.ensures;
      long = c.product_of_rows.ensures.same_length;
      neutral = c.rounds_is_neutral.ensures.right;
      rounds_long = c.rounds_is_neutral.ensures.length;
      cancel = c.rows_cancel.ensures.right;
    } in
    let index = c.loop-other.other-index in
    let item = c.other-item.result in
    let within : index < length c.args.others.now = omega (arith, c.loop-other-test.true) in
    let at : item ≡ get_or c.args.others.now index [] = c.other-item.is ∙ get_or_default c.args.others.now index item [] within in
    room_for_products laws c.args.rows.now c.args.others.now index item c.inverse.result c.loop-other.set c.args.room
    c.requires.alike c.inverse.ensures.undoes within at c.loop-other.invariant.set c.loop-other.invariant.room c.requires.room

pub loop-other-preserved : goal.loop-other-preserved
loop-other-preserved c =
    let laws : QuotientLaws = record {
      associates = c.product_associates.ensures;
      long = c.product_of_rows.ensures.same_length;
      neutral = c.rounds_is_neutral.ensures.right;
      rounds_long = c.rounds_is_neutral.ensures.length;
      cancel = c.rows_cancel.ensures.right;
    } in
    let index = c.loop-other.other-index in
    let item = c.other-item.result in
    let within : index < length c.args.others.now = omega (arith, c.loop-other-test.true) in
    let at : item ≡ get_or c.args.others.now index [] = c.other-item.is ∙ get_or_default c.args.others.now index item [] within in
    record {
      set = set_taken laws c.args.rows.now c.args.others.now index item c.inverse.result c.loop-other.set.rows c.push_products.new.set.rows
          c.requires.alike c.inverse.ensures.undoes within at c.loop-other.invariant.set c.push_products.ensures.adds;
      room = c.push_products.ensures.same_room ∙ c.loop-other.invariant.room;
    }
