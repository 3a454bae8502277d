use Rattle.std.proofs.Common.{◌≡◌, ℕ, ◌<◌, ◌∙◌, List, [], length, get_or, map, take, subst, sym, refl, arith}
use Rattle.std.specs.Prelude.{Contains}
use Rattle.std.proofs.lemmas.List.{get_or_default, take_all}
use Rattle.cr_row.specs.Rows.{product}
use Rattle.cr_false.specs.Sets.{Adds}
use Rattle.cr_false.proofs.Adding.{adds_none, adds_mapped, in_map}
use Rattle.cr_false.proofs.Room.{never_full, in_first_mapped}
use Rattle.cr_false.proofs.sets.push_products.Goals as goal

pub loop-row-init : goal.loop-row-init
loop-row-init c = record { adds = adds_none c.args.set.now.rows; same_room = refl }

pub unreachable-requires : goal.unreachable-requires
unreachable-requires c =
    let rows = c.args.rows.now in
    let index = c.loop-row.row-index in
    let item = c.row-item.result in
    let within : index < length rows = omega (arith, c.loop-row-test.true) in
    let at : item ≡ get_or rows index item = c.row-item.is in
    let times = λ (row : List ℕ). product row c.args.inverse in
    let has : Contains (map times rows) c.times.result =
    subst (λ (row : List ℕ). Contains (map times rows) row) (sym c.times.ensures.is) (in_map times rows item (index, within, sym at)) in
    never_full c.rows_stay_different.ensures.differ c.args.set.now.rows (map times rows) c.args.set.now.room (map times (take index rows)) c.loop-row.set c.push.new.self c.times.result
    c.requires.differ c.requires.room c.loop-row.invariant.adds (in_first_mapped times rows index) has c.loop-row.invariant.same_room c.in-Full.ensures

pub loop-row-preserved : goal.loop-row-preserved
loop-row-preserved c =
    let index = c.loop-row.row-index in
    let item = c.row-item.result in
    let within : index < length c.args.rows.now = omega (arith, c.loop-row-test.true) in
    let at : item ≡ get_or c.args.rows.now index [] = c.row-item.is ∙ get_or_default c.args.rows.now index item [] within in
    record {
      adds = adds_mapped c.rows_stay_different.ensures.differ c.args.set.now.rows c.loop-row.set c.push.new.self (λ row. product row c.args.inverse) c.args.rows.now index item c.times.result c.push.result
          c.loop-row.invariant.adds within at c.times.ensures.is c.push.ensures c.in_default.not-Full;
      same_room = c.rows_stay_different.ensures.same_room c.loop-row.set c.push.new.self c.times.result c.push.result c.push.ensures ∙ c.loop-row.invariant.same_room;
    }

pub returns : goal.returns
returns c =
    let all : take c.loop-row.row-index c.args.rows.now ≡ c.args.rows.now = take_all c.loop-row.row-index c.args.rows.now (omega (arith, c.loop-row-test.false)) in
    record {
      adds = subst (λ (rows : List (List ℕ)). Adds c.args.set.now.rows (map (λ row. product row c.args.inverse) rows) c.loop-row.set.rows) all c.loop-row.invariant.adds;
      same_room = c.loop-row.invariant.same_room;
    }
