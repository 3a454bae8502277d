use Rattle.std.proofs.Common.{◌+◌, ◌-◌, refl, arith}
use Rattle.cr_row.proofs.Nibbles.{masks_room}
use Rattle.cr_row.proofs.Masking.{left_or_made, stays_more, swaps_more}
use Rattle.cr_row.proofs.changes.+masks.Goals as goal

pub returns-then-stays-clause-stay : goal.returns-then-stays-clause-stay
returns-then-stays-clause-stay t c =
    let one = stays_more (c.args.stage + 1 - c.args.place) (c.args.stage + 1 - (c.args.place + 1)) c.args.place (c.args.place + 1) c.args.places.now (omega arith) refl (left_or_made c.args.place c.args.stage _ (c.stays.ensures.yes c.if-stays.true)) in
    omega (arith, one.0, c.masks-stay.ensures.stay)

pub returns-then-stays-clause-first : goal.returns-then-stays-clause-first
returns-then-stays-clause-first t c =
    let one = stays_more (c.args.stage + 1 - c.args.place) (c.args.stage + 1 - (c.args.place + 1)) c.args.place (c.args.place + 1) c.args.places.now (omega arith) refl (left_or_made c.args.place c.args.stage _ (c.stays.ensures.yes c.if-stays.true)) in
    omega (arith, one.1, c.masks-stay.ensures.first)

pub overflow_add-result : goal.overflow_add-result
overflow_add-result t c =
    let one = stays_more (c.args.stage + 1 - c.args.place) (c.args.stage + 1 - (c.args.place + 1)) c.args.place (c.args.place + 1) c.args.places.now (omega arith) refl (left_or_made c.args.place c.args.stage _ (c.stays.ensures.yes c.if-stays.true)) in
    let room = masks_room (c.args.stage + 1 - c.args.place) c.args.place c.args.places.now (omega arith) in
    omega (arith, one.0, room.0, c.masks-stay.ensures.stay)

pub overflow_mul-result : goal.overflow_mul-result
overflow_mul-result t c =
    let one = stays_more (c.args.stage + 1 - c.args.place) (c.args.stage + 1 - (c.args.place + 1)) c.args.place (c.args.place + 1) c.args.places.now (omega arith) refl (left_or_made c.args.place c.args.stage _ (c.stays.ensures.yes c.if-stays.true)) in
    let room = masks_room (c.args.stage + 1 - c.args.place) c.args.place c.args.places.now (omega arith) in
    omega (arith, one.0, room.0, c.masks-stay.ensures.stay)

pub overflow_mul-result-then-stays : goal.overflow_mul-result-then-stays
overflow_mul-result-then-stays t c =
    let one = stays_more (c.args.stage + 1 - c.args.place) (c.args.stage + 1 - (c.args.place + 1)) c.args.place (c.args.place + 1) c.args.places.now (omega arith) refl (left_or_made c.args.place c.args.stage _ (c.stays.ensures.yes c.if-stays.true)) in
    let room = masks_room (c.args.stage + 1 - c.args.place) c.args.place c.args.places.now (omega arith) in
    omega (arith, one.1, room.1, c.masks-stay.ensures.first)

pub returns-else-stays-clause-stay : goal.returns-else-stays-clause-stay
returns-else-stays-clause-stay t c =
    let no = c.stays.ensures.no c.if-stays.false in
    let two = swaps_more (c.args.stage + 1 - c.args.place) (c.args.stage + 1 - (c.args.place + 2)) c.args.place (c.args.place + 2) c.args.places.now (omega (arith, no.0)) refl no.1 in
    omega (arith, two.0, c.masks-stay-else-stays.ensures.stay)

pub returns-else-stays-clause-first : goal.returns-else-stays-clause-first
returns-else-stays-clause-first t c =
    let no = c.stays.ensures.no c.if-stays.false in
    let two = swaps_more (c.args.stage + 1 - c.args.place) (c.args.stage + 1 - (c.args.place + 2)) c.args.place (c.args.place + 2) c.args.places.now (omega (arith, no.0)) refl no.1 in
    omega (arith, two.1, c.masks-stay-else-stays.ensures.first)

pub overflow_mul-result-else-stays : goal.overflow_mul-result-else-stays
overflow_mul-result-else-stays t c =
    let no = c.stays.ensures.no c.if-stays.false in
    let two = swaps_more (c.args.stage + 1 - c.args.place) (c.args.stage + 1 - (c.args.place + 2)) c.args.place (c.args.place + 2) c.args.places.now (omega (arith, no.0)) refl no.1 in
    let room = masks_room (c.args.stage + 1 - c.args.place) c.args.place c.args.places.now (omega arith) in
    omega (arith, two.0, room.0, c.masks-stay-else-stays.ensures.stay)

pub overflow_mul-result-else-stays-2 : goal.overflow_mul-result-else-stays-2
overflow_mul-result-else-stays-2 t c =
    let no = c.stays.ensures.no c.if-stays.false in
    let two = swaps_more (c.args.stage + 1 - c.args.place) (c.args.stage + 1 - (c.args.place + 2)) c.args.place (c.args.place + 2) c.args.places.now (omega (arith, no.0)) refl no.1 in
    let room = masks_room (c.args.stage + 1 - c.args.place) c.args.place c.args.places.now (omega arith) in
    omega (arith, two.1, room.1, c.masks-stay-else-stays.ensures.first)

pub overflow_add-result-else-stays : goal.overflow_add-result-else-stays
overflow_add-result-else-stays t c =
    let no = c.stays.ensures.no c.if-stays.false in
    let two = swaps_more (c.args.stage + 1 - c.args.place) (c.args.stage + 1 - (c.args.place + 2)) c.args.place (c.args.place + 2) c.args.places.now (omega (arith, no.0)) refl no.1 in
    let room = masks_room (c.args.stage + 1 - c.args.place) c.args.place c.args.places.now (omega arith) in
    omega (arith, two.1, room.1, c.masks-stay-else-stays.ensures.first)
