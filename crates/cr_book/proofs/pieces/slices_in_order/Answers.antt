-- All slices, in another order.
use Rattle.std.proofs.Common.{length, subst}
use Rattle.std.specs.List.Sorted.{IsPermutation}
use Rattle.std.proofs.lemmas.Result.{IfOk-weaker}
use Rattle.std.proofs.lemmas.List.Sorted.{All-permutation}
use Rattle.cr_book.specs.Slices.{part_of, parts_of, IsWithin}
use Rattle.cr_book.proofs.Parts.{pieces_moved}
use Rattle.cr_book.proofs.pieces.slices_in_order.Goals as goal

pub returns-clause-within : goal.returns-clause-within
returns-clause-within g c =
    IfOk-weaker c.by_first_touches.result _ _ (λ sorted moved.
    All-permutation (IsWithin (length c.args.found.now)) c.in_ok-slices.slices.items sorted.items
    (subst (λ slices. IsPermutation slices sorted.items) c.deref-2.ensures.value moved) c.in_ok-slices.ensures.parts.within) c.by_first_touches.ensures

pub returns-clause-same : goal.returns-clause-same
returns-clause-same g c =
    let found = c.args.found.now in
    IfOk-weaker c.by_first_touches.result _ _ (λ sorted moved.
    subst (λ all. IsPermutation all (parts_of found sorted.items)) c.in_ok-slices.ensures.parts.whole
    (pieces_moved (part_of found) c.in_ok-slices.slices.items sorted.items
    (subst (λ slices. IsPermutation slices sorted.items) c.deref-2.ensures.value moved))) c.by_first_touches.ensures
