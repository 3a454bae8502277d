use Rattle.std.proofs.Common.{◌∙◌}
use Rattle.std.specs.Ordering.{ordering_then}
use Rattle.cr_row.specs.Order.{row_cmp}
use Rattle.cr_row.proofs.PackedOrder.{packed_row_cmp}
use Rattle.cr_row.proofs.rows.RowOrd.cmp.Goals as goal

pub returns : goal.returns
returns c =
    c.then.ensures ∙ (λ i. ordering_then (c.cmp.ensures i) (c.cmp-2.ensures i))
    ∙ packed_row_cmp c.self.inside.stage c.other.inside.stage c.self.inside.bits c.other.inside.bits c.self.invariant.fits c.other.invariant.fits
    ∙ (λ i. row_cmp (c.self.view_is i) (c.other.view_is i))
