use Rattle.std.proofs.Common.{◌<◌, All, sym, subst}
use Rattle.cr_query.specs.declared.fixing.Fixed.{Fixed}
use Rattle.cr_query.proofs.Fitting.{shape_within}
use Rattle.cr_query.proofs.shape.Shape.new.Goals as goal

pub invariant_of-result : goal.invariant_of-result
invariant_of-result c = (
  record { within = subst (All (λ (fixed : Fixed). fixed.place < c.args.stage)) (sym c.in_ok-fixed.ensures.is) (shape_within c.args.stage c.args.cells.now c.requires) },
  c.fixed_places.ensures.stage,
)
