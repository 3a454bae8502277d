use Rattle.std.proofs.Common.{◌≡◌, List, ℕ, sym, subst}
use Rattle.cr_model.specs.Nodes.{IsValid}
use Rattle.cr_model.specs.OneTurn.{touch_of}
use Rattle.cr_explore.proofs.TouchParts.{parts_are_whole, part_is_valid}
use Rattle.cr_explore.proofs.unkept.valid_part.Goals as goal

pub returns-then-is_in_parts-clause-valid : goal.returns-then-is_in_parts-clause-valid
returns-then-is_in_parts-clause-valid c =
    let told = c.is_in_parts.ensures.0 c.if-is_in_parts.true in
    subst (IsValid c.args.problem.now) (sym c.part_of.ensures) (part_is_valid c.args.problem.now c.args.touch.now c.stage.ensures.sound c.requires told.0 told.1)

pub returns-then-is_in_parts-clause-whole : goal.returns-then-is_in_parts-clause-whole
returns-then-is_in_parts-clause-whole c =
    let told = c.is_in_parts.ensures.0 c.if-is_in_parts.true in
    subst (λ (part : List ℕ). c.args.touch.now ≡ touch_of c.args.problem.now part) (sym c.part_of.ensures) (parts_are_whole c.args.problem.now c.args.touch.now told.0)
