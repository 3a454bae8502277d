-- The number of the head is the place of the node.
use Rattle.std.proofs.Common.{◌≡◌, ℕ, ◌/◌, ap, ◌∙◌, rules}
use Rattle.cr_model.specs.Callings.{length_of}
use Rattle.cr_ahead.specs.LeadMoves.{IsPlaceOf}
use Rattle.cr_explore.proofs.narrow_path.cannot_come.Goals as goal

pub cannot_meet-requires : goal.cannot_meet-requires
cannot_meet-requires g c =
    let place : IsPlaceOf c.args.walk.now.problem c.args.numbers.now.heads c.in-Some.place c.args.walk.now.node = record { there = c.in-Some.ensures.0; head = c.in-Some.ensures.1 } in
    let units : c.in_units-units.result ≡ length_of c.args.walk.now.problem c.args.walk.now.node / c.args.outlook.now.unit =
    c.in_units-units.ensures ∙ ap (λ (n : ℕ). n / c.args.outlook.now.unit) c.length.ensures.is in
    (search rules, (c.requires, (place, (units, search rules))))
