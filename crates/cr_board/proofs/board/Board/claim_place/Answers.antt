use Rattle.std.proofs.Common.{◌≡◌, length, sym, ap, ap₂, ◌∙◌}
use Rattle.std.proofs.lemmas.List.{length-map}
use Rattle.cr_board.specs.Choices.{claim_place, place_at, has_number, first_from}
use Rattle.cr_board.specs.Rooms.{jobs_on}
use Rattle.cr_board.proofs.board.Board.claim_place.Goals as goal

pub returns-clause-is : goal.returns-clause-is
returns-clause-is c =
    let lanes = jobs_on c.self.inside.state.lanes.items in
    let number : length c.deref.result.now ≡ c.self.inside.opening.workers =
    ap length c.deref.ensures.value ∙ sym (length-map c.self.inside.state.lanes.items (λ lane. lane.items)) ∙ c.self.invariant.facts.partition.shape.lanes in
    c.place_of.ensures
    ∙ ap₂ (λ l n. place_at (jobs_on l) c.args.number (first_from (has_number (jobs_on l) c.args.number) 0 n)) c.deref.ensures.value number
    ∙ ap (λ b. claim_place b c.args.number) c.self.view_is
