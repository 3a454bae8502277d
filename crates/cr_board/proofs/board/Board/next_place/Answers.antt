use Rattle.std.proofs.Common.{◌≡◌, ◌<◌, length, get_or, sym, ap, ◌∙◌, subst, arith}
use Rattle.std.proofs.lemmas.List.{length-map}
use Rattle.cr_board.specs.Boards.{BoardParts}
use Rattle.cr_board.specs.Choices.{is_busy}
use Rattle.cr_board.specs.Rooms.{jobs_on}
use Rattle.cr_board.proofs.Finding.{round_passes}
use Rattle.cr_board.proofs.Reading.{busy_some, lane_read}
use Rattle.cr_board.proofs.board.Board.next_place.Goals as goal

pub overflow_sub-place : goal.overflow_sub-place
overflow_sub-place c =
    let lanes = c.deref.result.now in
    let number : length lanes ≡ c.self.inside.opening.workers =
    ap length c.deref.ensures.value ∙ sym (length-map c.self.inside.state.lanes.items (λ lane. lane.items)) ∙ c.self.invariant.facts.partition.shape.lanes in
    let inside : c.args.worker < c.self.inside.opening.workers = subst (λ (b : BoardParts). c.args.worker < b.opening.workers) (sym c.self.view_is) c.requires in
    let (busy, within) = round_passes (is_busy (jobs_on lanes)) c.args.worker (length lanes) c.in_ok-lane.lane (omega (arith, inside, number)) (sym c.in_ok-lane.ensures) in
    let read = lane_read lanes c.in_ok-lane.lane c.index.result.now within (c.index.ensures ∙ ap (λ l. get_or l c.in_ok-lane.lane c.index.result.now) (sym c.deref.ensures.value)) in
    omega (arith, busy_some (jobs_on lanes) c.in_ok-lane.lane busy, ap length read, c.index.result.now.ok, c.len.ensures)
