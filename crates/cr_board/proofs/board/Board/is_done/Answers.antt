use Rattle.std.proofs.Common.{◌≡◌, ◌↔◌, length, [], is_some, sym, ap, ap₂, ◌∙◌, subst}
use Rattle.std.specs.Prelude.{IsTrue}
use Rattle.std.proofs.lemmas.List.{length-map}
use Rattle.cr_board.specs.Boards.{jobs_of}
use Rattle.cr_board.specs.Choices.{is_busy, is_holding, first_from}
use Rattle.cr_board.specs.Rooms.{jobs_on}
use Rattle.cr_board.proofs.Ending.{done_tells, not_done_tells}
use Rattle.cr_board.proofs.board.Board.is_done.Goals as goal

pub returns-then-is_none-clause-is : goal.returns-then-is_none-clause-is
returns-then-is_none-clause-is c =
    let state = c.self.inside.state in
    let number : c.len.result ≡ length (jobs_on state.lanes.items) = c.len.ensures ∙ state.lanes.ok.0 ∙ sym (length-map state.lanes.items (λ lane. lane.items)) in
    subst (λ b. IsTrue c.is_none-then-is_none.result ↔ (jobs_of b ≡ [])) c.self.view_is
    (done_tells (jobs_on state.lanes.items) state.held.items
    (ap₂ (λ l n. is_some (first_from (is_busy (jobs_on l)) 0 n)) (sym c.deref.ensures.value) (sym number) ∙ ap is_some (sym c.first_busy.ensures) ∙ c.if-is_none.ensures)
    c.is_none-then-is_none.result
    (ap (λ h. is_some (first_from (is_holding h) 0 (length h))) (sym c.deref-then-is_none.ensures.value) ∙ ap is_some (sym c.first_holding.ensures.is) ∙ c.is_none-then-is_none.ensures))

pub returns-else-is_none-clause-is : goal.returns-else-is_none-clause-is
returns-else-is_none-clause-is c =
    let state = c.self.inside.state in
    let number : c.len.result ≡ length (jobs_on state.lanes.items) = c.len.ensures ∙ state.lanes.ok.0 ∙ sym (length-map state.lanes.items (λ lane. lane.items)) in
    subst (λ b. IsTrue c.is_none.result ↔ (jobs_of b ≡ [])) c.self.view_is
    (not_done_tells (jobs_on state.lanes.items) state.held.items
    (ap₂ (λ l n. is_some (first_from (is_busy (jobs_on l)) 0 n)) (sym c.deref.ensures.value) (sym number) ∙ ap is_some (sym c.first_busy.ensures) ∙ c.if-is_none.ensures)
    c.is_none.result c.if-is_none.false)
