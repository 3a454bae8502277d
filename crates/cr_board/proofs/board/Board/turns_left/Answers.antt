use Rattle.std.proofs.Common.{◌≤◌, IfSome, sym, ◌∙◌, subst, arith}
use Rattle.cr_board.specs.Boards.{BoardParts, promised}
use Rattle.cr_board.specs.Rooms.{parts_of}
use Rattle.cr_board.proofs.ReplayFacts.{Within, within_some}
use Rattle.cr_board.proofs.Replaying.{promised_within}
use Rattle.cr_board.proofs.board.Board.turns_left.Goals as goal

pub promised_turns-requires : goal.promised_turns-requires
promised_turns-requires c =
    subst (λ o. Within o (promised (parts_of c.self.inside.opening c.self.inside.state))) (sym c.budget.ensures.is ∙ c.in-Some.is)
    (promised_within (parts_of c.self.inside.opening c.self.inside.state) c.self.invariant.facts.replayed c.self.invariant.facts.opening.some)

pub overflow_sub-result : goal.overflow_sub-result
overflow_sub-result c =
    let within : promised (parts_of c.self.inside.opening c.self.inside.state) ≤ c.in-Some.budget =
    subst (λ o. Within o (promised (parts_of c.self.inside.opening c.self.inside.state))) (sym c.budget.ensures.is ∙ c.in-Some.is)
    (promised_within (parts_of c.self.inside.opening c.self.inside.state) c.self.invariant.facts.replayed c.self.invariant.facts.opening.some) in
    omega (arith, c.promised_turns.ensures, within)

pub returns-in-Some-clause-within : goal.returns-in-Some-clause-within
returns-in-Some-clause-within c =
    subst (λ (b : BoardParts). IfSome b.opening.budget (λ budget. promised b ≤ budget)) c.self.view_is
    (within_some c.self.inside.opening.budget (promised (parts_of c.self.inside.opening c.self.inside.state))
    (promised_within (parts_of c.self.inside.opening c.self.inside.state) c.self.invariant.facts.replayed c.self.invariant.facts.opening.some))
