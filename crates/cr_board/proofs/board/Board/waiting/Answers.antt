use Rattle.std.proofs.Common.{◌<◌, ◌^◌, arith}
use Rattle.cr_board.proofs.board.Board.waiting.Goals as goal

pub overflow_cast-result : goal.overflow_cast-result
overflow_cast-result c =
    let few : c.in-Some.worker < 2 ^ 32 = omega (arith, c.in-Some.ensures, c.deref.ensures, c.self.inside.state.held.ok, c.self.invariant.facts.partition.shape.held, c.self.invariant.facts.opening.few) in
    omega arith
