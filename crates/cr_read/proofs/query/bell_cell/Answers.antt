use Rattle.std.proofs.Common.{◌<◌, sym, ◌∙◌, arith}
use Rattle.cr_read.proofs.Cells.{cell_on, cell_here}
use Rattle.cr_read.proofs.query.bell_cell.Goals as goal

pub returns-then-byte-symbol : goal.returns-then-byte-symbol
returns-then-byte-symbol c =
    let low : c.loop-bell.bell < 17 = omega arith in
    sym (cell_here c.args.byte c.loop-bell.bell 17 c.symbol.result low c.symbol.ensures c.if-byte-symbol.true) ∙ c.loop-bell.invariant

pub loop-bell-preserved : goal.loop-bell-preserved
loop-bell-preserved c =
    let low : c.loop-bell.bell < 17 = omega arith in
    cell_on c.args.byte c.loop-bell.bell 17 c.symbol.result low c.symbol.ensures c.if-byte-symbol.false ∙ c.loop-bell.invariant
