use Rattle.cr_row.specs.Packed.{bells_of}
use Rattle.cr_row.proofs.Inverses.{Turned}
use Rattle.cr_row.proofs.rows.inverted.Given as goal

abbrev pub invariant-loop-place : goal.invariant-loop-place
invariant-loop-place l = Turned (bells_of l.stage l.bits) l.stage l.result l.place
