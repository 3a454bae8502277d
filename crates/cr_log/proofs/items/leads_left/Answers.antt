use Rattle.std.proofs.Common.{◌≡◌, ℕ, ◌-◌, ◌/◌, ap₂, arith}
use Rattle.std.proofs.Math.Nat.{div-le_self}
use Rattle.cr_model.specs.Callings.{length_of}
use Rattle.cr_model.specs.Queries.{part_cap}
use Rattle.cr_query.proofs.Sizes.{part_cap_short}
use Rattle.cr_log.proofs.Places.{rows_number}
use Rattle.cr_log.proofs.items.leads_left.Goals as goal

pub returns-clause-is : goal.returns-clause-is
returns-clause-is c =
    let left : c.part_cap.result - c.len.result ≡ part_cap c.args.problem.now - length_of c.args.problem.now c.args.node.now
    = omega (arith, c.part_cap.ensures, c.len.ensures.is, rows_number c.args.problem.now c.args.node.now c.args.rows.now c.requires.at) in
    ap₂ (λ (a b : ℕ). a / b) left c.shortest.ensures.is

pub returns-clause-few : goal.returns-clause-few
returns-clause-few c =
    let most = div-le_self (c.part_cap.result - c.len.result) c.shortest.result in
    omega (arith, most, c.part_cap.ensures, part_cap_short c.args.problem.now c.requires.at.sound)
