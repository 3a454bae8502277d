-- A row has 3 to 16 bells.
use Rattle.std.proofs.Common.{ap, ◌∙◌, arith, sym, subst}
use Rattle.cr_rowset.specs.Keys.{row_of, IsKey}
use Rattle.cr_rowset.proofs.Known.{row_back, is_key}
use Rattle.cr_rowset.proofs.keys.key_of.Goals as goal

pub returns-clause-row : goal.returns-clause-row
returns-clause-row c =
    let stage = c.stage.ensures in
    ap row_of c.key.ensures.is ∙ row_back c.args.row.now stage.is_row (omega (arith, stage.is, stage.at_least)) (omega (arith, stage.is, stage.at_most))

pub returns-clause-is_key : goal.returns-clause-is_key
returns-clause-is_key c =
    let stage = c.stage.ensures in
    subst IsKey (sym c.key.ensures.is) (is_key c.args.row.now stage.is_row (omega (arith, stage.is, stage.at_least)) (omega (arith, stage.is, stage.at_most)))
