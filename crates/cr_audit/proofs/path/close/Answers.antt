use Rattle.std.proofs.Common.{◌≡◌, ℕ, ◌+◌, List, length, ap, sym, ◌∙◌, subst, refl}
use Rattle.cr_audit.specs.Paths.{AreFitting}
use Rattle.cr_audit.proofs.Fits.{fitting_less}
use Rattle.cr_audit.proofs.Paths.{rows_back}
use Rattle.cr_audit.proofs.path.close.Goals as goal

pub returns-clause-at : goal.returns-clause-at
returns-clause-at c =
    let p = c.args.problem.now in
    let node = c.args.path.now.node.items in
    record {
      known = c.requires.known;
      text = c.requires.text;
      taken = c.requires.taken;
      changes = c.requires.changes;
      fitting = subst (AreFitting p node (length node)) (sym c.cut_last.ensures) (fitting_less p node c.args.path.now.fitting.items c.requires.fitting);
      rows = c.cut_rows.ensures
          ∙ rows_back p node _ c.args.path.now.rows.items c.last_changes-number.result.now c.requires.rows c.last_changes-number.ensures refl;
    }
