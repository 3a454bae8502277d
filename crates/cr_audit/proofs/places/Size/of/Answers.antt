use Rattle.std.proofs.Common.{◌≡◌, length, ap, ◌∙◌, rules, refl}
use Rattle.cr_model.specs.Callings.{rows_of}
use Rattle.cr_audit.specs.Paths.{front}
use Rattle.cr_audit.proofs.RowPlaces.{size_is}
use Rattle.cr_audit.proofs.places.Size.of.Goals as goal

pub returns : goal.returns
returns c =
    let p = c.args.problem.now in
    let node = c.args.path.now.node.items in
    let before : c.len.result ≡ length (rows_of p (front node)) = search rules in
    size_is p node c.len.result (length c.last_changes.result.now) before (ap length c.last_changes.ensures)
