use Rattle.std.proofs.Common.{◌≡◌, ap, sym, ◌∙◌, length}
use Rattle.cr_row.specs.Rows.{changed}
use Rattle.cr_row.specs.Packed.{bells_of, bells_length}
use Rattle.cr_row.proofs.ChangeLaws.{IsRow-changed}
use Rattle.cr_row.proofs.rows.Row.then.Goals as goal

pub invariant_of-result : goal.invariant_of-result
invariant_of-result c =
    let long : c.self.inside.stage ≡ c.args.change.now.stage = sym (bells_length c.self.inside.stage c.self.inside.bits) ∙ ap length c.self.view_is ∙ c.requires in
    let bells : bells_of c.self.inside.stage c.moved.result ≡ changed c.args.change.now.made 1 (bells_of c.self.inside.stage c.self.inside.bits) =
    ap (λ n. bells_of n c.moved.result) long ∙ c.moved.ensures.bells ∙ ap (λ n. changed c.args.change.now.made 1 (bells_of n c.self.inside.bits)) (sym long) in
    record {
      at_least = c.self.invariant.at_least;
      at_most = c.self.invariant.at_most;
      fits = rw long c.moved.ensures.fits;
      row = rw bells (IsRow-changed c.args.change.now.made (bells_of c.self.inside.stage c.self.inside.bits) c.self.invariant.row);
    }
