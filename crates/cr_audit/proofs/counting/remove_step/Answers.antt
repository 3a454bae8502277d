use Rattle.std.proofs.Common.{refl, subst, arith}
use Rattle.std.proofs.Common.{◌≡◌, ◌<◌, ◌-◌, length, get_or, ap, sym, ◌∙◌}
use Rattle.cr_audit.proofs.Taken.{taken_back}
use Rattle.cr_audit.proofs.counting.remove_step.Goals as goal

pub returns : goal.returns
returns c = λ p node are.
    let inside : c.from.result < length c.args.taken.now = omega (arith, c.from.ensures, c.requires.step) in
    rw c.from.ensures (taken_back p node c.args.taken.now c.args.step (get_or c.args.taken.now c.args.step 0 - 1) c.requires.step refl are)
