use Rattle.std.proofs.Common.{◌∙◌, sym, subst}
use Rattle.cr_model.specs.Sound.{IsSound}
use Rattle.cr_path.specs.Walks.{PathParts}
use Rattle.cr_path.proofs.Uncut.{none_of_unclean}
use Rattle.cr_path.proofs.walks.path.Path.find_uncut.Goals as goal

pub returns-then-not-is_clean : goal.returns-then-not-is_clean
returns-then-not-is_clean g c =
    let v = c.args.self.now in
    none_of_unclean v.problem v.node c.no_steps.result (subst (λ (w : PathParts). IsSound w.problem) c.self.view_is c.self.invariant.0.sound)
    (sym c.is_clean.ensures ∙ c.if-not-is_clean.true) c.no_steps.ensures
