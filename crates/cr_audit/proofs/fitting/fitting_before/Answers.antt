use Rattle.std.proofs.Common.{◌≡◌, ℕ, ◌-◌, ◌<◌, [], length, get_or, sym, ap, ◌∙◌, arith, rules}
use Rattle.cr_audit.specs.Paths.{fitting_of, front}
use Rattle.cr_audit.proofs.Fits.{fitting_at}
use Rattle.cr_audit.proofs.fitting.fitting_before.Goals as goal

pub returns-in-Some : goal.returns-in-Some
returns-in-Some c =
    let p = c.args.problem.now in
    let node = c.args.path.now.node.items in
    let some : 0 < length node = search rules in
    let last : c.in-Some.fitting.now ≡ get_or c.args.path.now.fitting.items (length node - 1) [] = search rules in
    c.of.ensures ∙ ap (λ l. get_or l c.args.index 0) (last ∙ c.requires.fitting.each (length node - 1) (omega arith)) ∙ fitting_at p (front node) c.args.index c.requires.index
