use Rattle.std.proofs.Common.{◌≡◌, ℕ, ◌+◌, ◌-◌, ◌++◌, ◌∷◌, [], length, take, sym, ap, ◌∙◌, subst, arith}
use Rattle.std.proofs.lemmas.List.{take_more, length-take-le}
use Rattle.cr_path.specs.declared.walks.ends.LeadEnd.{LeadEnd}
use Rattle.cr_path.specs.Ends.{final_step, AreEnds, HasEnds}
use Rattle.cr_path.proofs.Kept.{end_less}
use Rattle.cr_path.proofs.walks.ends.Ends.pop.Goals as goal

pub returns : goal.returns
returns c p t node next many are =
    let e = c.self.inside in
    let end = c.index.result.now in
    let one_less : length (take (length node - 1) node) ≡ c.args.leads = omega (arith, many, length-take-le (length node - 1) node (omega arith)) in
    let split : take (length node) e.before.items ≡ take (length (take (length node - 1) node)) e.before.items ++ end ∷ [] =
    ap (λ n. take n e.before.items) (sym many) ∙ take_more e.before.items c.args.leads end (omega (arith, c.self.invariant, c.requires))
    ∙ ap (λ (last : LeadEnd). take c.args.leads e.before.items ++ last ∷ []) (sym c.index.ensures)
    ∙ ap (λ (n : ℕ). take n e.before.items ++ end ∷ []) (sym one_less) in
    subst (AreEnds p t (take (length node - 1) node) (final_step node + 1)) split
    (end_less p t node next (take (length node) e.before.items) e.last (omega (arith, many)) (subst (HasEnds p t node next) (sym c.self.view_is) are))
