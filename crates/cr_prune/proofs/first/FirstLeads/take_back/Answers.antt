use Rattle.std.proofs.Common.{◌≡◌, ℕ, ◌-◌, ◌∙◌, length, take, ap, arith, subst, sym}
use Rattle.cr_model.specs.Callings.{length_of}
use Rattle.cr_prune.specs.Holding.{IsHeld}
use Rattle.cr_prune.proofs.Holding.{held_whole, less}
use Rattle.cr_prune.proofs.first.FirstLeads.take_back.Goals as goal

pub returns-then-self-leads : goal.returns-then-self-leads
returns-then-self-leads c p node counted rung first =
    let all = c.if-self-leads.true ∙ counted in
    let whole = held_whole p node c.args.self.now.held c.args.self.now.fresh first all in
    let left : c.args.leads - 1 ≡ length node - 1 = ap (λ n. n - 1) counted in
    let back = c.take_back.ensures p node (subst (λ (n : ℕ). c.args.rung ≡ length_of p (take n node)) left rung) whole in
    less p node c.args.self.now.held c.args.self.now.fresh first _ c.take_back.new.self all (omega (arith, counted))
    (subst (λ (n : ℕ). IsHeld p (take n node) c.take_back.new.self) (sym left) back)
