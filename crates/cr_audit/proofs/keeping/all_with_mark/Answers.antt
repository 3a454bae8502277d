use Rattle.std.proofs.Common.{◌≡◌, ℕ, ◌*◌, nat_eq, ap₂, ◌∙◌}
use Rattle.cr_model.specs.Callings.{mark_of}
use Rattle.cr_audit.proofs.Kept.{counted_in_parts}
use Rattle.cr_audit.proofs.keeping.all_with_mark.Goals as goal

pub returns : goal.returns
returns c =
    let p = c.args.problem.now in
    c.in_parts.ensures.is ∙ ap₂ (λ (m n : ℕ). m * n) c.parts.ensures.is (c.from.ensures ∙ c.marked.ensures)
    ∙ counted_in_parts p (λ step. nat_eq (mark_of p step) c.args.mark) c.args.path.now.node.items
