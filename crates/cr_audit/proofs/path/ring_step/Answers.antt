use Rattle.std.proofs.Common.{◌≡◌, ℕ, List, length, All, ap, ap₂, sym, ◌∙◌, subst}
use Rattle.cr_row.specs.Rows.{Places, rounds}
use Rattle.cr_model.specs.Problems.{LeadParts}
use Rattle.cr_model.specs.Callings.{changes_at, last_of}
use Rattle.cr_audit.proofs.Paths.{step_fits, head_long}
use Rattle.cr_audit.proofs.path.ring_step.Goals as goal

pub ring-requires : goal.ring-requires
ring-requires c =
    let p = c.args.problem.now in
    let long = ap length c.last_row-from.ensures ∙ ap₂ (λ (n : ℕ) (rows : List (List ℕ)). length (last_of (rounds n) rows)) c.stage.ensures.is c.deref.ensures.value
    ∙ head_long c.change_of_a_row.ensures.same_length c.rounds_is_neutral.ensures.length p c.requires.rows.0 c.args.rows.now.items c.requires.rows.1 in
    subst (λ (n : ℕ). All (λ change. change.stage ≡ n) c.changes_at.result.now) (sym long)
    (subst (All (λ change. change.stage ≡ p.stage)) (sym (c.changes_at.ensures ∙ ap₂ (λ (ls : List LeadParts) (n : ℕ). changes_at ls n) c.leads.ensures.is c.from.ensures)) (step_fits p c.stage.ensures.sound c.args.step c.requires.step))
