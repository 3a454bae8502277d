use Rattle.std.proofs.Common.{◌≡◌, ◌∙◌, List, length, sym, ap, subst, arith}
use Rattle.std.specs.List.{All}
use Rattle.std.proofs.lemmas.List.Elements.{All-weaker}
use Rattle.cr_row.specs.Rows.{Places, IsChange}
use Rattle.cr_model.specs.Problems.{LeadParts}
use Rattle.cr_model.specs.Callings.{changes_of, changes_at}
use Rattle.cr_model.specs.Right.{AreOfStage}
use Rattle.cr_model.specs.Sound.{sound_leads}
use Rattle.cr_prune.proofs.walk.changes_of.Goals as goal

pub returns-clause-staged : goal.returns-clause-staged
returns-clause-staged c =
    let p = c.args.problem.now in
    let is : c.changes_at.result.now ≡ changes_of p c.args.step = c.changes_at.ensures ∙ ap (λ (leads : List LeadParts). changes_at leads c.args.step) c.leads.ensures.is in
    let right : AreOfStage p.stage (changes_of p c.args.step) = ((sound_leads p c.leads.ensures.sound).each c.args.step c.requires).changes in
    subst (λ list. All (λ (change : Places). change.stage ≡ p.stage) list) (sym is)
    (All-weaker (λ (change : Places). (change.stage ≡ p.stage) × IsChange change) (λ (change : Places). change.stage ≡ p.stage) (λ change h. h.0) (changes_of p c.args.step) right.each)

pub returns-clause-few : goal.returns-clause-few
returns-clause-few c =
    let p = c.args.problem.now in
    let is : c.changes_at.result.now ≡ changes_of p c.args.step = c.changes_at.ensures ∙ ap (λ (leads : List LeadParts). changes_at leads c.args.step) c.leads.ensures.is in
    omega (arith, ap length is, ((sound_leads p c.leads.ensures.sound).each c.args.step c.requires).changes.few)
