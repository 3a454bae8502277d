use Rattle.std.proofs.Common.{◌≡◌, ◌+◌, ◌-◌, ◌<◌, ◌∙◌, nat_le, length, true, false, sym, ap, subst, arith, ℕ}
use Rattle.cr_model.specs.Dead.{is_turned_back}
use Rattle.cr_model.specs.Sizes.{most_rows, child}
use Rattle.cr_path.specs.Ends.{IsEnd}
use Rattle.cr_path.specs.Living.{is_clean, is_cut}
use Rattle.cr_path.specs.Marks.{IsLead}
use Rattle.cr_path.specs.Numbers.{numbers_of}
use Rattle.cr_path.specs.Counted.{AreHopeless}
use Rattle.cr_path.specs.Walks.{PathParts}
use Rattle.cr_path.proofs.Living.{child_told}
use Rattle.cr_path.proofs.Uncut.{few_steps}
use Rattle.cr_path.proofs.Walking.{have_marks}
use Rattle.cr_path.proofs.walks.path.Path.is_cut.Goals as goal

pub has_some-is_again-requires : goal.has_some-is_again-requires
has_some-is_again-requires g c =
    let w = c.self.inside in
    let place : ℕ = c.args.end.base + c.args.step in
    have_marks w.problem.now w.leads.now w.numbers w.steps w.next w.ends w.marks.marks w.marks.unmarked w.counting.value w.turn_free c.self.invariant.0 place c.numbers_after.result.now
    (c.numbers_after.ensures.are ∙ ap (λ (v : PathParts). numbers_of v.numbers place) (sym c.self.view_is))

pub returns : goal.returns
returns g c straight =
    let w = c.self.inside in
    let p = w.problem.now in
    let t = w.numbers in
    let clean = subst (λ (v : PathParts). is_clean v.problem v.node ≡ true) (sym c.self.view_is) c.requires.clean in
    let inside = subst (λ (v : PathParts). c.args.step < length v.problem.leads) (sym c.self.view_is) c.requires.step in
    let at_end = subst (λ (v : PathParts). IsEnd v.problem v.numbers v.node c.args.end) (sym c.self.view_is) c.requires.end in
    let place : ℕ = c.args.end.base + c.args.step in
    let found = subst (λ (v : PathParts). IsLead v.problem v.numbers v.node c.args.step place c.lead_after-lead.result) (sym c.self.view_is) c.lead_after-lead.ensures in
    let are : c.numbers_after.result.now ≡ numbers_of t place = c.numbers_after.ensures.are ∙ ap (λ (v : PathParts). numbers_of v.numbers place) (sym c.self.view_is) in
    let low : c.args.step < 32 = omega (arith, inside, few_steps p c.self.invariant.0.sound) in
    let hopeless = subst (λ (v : PathParts). AreHopeless v.problem v.node c.args.hopeless) (sym c.self.view_is) c.requires.hopeless in
    child_told p t w.steps c.args.step place c.lead_after-lead.result w.marks.marks (length w.steps - w.marks.unmarked) c.args.end c.self.invariant.0.numbered c.self.invariant.0.sound clean inside found c.self.invariant.0.marked.are at_end
    c.numbers_after.result.now are (nat_le c.from.result c.args.end.rung) c.has_some-is_again.result
    (ap (λ n. nat_le n c.args.end.rung) c.from.ensures) c.has_some-is_again.ensures
    (subst (λ (v : PathParts). is_turned_back v.problem (child v.node c.args.step) ≡ false) (sym c.self.view_is) straight)
    c.has_step.result (c.has_step.ensures low ∙ hopeless c.args.step inside low)
    ∙ ap (λ (v : PathParts). is_cut v.problem most_rows (child v.node c.args.step)) c.self.view_is
