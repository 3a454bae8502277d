use Rattle.std.proofs.Common.{◌+◌, ◌<◌, length, sym, subst}
use Rattle.cr_model.specs.Callings.{head_of}
use Rattle.cr_path.specs.Ends.{IsEnd, ends_of}
use Rattle.cr_path.specs.Marks.{IsLead}
use Rattle.cr_path.specs.Walks.{PathParts}
use Rattle.cr_path.proofs.Enough.{lead_found}
use Rattle.cr_path.proofs.Places.{some_head}
use Rattle.cr_path.proofs.Walking.{step_tabled}
use Rattle.cr_path.proofs.walks.path.Path.lead_after.Goals as goal

pub place-requires-clause-base : goal.place-requires-clause-base
place-requires-clause-base g c =
    let at_end = subst (λ (v : PathParts). IsEnd v.problem v.numbers v.node c.args.end) (sym c.self.view_is) c.requires.end in
    some_head c.self.inside.numbers (head_of c.self.inside.problem.now c.self.inside.steps) c.args.end.base at_end.from

pub place-requires-clause-step : goal.place-requires-clause-step
place-requires-clause-step g c =
    let w = c.self.inside in
    step_tabled w.problem.now w.leads.now w.numbers w.steps w.next w.ends w.marks.marks w.marks.unmarked w.counting.value w.turn_free c.self.invariant.0 c.args.step
    (subst (λ (v : PathParts). c.args.step < length v.problem.leads) (sym c.self.view_is) c.requires.step)

pub returns : goal.returns
returns g c =
    let w = c.self.inside in
    let p = w.problem.now in
    let t = w.numbers in
    let at_end = subst (λ (v : PathParts). IsEnd v.problem v.numbers v.node c.args.end) (sym c.self.view_is) c.requires.end in
    let inside = subst (λ (v : PathParts). c.args.step < length v.problem.leads) (sym c.self.view_is) c.requires.step in
    subst (λ (v : PathParts). IsLead v.problem v.numbers v.node c.args.step (c.args.end.base + c.args.step) c.lead_at.result) c.self.view_is
    (lead_found p t c.self.invariant.0.numbered w.steps w.next (ends_of w.steps w.ends) c.self.invariant.0.ends c.self.invariant.0.valid c.args.end c.args.step c.place.result c.lead_at.result at_end inside c.place.ensures.is c.lead_at.ensures)
