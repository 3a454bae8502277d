use Rattle.std.proofs.Common.{◌+◌, ◌<◌, ◌∙◌, length, All, sym, ap, subst}
use Rattle.cr_model.specs.Callings.{head_of}
use Rattle.cr_path.specs.Ends.{IsEnd}
use Rattle.cr_path.specs.Numbers.{numbers_of}
use Rattle.cr_path.specs.Walks.{PathParts}
use Rattle.cr_path.proofs.Marking.{within_in}
use Rattle.cr_path.proofs.Places.{some_head}
use Rattle.cr_path.proofs.Walking.{step_tabled}
use Rattle.cr_path.proofs.walks.path.Path.numbers_after.Goals as goal

pub place-requires-clause-base : goal.place-requires-clause-base
place-requires-clause-base g c =
    let at_end = subst (λ (v : PathParts). IsEnd v.problem v.numbers v.node c.args.end) (sym c.self.view_is) c.requires.end in
    some_head c.self.inside.numbers (head_of c.self.inside.problem.now c.self.inside.steps) c.args.end.base at_end.from

pub place-requires-clause-step : goal.place-requires-clause-step
place-requires-clause-step g c =
    let w = c.self.inside in
    step_tabled w.problem.now w.leads.now w.numbers w.steps w.next w.ends w.marks.marks w.marks.unmarked w.counting.value w.turn_free c.self.invariant.0 c.args.step
    (subst (λ (v : PathParts). c.args.step < length v.problem.leads) (sym c.self.view_is) c.requires.step)

pub returns-clause-are : goal.returns-clause-are
returns-clause-are g c =
    c.numbers_at.ensures ∙ ap (numbers_of c.self.inside.numbers) c.place.ensures.is
    ∙ ap (λ (v : PathParts). numbers_of v.numbers (c.args.end.base + c.args.step)) c.self.view_is

pub returns-clause-within : goal.returns-clause-within
returns-clause-within g c =
    let w = c.self.inside in
    subst (λ (v : PathParts). All (λ number. number < v.numbers.rows) c.numbers_at.result.now) c.self.view_is
    (subst (All (λ number. number < w.numbers.rows)) (sym c.numbers_at.ensures) (within_in w.problem.now w.numbers c.self.invariant.0.numbered c.place.result))
