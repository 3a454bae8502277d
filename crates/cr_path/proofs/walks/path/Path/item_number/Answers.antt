use Rattle.std.proofs.Common.{◌<◌, ◌∙◌, length, get_or, sym, ap, subst}
use Rattle.cr_query.specs.Meters.{MeterParts, item_numbers}
use Rattle.cr_path.specs.Counted.{IsCounted}
use Rattle.cr_path.specs.Walks.{PathParts}
use Rattle.cr_path.proofs.Counts.{of_meter}
use Rattle.cr_path.proofs.walks.path.Path.item_number.Goals as goal

pub item_number-requires : goal.item_number-requires
item_number-requires g c =
    let w = c.self.inside in
    let inside = subst (λ (v : PathParts). c.args.item < length (item_numbers v.problem v.node)) (sym c.self.view_is) c.requires in
    of_meter w.problem.now w.steps (λ (m : MeterParts). c.args.item < length (item_numbers m.problem m.node)) c.deref.result.now.meter
    (subst (IsCounted w.problem.now w.steps) (sym c.deref.ensures) c.self.invariant.0.counted).meter inside

pub returns : goal.returns
returns g c =
    let w = c.self.inside in
    c.item_number.ensures w.problem.now w.steps (subst (IsCounted w.problem.now w.steps) (sym c.deref.ensures) c.self.invariant.0.counted)
    ∙ ap (λ (v : PathParts). get_or (item_numbers v.problem v.node) c.args.item 0) c.self.view_is
