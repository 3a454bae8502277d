use Rattle.std.proofs.Common.{◌≡◌, length, map, ap, ◌∙◌, arith}
use Rattle.cr_model.specs.Callings.{least}
use Rattle.cr_model.specs.Sound.{sound_leads}
use Rattle.cr_model.proofs.Measured.{shortest_some}
use Rattle.cr_model.proofs.problem.Problem.shortest.Goals as goal

pub returns-clause-some : goal.returns-clause-some
returns-clause-some c =
    let some = shortest_some _ _ _ (sound_leads _ c.self.invariant) in
    let is : c.shortest_length.result ≡ least (map (λ lead. length lead.changes) c.self.inside.leads.items) =
    c.shortest_length.ensures ∙ ap (λ leads. least (map (λ lead. length lead.changes) leads)) c.deref.ensures.value in
    omega (arith, some)
