use Rattle.std.proofs.Common.{ap}
use Rattle.cr_prune.specs.declared.ends.LeadEnd.{LeadEnd}
use Rattle.cr_prune.proofs.Clashes.{round_stays, round_found}
use Rattle.cr_prune.proofs.heads.Heads.round_with.Goals as goal

pub returns-in-Some : goal.returns-in-Some
returns-in-Some c =
    round_stays c.args.self.now.problem c.args.self.now.leads c.args.step c.args.from.head c.requires.step (ap (λ (e : LeadEnd). e.head) c.requires.from) c.in-Some.place (c.in-Some.ensures)

pub returns-in-None : goal.returns-in-None
returns-in-None c =
    round_found c.args.self.now.problem c.args.self.now.leads c.args.step c.args.from.head c.requires.step (ap (λ (e : LeadEnd). e.head) c.requires.from)
    c.args.inverse.now c.args.from.rung c.round_in.result c.requires.inverse (ap (λ (e : LeadEnd). e.rung) c.requires.from) c.in-None.ensures c.round_in.ensures.some c.round_in.ensures.none
