use Rattle.std.proofs.Common.{◌+◌, ◌<◌, ◌∙◌, length, get_or, Contains, refl, ap, subst, arith}
use Rattle.std.proofs.lemmas.List.{get_or_default}
use Rattle.cr_rowset.specs.Pushing.{StandsAt}
use Rattle.cr_reach.specs.Tables.{ReachParts}
use Rattle.cr_reach.proofs.Finding.{LevelLaws, found_at, found_nowhere}
use Rattle.cr_reach.proofs.table.ReachTable.at_least.Goals as goal

pub returns-in-Some : goal.returns-in-Some
returns-in-Some c =
    let laws : LevelLaws = record { level = c.levels_list_rows.ensures.level; listed = c.no_fewer_leads_lead_to_rounds.ensures.listed; others = c.no_fewer_leads_lead_to_rounds.ensures.others } in
    let place = c.in-Some.place in
    let stands = c.in-Some.ensures.some in
    let inside : place < length c.self.inside.levels.items = omega (arith, stands.within, c.self.invariant.counted) in
    found_at laws c.args.self.now c.args.head.now place c.index.result.now
    (subst (λ (t : ReachParts). StandsAt t.rows c.args.head.now place) c.self.view_is stands)
    (c.index.ensures ∙ get_or_default c.self.inside.levels.items place c.index.result.now 0 inside
    ∙ ap (λ (t : ReachParts). get_or t.levels place 0) c.self.view_is)

pub returns-in-None : goal.returns-in-None
returns-in-None c =
    let laws : LevelLaws = record { level = c.levels_list_rows.ensures.level; listed = c.no_fewer_leads_lead_to_rounds.ensures.listed; others = c.no_fewer_leads_lead_to_rounds.ensures.others } in
    found_nowhere laws c.args.self.now c.args.head.now (c.self.inside.depth + 1)
    (subst (λ (t : ReachParts). Contains t.rows c.args.head.now → ⊥) c.self.view_is (c.in-None.ensures.none refl))
    (ap (λ (t : ReachParts). t.depth + 1) c.self.view_is)
