use Rattle.std.proofs.Common.{◌≡◌, ℕ, ◌∙◌, List, length, take, nat_lt, sym, ap, subst, arith}
use Rattle.std.specs.Prelude.{Contains}
use Rattle.cr_row.specs.Rows.{rounds}
use Rattle.cr_model.specs.Callings.{rows_of, length_of, AllDiffer}
use Rattle.cr_model.specs.Dead.{is_round, parts_of}
use Rattle.cr_model.specs.Decided.{rows_differ}
use Rattle.cr_model.proofs.Deciding.{rows_differ_decided}
use Rattle.cr_rowset.specs.Pushing.{StandsAt}
use Rattle.cr_prune.specs.Walks.{WalkParts}
use Rattle.cr_prune.proofs.ComingRound.{round_told, no_round}
use Rattle.cr_prune.proofs.Leads.{all_fresh, rows_counted, first_fewer}
use Rattle.cr_prune.proofs.walk.Walk.is_round.Goals as goal

pub is_early-requires : goal.is_early-requires
is_early-requires c =
    let p = c.self.inside.problem.now in
    let node = c.self.inside.steps in
    let fresh = c.self.inside.first.fresh in
    let stands = c.in-Some.ensures p node (c.rounds-rounds.ensures.is ∙ ap rounds c.stage.ensures.is) c.self.invariant.first in
    let long = c.length.ensures.is ∙ ap (λ (w : WalkParts). length_of w.problem w.node) (sym c.self.view_is) in
    omega (arith, stands.within, rows_counted p (take fresh node), first_fewer p node fresh, long)

pub returns-in-Some : goal.returns-in-Some
returns-in-Some c =
    let p = c.self.inside.problem.now in
    let node = c.self.inside.steps in
    let differ : AllDiffer (rows_of p node) = (rows_differ_decided (rows_of p node)).0 (ap (λ (w : WalkParts). rows_differ (rows_of w.problem w.node)) c.self.view_is ∙ c.requires.differ) in
    let parts : c.args.several ≡ nat_lt 1 (parts_of p) = c.requires.several ∙ ap (λ (w : WalkParts). nat_lt 1 (parts_of w.problem)) (sym c.self.view_is) in
    let long : c.length.result ≡ length (rows_of p node) = c.length.ensures.is ∙ ap (λ (w : WalkParts). length_of w.problem w.node) (sym c.self.view_is) ∙ sym (rows_counted p node) in
    let stands = c.in-Some.ensures p node (c.rounds-rounds.ensures.is ∙ ap rounds c.stage.ensures.is) c.self.invariant.first in
    let whole = all_fresh p node c.self.inside.first.fresh c.self.invariant.first.are_fresh differ in
    c.is_early.ensures
    ∙ round_told p node c.args.several differ parts c.in-Some.place c.length.result (subst (λ (leads : List ℕ). StandsAt (rows_of p leads) (rounds p.stage) c.in-Some.place) whole stands) long
    ∙ ap (λ (w : WalkParts). is_round w.problem w.node) c.self.view_is

pub returns-in-None : goal.returns-in-None
returns-in-None c =
    let p = c.self.inside.problem.now in
    let node = c.self.inside.steps in
    let differ : AllDiffer (rows_of p node) = (rows_differ_decided (rows_of p node)).0 (ap (λ (w : WalkParts). rows_differ (rows_of w.problem w.node)) c.self.view_is ∙ c.requires.differ) in
    let parts : c.args.several ≡ nat_lt 1 (parts_of p) = c.requires.several ∙ ap (λ (w : WalkParts). nat_lt 1 (parts_of w.problem)) (sym c.self.view_is) in
    let nowhere = c.in-None.ensures p node (c.rounds-rounds.ensures.is ∙ ap rounds c.stage.ensures.is) c.self.invariant.first in
    let whole = all_fresh p node c.self.inside.first.fresh c.self.invariant.first.are_fresh differ in
    no_round p node c.args.several differ parts (subst (λ (leads : List ℕ). Contains (rows_of p leads) (rounds p.stage) → ⊥) whole nowhere)
    ∙ ap (λ (w : WalkParts). is_round w.problem w.node) c.self.view_is
