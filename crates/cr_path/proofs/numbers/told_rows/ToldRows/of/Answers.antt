use Rattle.std.proofs.Common.{ℕ, List, [], subst}
use Rattle.cr_path.specs.RungLeads.{AreNumbered}
use Rattle.cr_path.proofs.Placed.{told_more}
use Rattle.cr_path.proofs.numbers.told_rows.ToldRows.of.Goals as goal

pub loop-step-preserved : goal.loop-step-preserved
loop-step-preserved c =
    let p = c.args.leads.now in
    let told = c.args.told.now in
    let old = c.loop-step.rows.rows in
    let new = c.places_of.new.rows.rows in
    let lead = c.in_ok-places_of.field-0 in
    told_more p told old new c.loop-step.places.items c.push.new.self.items lead c.loop-step.step c.loop-step.invariant
    (c.in_ok-places_of.ensures.staged p.stage c.loop-step.invariant.staged c.rows_within.ensures.same_stage)
    (subst (λ (rung : List (List ℕ)). AreNumbered old [] rung new lead) c.rows_within.ensures.is c.in_ok-places_of.ensures.are)
    c.in_ok-push.ensures.items
