-- The lead has no row twice, and brings no row again.
use Rattle.std.proofs.Common.{◌<◌, ◌∙◌, length, ap, sym, subst, arith}
use Rattle.std.proofs.lemmas.Bool.{false≢true}
use Rattle.cr_model.specs.Callings.{changes_of, rows_from, rows_of, head_of, AllDiffer}
use Rattle.cr_model.specs.Sizes.{child}
use Rattle.cr_leads.specs.Tables.{lead_table}
use Rattle.cr_prune.specs.Heads.{HeadsParts}
use Rattle.cr_prune.specs.Parts.{AreNew}
use Rattle.cr_prune.proofs.Limits.{head_long}
use Rattle.cr_prune.proofs.Clashes.{known_steps, all_differ, twice_again, shared_again}
use Rattle.cr_prune.proofs.heads.Heads.stay_different.Goals as goal

pub self_false-requires : goal.self_false-requires
self_false-requires c =
    let steps = known_steps c.self.inside.problem.now c.self.inside.table.now c.self.invariant.0.table_is in
    let step : c.args.step < length c.self.inside.problem.now.leads = subst (λ (h : HeadsParts). c.args.step < length h.problem.leads) (sym c.self.view_is) c.requires.step in
    omega (arith, steps, step)

pub are_new-requires-clause-same_stage : goal.are_new-requires-clause-same_stage
are_new-requires-clause-same_stage c = ap length c.requires.from ∙ head_long c.args.self.now.problem c.args.self.now.leads

pub returns-then-not-self_false-clause-yes : goal.returns-then-not-self_false-clause-yes
returns-then-not-self_false-clause-yes c told =
    let p = c.self.inside.problem.now in
    let step : c.args.step < length p.leads = subst (λ (h : HeadsParts). c.args.step < length h.problem.leads) (sym c.self.view_is) c.requires.step in
    let head = c.requires.from ∙ ap (λ (h : HeadsParts). head_of h.problem h.leads) (sym c.self.view_is) in
    let twice = c.self_false.ensures (lead_table p) c.self.invariant.0.table_is in
    let new = subst (λ (h : HeadsParts). AreNew (rows_of h.problem h.leads) (rows_from c.args.from.now (changes_of h.problem c.args.step))) (sym c.self.view_is) (c.are_new.ensures.0 told) in
    subst (λ (h : HeadsParts). AllDiffer (rows_of h.problem h.leads) → AllDiffer (rows_of h.problem (child h.leads c.args.step))) c.self.view_is
    (all_differ p _ c.args.step c.args.from.now step head (λ h. false≢true (sym c.if-not-self_false.true ∙ twice.1 h)) new)

pub returns-then-not-self_false-clause-no : goal.returns-then-not-self_false-clause-no
returns-then-not-self_false-clause-no c told =
    shared_again c.args.self.now.problem c.args.self.now.leads c.args.step c.args.from.now c.requires.step c.requires.from
    (λ new. false≢true (sym told ∙ c.are_new.ensures.1 new))

pub returns-else-not-self_false-clause-no : goal.returns-else-not-self_false-clause-no
returns-else-not-self_false-clause-no c told =
    let p = c.self.inside.problem.now in
    let step : c.args.step < length p.leads = subst (λ (h : HeadsParts). c.args.step < length h.problem.leads) (sym c.self.view_is) c.requires.step in
    let head = c.requires.from ∙ ap (λ (h : HeadsParts). head_of h.problem h.leads) (sym c.self.view_is) in
    let twice = c.self_false.ensures (lead_table p) c.self.invariant.0.table_is in
    subst (λ (h : HeadsParts). AllDiffer (rows_of h.problem (child h.leads c.args.step)) → ⊥) c.self.view_is
    (twice_again p _ c.args.step c.args.from.now step head (twice.0 c.if-not-self_false.false))
