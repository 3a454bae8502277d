use Rattle.std.proofs.Common.{◌∙◌, ℕ, List, length, ap, sym, subst}
use Rattle.std.proofs.lemmas.Bool.{false≢true}
use Rattle.cr_model.specs.Callings.{changes_of, rows_from, rows_of}
use Rattle.cr_rowset.specs.Stacks.{StackParts}
use Rattle.cr_prune.specs.Heads.{HeadsParts}
use Rattle.cr_prune.specs.Holding.{IsHeld}
use Rattle.cr_prune.specs.Parts.{AreNew, RingsPast}
use Rattle.cr_prune.proofs.Clashes.{step_in}
use Rattle.cr_prune.proofs.Limits.{last_long}
use Rattle.cr_prune.proofs.held.Held.ring_past.Goals as goal

pub head_after-requires-clause-step : goal.head_after-requires-clause-step
head_after-requires-clause-step c = step_in c.args.problem.now c.args.leads.now c.args.step c.requires.table c.requires.step

pub returns-in-Rows-clause-past : goal.returns-in-Rows-clause-past
returns-in-Rows-clause-past c held is =
    let rows = ap (λ (s : StackParts). s.rows) (subst (IsHeld c.args.problem.now held) c.in-Rows.is is) in
    subst (λ (stack : List (List ℕ)). RingsPast stack c.args.from (changes_of c.args.problem.now c.args.step) c.ring_past.result) rows
    (rw c.changes_of.ensures.is at c.ring_past.ensures.past)

pub returns-then-are_new-clause-past : goal.returns-then-are_new-clause-past
returns-then-are_new-clause-past c held is =
    let heads = subst (IsHeld c.args.problem.now held) c.in-Heads.is is in (
      c.head_after.ensures.last c.args.problem.now c.requires.table,
      subst (λ (h : HeadsParts). AreNew (rows_of h.problem h.leads) (rows_from c.args.from (changes_of h.problem c.args.step))) heads (c.are_new.ensures.0 c.if-are_new.true),
    )

pub returns-then-are_new-clause-same_stage : goal.returns-then-are_new-clause-same_stage
returns-then-are_new-clause-same_stage c =
    ap length (c.head_after.ensures.last c.args.problem.now c.requires.table) ∙ last_long c.args.from (changes_of c.args.problem.now c.args.step) ∙ c.requires.same_stage

pub returns-else-are_new-clause-past : goal.returns-else-are_new-clause-past
returns-else-are_new-clause-past c held is new =
    let heads = subst (IsHeld c.args.problem.now held) c.in-Heads.is is in
    false≢true (sym c.if-are_new.false
    ∙ c.are_new.ensures.1 (subst (λ (h : HeadsParts). AreNew (rows_of h.problem h.leads) (rows_from c.args.from (changes_of h.problem c.args.step))) (sym heads) new))
