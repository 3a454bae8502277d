use Rattle.std.proofs.Common.{◌<◌, ◌≤◌, ℕ, List, Option, length, take, Some, refl, subst, sym, arith}
use Rattle.std.proofs.lemmas.List.{take_all}
use Rattle.cr_model.specs.Callings.{changes_of, changes_of_all, rows_of}
use Rattle.cr_prune.specs.Parts.{RingsPast}
use Rattle.cr_prune.proofs.Holding.{of_problem}
use Rattle.cr_prune.proofs.Past.{lead_past, lead_old}
use Rattle.cr_prune.proofs.further_parts.ring_part.Goals as goal

pub ring_past-requires-clause-of_problem : goal.ring_past-requires-clause-of_problem
ring_past-requires-clause-of_problem c = of_problem c.args.problem.now _ c.args.first.now.held c.requires.first.are_held

pub returns-in_err-row-clause-past : goal.returns-in_err-row-clause-past
returns-in_err-row-clause-past c =
    let p = c.args.problem.now in
    let node = c.args.node.now in
    let rows = rows_of p (take c.args.first.now.fresh node) in
    let inside : c.loop-step.step-index < length node = omega (arith, c.loop-step-test.true) in
    subst (λ (result : Option (List ℕ)). RingsPast rows c.args.from (changes_of_all p node) result) (sym c.from_residual.ensures)
    (lead_old rows p c.args.from c.loop-step.row node c.loop-step.step-index _ (changes_of p _) inside refl refl c.loop-step.invariant.past
    (c.in_err-row.ensures.past node c.requires.first))

pub loop-step-preserved : goal.loop-step-preserved
loop-step-preserved c =
    let p = c.args.problem.now in
    let node = c.args.node.now in
    let rows = rows_of p (take c.args.first.now.fresh node) in
    let inside : c.loop-step.step-index < length node = omega (arith, c.loop-step-test.true) in
    record {
      stage = c.in_ok-row.ensures.same_stage;
      past = lead_past rows p c.args.from c.loop-step.row node c.loop-step.step-index _ (changes_of p _) inside refl refl c.loop-step.invariant.past
          (Some c.in_ok-row.row) (c.in_ok-row.ensures.past node c.requires.first);
    }

pub returns-clause-past : goal.returns-clause-past
returns-clause-past c =
    let p = c.args.problem.now in
    let rows = rows_of p (take c.args.first.now.fresh c.args.node.now) in
    let all : length c.args.node.now ≤ c.loop-step.step-index = omega (arith, c.loop-step-test.false) in
    subst (λ (node : List ℕ). RingsPast rows c.args.from (changes_of_all p node) (Some c.loop-step.row)) (take_all c.loop-step.step-index c.args.node.now all) c.loop-step.invariant.past
