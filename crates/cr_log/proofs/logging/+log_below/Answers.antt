use Rattle.std.proofs.Common.{◌≡◌, ℕ, ◌+◌, ◌<◌, List, ◌++◌, length, take, sym, ap, ◌∙◌, subst, arith}
use Rattle.cr_model.specs.Sizes.{child, children}
use Rattle.cr_rowset.specs.Stacks.{StackParts}
use Rattle.cr_log.specs.declared.logging.Place.{Place}
use Rattle.cr_log.specs.declared.logging.Logged.{Logged}
use Rattle.cr_log.specs.Logging.{IsAt, IsLogged, children_from}
use Rattle.cr_log.proofs.Going.{cut_back, next_due, child_falls, open_due, cut_due}
use Rattle.cr_log.proofs.logging.+log_below.Goals.{then-branch+in_ok-log_below, else-branch}
use Rattle.cr_log.proofs.logging.+log_below.Goals as goal

pub log_below-requires : goal.log_below-requires
log_below-requires t c =
    let gone = c.in_ok-go.ensures.gone in
    let at = subst (λ (n : List ℕ). IsAt c.args.problem.now n c.go.new.place.rows) (sym gone.steps_are) (gone.at c.if-branch.true) in
    let falls = child_falls c.args.problem.now c.args.place.now.steps.items c.go.new.place.steps.items c.loop-step.step c.go.new.place.rows at
    (gone.steps_are ∙ ap (λ (n : List ℕ). child n c.loop-step.step) c.loop-step.invariant.steps) in
    (omega (arith, falls, c.decreases), (c.requires.table, (c.requires.shapes, at)))

pub loop-step-preserved : goal.loop-step-preserved
loop-step-preserved t c =
    let p = c.args.problem.now in
    let node = c.args.place.now.steps.items in
    let step = c.loop-step.step in
    let gone = c.in_ok-go.ensures.gone in
    let next : child c.loop-step.place.steps.items step ≡ child node step = ap (λ (n : List ℕ). child n step) c.loop-step.invariant.steps in
    let steps : c.if-branch.place.steps.items ≡ c.go.new.place.steps.items = elim c.if-branch.branch [
      | then-branch+in_ok-log_below w ↦ ap (λ (q : Place). q.steps.items) w.place-is ∙ w.in_ok-log_below.ensures.steps
      | else-branch w ↦ ap (λ (q : Place). q.steps.items) w.place-is
    ] in
    let rows : c.if-branch.place.rows ≡ c.go.new.place.rows = elim c.if-branch.branch [
      | then-branch+in_ok-log_below w ↦ ap (λ (q : Place). q.rows) w.place-is ∙ w.in_ok-log_below.ensures.rows
      | else-branch w ↦ ap (λ (q : Place). q.rows) w.place-is
    ] in
    record {
      steps = c.go_back.ensures.steps node step (steps ∙ gone.steps_are ∙ next);
      rows = c.go_back.ensures.rows
          ∙ ap (λ (s : StackParts). record { rows = take c.len-rung.result s.rows; room = s.room }) rows
          ∙ cut_back c.loop-step.place.rows c.go.new.place.rows c.len-rung.result gone.kept (c.len-rung.ensures.is ∙ sym (ap (λ (s : StackParts). length s.rows) c.loop-step.invariant.rows))
          ∙ c.loop-step.invariant.rows;
      logged = λ due begun.
          let inside : step < length p.leads = omega (arith, c.loop-step-test.true, c.count-step-end.ensures.of_problem p c.requires.table) in
          let rest : List (List ℕ) = children_from p node (step + 1) ++ due in
          let gone_on = c.in_ok-go.ensures.logged rest (next_due p node c.loop-step.place.steps.items step c.loop-step.run.lines.items c.loop-step.run.book.items due c.loop-step.invariant.steps inside
          (c.loop-step.invariant.logged due begun)) in
          elim c.if-branch.branch [
            | then-branch+in_ok-log_below w ↦ subst (λ (r : Logged). IsLogged p r.lines.items r.book.items rest) (sym w.run-is)
                (w.in_ok-log_below.ensures.logged rest
                (open_due p c.go.new.place.steps.items (child c.loop-step.place.steps.items step) c.in_ok-go.field-0 c.go.new.run.lines.items c.go.new.run.book.items rest w.if-branch.true gone.steps_are gone_on))
            | else-branch w ↦ subst (λ (r : Logged). IsLogged p r.lines.items r.book.items rest) (sym w.run-is)
                (cut_due p (children p (child c.loop-step.place.steps.items step)) c.in_ok-go.field-0 c.go.new.run.lines.items c.go.new.run.book.items rest w.if-branch.false gone_on)
          ];
    }
