use Rattle.std.proofs.Common.{◌≡◌, ℕ, ◌+◌, List, [], ◌∷◌, ◌++◌, get_or, take, sym, ap, ◌∙◌, rules}
use Rattle.std.proofs.lemmas.List.{take_more}
use Rattle.cr_row.specs.Rows.{rounds}
use Rattle.cr_model.specs.Callings.{changes_of, rows_from, rows_of, last_of}
use Rattle.cr_audit.proofs.Paths.{child_rows}
use Rattle.cr_audit.proofs.path.ring_rest.Goals as goal

pub loop-index-preserved : goal.loop-index-preserved
loop-index-preserved c =
    let p = c.args.problem.now in
    let steps = c.args.steps.now in
    let index = c.loop-index.index in
    let step = get_or steps index 0 in
    c.in_ok-ring_step.ensures
    ∙ ap (λ rows. rows ++ rows_from (last_of (rounds p.stage) rows) (changes_of p step)) c.loop-index.invariant
    ∙ sym (child_rows p (take index steps) step) ∙ ap (rows_of p) (sym (take_more steps index 0 c.loop-index-test.true))
