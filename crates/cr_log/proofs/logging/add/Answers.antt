use Rattle.std.proofs.Common.{◌∙◌, ◌++◌, ◌∷◌, [], ℕ, List, ap, refl, sym}
use Rattle.cr_model.specs.OneTurn.{touch_found}
use Rattle.cr_log.proofs.Adding.{line_of, open_logged, cut_logged}
use Rattle.cr_log.proofs.Small.{first_is_small}
use Rattle.cr_log.proofs.logging.add.Goals as goal

pub returns-in_ok-find : goal.returns-in_ok-find
returns-in_ok-find c = λ due logged.
    let p = c.args.problem.now in
    let node = c.args.place.now.steps.items in
    open_logged p c.args.run.now.lines.items c.add_line.new.lines.items c.args.run.now.book.items c.find.new.book.items due node c.args.verdict
    (record { steps = c.requires.steps; small = first_is_small p node c.stage.ensures.sound c.requires.steps c.args.verdict c.requires.first })
    c.requires.first (c.in_ok-add_line.ensures ∙ ap (λ (n : List ℕ). c.args.run.now.lines.items ++ line_of n c.args.verdict ∷ []) c.as_slice-node.ensures.value) logged (sym c.is_open.ensures ∙ c.if-is_open.true) (c.in_ok-find.ensures ∙ ap (λ (n : List ℕ). c.args.run.now.book.items ++ touch_found p n) c.as_slice-node.ensures.value)

pub returns-else-is_open : goal.returns-else-is_open
returns-else-is_open c = λ due logged.
    let p = c.args.problem.now in
    let node = c.args.place.now.steps.items in
    cut_logged p c.args.run.now.lines.items c.add_line.new.lines.items c.args.run.now.book.items c.args.run.now.book.items due node c.args.verdict
    (record { steps = c.requires.steps; small = first_is_small p node c.stage.ensures.sound c.requires.steps c.args.verdict c.requires.first })
    c.requires.first (c.in_ok-add_line.ensures ∙ ap (λ (n : List ℕ). c.args.run.now.lines.items ++ line_of n c.args.verdict ∷ []) c.as_slice-node.ensures.value) logged (sym c.is_open.ensures ∙ c.if-is_open.false) refl
