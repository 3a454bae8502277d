use Rattle.std.proofs.Common.{◌≡◌, ℕ, ◌-◌, ◌<◌, ◌≤◌, List, [], length, get_or, ap, ap₂, sym, ◌∙◌, arith, rules}
use Rattle.std.proofs.lemmas.List.{get_or_default}
use Rattle.cr_row.specs.Rows.{Places, rounds}
use Rattle.cr_model.specs.Callings.{last_of, rows_from, rows_of, head_of, changes_of_all}
use Rattle.cr_audit.specs.Paths.{front, last_lead}
use Rattle.cr_audit.proofs.Paths.{changes_fit, last_known, head_long}
use Rattle.cr_audit.proofs.RowPlaces.{row_before, row_in, size_is}
use Rattle.cr_audit.proofs.places.row_at.Goals as goal

pub returns-then-place-before : goal.returns-then-place-before
returns-then-place-before c =
    let p = c.args.problem.now in
    let node = c.args.path.now.node.items in
    let inside : c.args.place < length c.args.path.now.rows.items = search rules in
    c.index.ensures ∙ get_or_default c.args.path.now.rows.items c.args.place c.index.result.now [] inside
    ∙ row_before p node c.args.path.now.rows.items c.args.place c.requires.at.rows inside

pub row_after-requires-clause-fit : goal.row_after-requires-clause-fit
row_after-requires-clause-fit c =
    let p = c.args.problem.now in
    let node = c.args.path.now.node.items in
    changes_fit p c.stage.ensures.sound (last_lead node) c.last_changes.result.now (length c.last_row-head.result) (last_known p node c.requires.at.known) c.last_changes.ensures
    (ap length c.last_row-head.ensures ∙ ap₂ (λ (n : ℕ) (rows : List (List ℕ)). length (last_of (rounds n) rows)) c.stage.ensures.is c.deref.ensures.value
    ∙ head_long c.change_of_a_row.ensures.same_length c.rounds_is_neutral.ensures.length p (front node) c.args.path.now.rows.items c.requires.at.rows)

pub row_after-requires-clause-index : goal.row_after-requires-clause-index
row_after-requires-clause-index c =
    let p = c.args.problem.now in
    let node = c.args.path.now.node.items in
    let before : c.len-before.result ≡ length (rows_of p (front node)) = search rules in
    omega (arith, c.requires.place, c.if-place-before.false, size_is p node c.len-before.result (length c.last_changes.result.now) before (ap length c.last_changes.ensures))

pub returns : goal.returns
returns c =
    let p = c.args.problem.now in
    let node = c.args.path.now.node.items in
    let before : c.len-before.result ≡ length (rows_of p (front node)) = search rules in
    let head : c.last_row-head.result ≡ head_of p (front node) =
    c.last_row-head.ensures ∙ ap₂ (λ (n : ℕ) (rows : List (List ℕ)). last_of (rounds n) rows) c.stage.ensures.is (c.deref.ensures.value ∙ c.requires.at.rows) in
    c.row_after.ensures
    ∙ ap₂ (λ (row : List ℕ) (cs : List Places). get_or (rows_from row cs) (c.args.place - c.len-before.result) []) head c.last_changes.ensures
    ∙ row_in p node c.len-before.result c.args.place before c.if-place-before.false
