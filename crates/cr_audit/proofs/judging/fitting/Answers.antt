use Rattle.std.proofs.Common.{◌≡◌, ℕ, ◌+◌, List, ◌++◌, length, ap, ap₂, sym, ◌∙◌, arith}
use Rattle.cr_row.specs.Rows.{Places, rounds}
use Rattle.cr_model.specs.Callings.{last_of, rows_from, rows_of, head_of, changes_of_all}
use Rattle.cr_model.specs.Problems.{PatternParts, QueryParts}
use Rattle.cr_model.specs.Queries.{rows_fitting}
use Rattle.cr_model.specs.Right.{pattern_at}
use Rattle.cr_audit.specs.Paths.{front, last_lead}
use Rattle.cr_audit.proofs.Fits.{fitting_joined}
use Rattle.cr_audit.proofs.Paths.{changes_fit, last_known, head_long, whole_rows}
use Rattle.cr_audit.proofs.judging.fitting.Goals as goal

pub fitting_rung-rung-requires : goal.fitting_rung-rung-requires
fitting_rung-rung-requires c =
    let p = c.args.problem.now in
    let node = c.args.path.now.node.items in
    changes_fit p c.stage.ensures.sound (last_lead node) c.last_changes.result.now (length c.last_row-head.result) (last_known p node c.requires.at.known) c.last_changes.ensures
    (ap length c.last_row-head.ensures ∙ ap₂ (λ (n : ℕ) (rows : List (List ℕ)). length (last_of (rounds n) rows)) c.stage.ensures.is c.deref.ensures.value
    ∙ head_long c.change_of_a_row.ensures.same_length c.rounds_is_neutral.ensures.length p (front node) c.args.path.now.rows.items c.requires.at.rows)

pub returns-clause-is : goal.returns-clause-is
returns-clause-is c =
    let p = c.args.problem.now in
    let node = c.args.path.now.node.items in
    let patterns : c.patterns_of.result.now ≡ p.query.patterns = c.patterns_of.ensures ∙ ap (λ (q : QueryParts). q.patterns) c.query.ensures.is in
    let pattern : c.pattern_at-pattern.result.now ≡ pattern_at p.query.patterns c.args.index = c.pattern_at-pattern.ensures ∙ ap (λ (ps : List PatternParts). pattern_at ps c.args.index) patterns in
    let cells = (pattern_at p.query.patterns c.args.index).cells in
    let head : c.last_row-head.result ≡ head_of p (front node) =
    c.last_row-head.ensures ∙ ap₂ (λ (n : ℕ) (rows : List (List ℕ)). last_of (rounds n) rows) c.stage.ensures.is (c.deref.ensures.value ∙ c.requires.at.rows) in
    let more = rows_from (head_of p (front node)) (changes_of_all p (last_lead node)) in
    let rung : c.fitting_rung-rung.result ≡ rows_fitting cells more =
    c.fitting_rung-rung.ensures
    ∙ ap (λ (part : PatternParts). rows_fitting part.cells (rows_from c.last_row-head.result c.last_changes.result.now)) pattern
    ∙ ap₂ (λ (row : List ℕ) (cs : List Places). rows_fitting cells (rows_from row cs)) head c.last_changes.ensures in
    omega (arith, c.from.ensures, c.from-2.ensures, rung, c.fitting_before.ensures, fitting_joined cells (rows_of p (front node)) more, ap (rows_fitting cells) (whole_rows p node))
