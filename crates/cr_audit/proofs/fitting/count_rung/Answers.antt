use Rattle.std.proofs.Common.{◌≡◌, ℕ, ◌+◌, ◌<◌, ◌^◌, List, ◌∷◌, ◌++◌, [], length, get_or, take, drop, sym, ap, ap₂, ◌∙◌, arith, rules}
use Rattle.std.proofs.lemmas.List.{take_all, take_more, length-map}
use Rattle.cr_model.specs.Problems.{PatternParts, QueryParts}
use Rattle.cr_model.specs.Queries.{rows_fitting}
use Rattle.cr_model.specs.Right.{pattern_at}
use Rattle.cr_model.specs.Callings.{rows_of}
use Rattle.cr_audit.specs.Paths.{fitting_of, front}
use Rattle.cr_audit.proofs.Fits.{fitting_at, fitting_split, fitting_few}
use Rattle.cr_audit.proofs.fitting.count_rung.Goals as goal

pub loop-index-init : goal.loop-index-init
loop-index-init c = c.in_ok-numbers.ensures.items

pub overflow_add-fitting_before : goal.overflow_add-fitting_before
overflow_add-fitting_before c =
    let p = c.args.problem.now in
    let rows = c.args.path.now.rows.items in
    let index = c.loop-index.index in
    let patterns : c.patterns_of-patterns.result.now ≡ p.query.patterns = c.patterns_of-patterns.ensures ∙ ap (λ (q : QueryParts). q.patterns) c.query.ensures.is in
    let pattern : c.pattern_at-pattern.result.now ≡ pattern_at p.query.patterns index = c.pattern_at-pattern.ensures ∙ ap (λ (ps : List PatternParts). pattern_at ps index) patterns in
    let cells = (pattern_at p.query.patterns index).cells in
    let one : c.fitting_before.result ≡ rows_fitting cells (take c.args.before rows) = c.fitting_before.ensures ∙ ap (rows_fitting cells) (sym c.requires.before) in
    let other : c.fitting_behind-rung.result ≡ rows_fitting cells (drop c.args.before rows) =
    c.fitting_behind-rung.ensures ∙ ap₂ (λ (part : PatternParts) (rs : List (List ℕ)). rows_fitting part.cells (drop c.args.before rs)) pattern c.deref.ensures.value in
    let fits : length rows < 2 ^ 64 = search rules in
    omega (arith, one, other, fitting_split cells rows c.args.before, fitting_few cells rows, fits)

pub loop-index-preserved : goal.loop-index-preserved
loop-index-preserved c =
    let p = c.args.problem.now in
    let node = c.args.path.now.node.items in
    let rows = c.args.path.now.rows.items in
    let index = c.loop-index.index in
    let patterns : c.patterns_of-patterns.result.now ≡ p.query.patterns = c.patterns_of-patterns.ensures ∙ ap (λ (q : QueryParts). q.patterns) c.query.ensures.is in
    let inside : index < length p.query.patterns = omega (arith, ap length patterns, c.loop-index-test.true) in
    let pattern : c.pattern_at-pattern.result.now ≡ pattern_at p.query.patterns index = c.pattern_at-pattern.ensures ∙ ap (λ (ps : List PatternParts). pattern_at ps index) patterns in
    let cells = (pattern_at p.query.patterns index).cells in
    let one : c.fitting_before.result ≡ rows_fitting cells (take c.args.before rows) = c.fitting_before.ensures ∙ ap (rows_fitting cells) (sym c.requires.before) in
    let other : c.fitting_behind-rung.result ≡ rows_fitting cells (drop c.args.before rows) =
    c.fitting_behind-rung.ensures ∙ ap₂ (λ (part : PatternParts) (rs : List (List ℕ)). rows_fitting part.cells (drop c.args.before rs)) pattern c.deref.ensures.value in
    let sum : c.fitting_before.result + c.fitting_behind-rung.result ≡ get_or (fitting_of p node) index 0 =
    omega (arith, one, other, fitting_split cells rows c.args.before, ap (rows_fitting cells) c.requires.rows, fitting_at p node index inside) in
    let long : index < length (fitting_of p node) = omega (arith, inside, length-map p.query.patterns (λ (part : PatternParts). rows_fitting part.cells (rows_of p node))) in
    c.in_ok-push.ensures.items ∙ ap₂ (λ (xs : List ℕ) (x : ℕ). xs ++ x ∷ []) c.loop-index.invariant sum ∙ sym (take_more (fitting_of p node) index 0 long)

pub returns : goal.returns
returns c =
    let p = c.args.problem.now in
    let node = c.args.path.now.node.items in
    let all : length p.query.patterns ≡ c.loop-index.index = search rules in
    c.loop-index.invariant ∙ take_all c.loop-index.index (fitting_of p node) (omega (arith, all, length-map p.query.patterns (λ (pattern : PatternParts). rows_fitting pattern.cells (rows_of p node))))
