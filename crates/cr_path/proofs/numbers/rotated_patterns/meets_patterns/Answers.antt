use Rattle.std.proofs.Common.{◌≡◌, ◌<◌, ℕ, List, [], length, get_or, All, refl, sym, ap, ◌∙◌, subst, arith}
use Rattle.std.proofs.lemmas.Bool.{false≢true}
use Rattle.std.proofs.lemmas.List.{take_all, length-map, get_or-map}
use Rattle.std.proofs.lemmas.List.Elements.{All-more, All-get_or}
use Rattle.cr_model.specs.Problems.{PatternParts, QueryParts}
use Rattle.cr_model.specs.Callings.{rows_of}
use Rattle.cr_model.specs.Decided.{rotated}
use Rattle.cr_model.specs.Queries.{IsWithin, rows_fitting}
use Rattle.cr_path.specs.Numbers.{all_fitting}
use Rattle.cr_path.proofs.numbers.rotated_patterns.meets_patterns.Goals as goal

pub fitting-fitting-requires : goal.fitting-fitting-requires
fitting-fitting-requires c =
    let p = c.args.problem.now in
    let same : c.patterns_of-patterns.result.now ≡ p.query.patterns = c.patterns_of-patterns.ensures ∙ ap (λ (q : QueryParts). q.patterns) c.query.ensures.is in
    omega (arith, c.loop-index-test.true, ap length same, ap length c.requires.numbered.fitting, length-map p.query.patterns (all_fitting p c.args.numbers.now.heads))

pub meets_pattern-requires-clause-fitting : goal.meets_pattern-requires-clause-fitting
meets_pattern-requires-clause-fitting c =
    let p = c.args.problem.now in
    let heads = c.args.numbers.now.heads in
    let index : ℕ = c.loop-index.index in
    let same : c.patterns_of-patterns.result.now ≡ p.query.patterns = c.patterns_of-patterns.ensures ∙ ap (λ (q : QueryParts). q.patterns) c.query.ensures.is in
    let inside : index < length p.query.patterns = omega (arith, c.loop-index-test.true, ap length same) in
    let at : c.index-patterns-index.result ≡ get_or p.query.patterns index c.index-patterns-index.result =
    c.index-patterns-index.is ∙ ap (λ (xs : List PatternParts). get_or xs index c.index-patterns-index.result) same in
    c.fitting-fitting.ensures
    ∙ ap (λ (xs : List (List ℕ)). get_or xs index []) c.requires.numbered.fitting
    ∙ get_or-map (all_fitting p heads) p.query.patterns index c.index-patterns-index.result [] inside
    ∙ ap (all_fitting p heads) (sym at)

pub loop-index-preserved : goal.loop-index-preserved
loop-index-preserved c =
    let p = c.args.problem.now in
    let index : ℕ = c.loop-index.index in
    let same : c.patterns_of-patterns.result.now ≡ p.query.patterns = c.patterns_of-patterns.ensures ∙ ap (λ (q : QueryParts). q.patterns) c.query.ensures.is in
    let inside : index < length p.query.patterns = omega (arith, c.loop-index-test.true, ap length same) in
    let at : c.index-patterns-index.result ≡ get_or p.query.patterns index c.index-patterns-index.result =
    c.index-patterns-index.is ∙ ap (λ (xs : List PatternParts). get_or xs index c.index-patterns-index.result) same in
    All-more (λ (pattern : PatternParts). IsWithin pattern.min pattern.max (rows_fitting pattern.cells (rows_of p (rotated c.args.by c.args.calling.now)))) p.query.patterns index c.index-patterns-index.result inside c.loop-index.invariant
    (subst (λ (pattern : PatternParts). IsWithin pattern.min pattern.max (rows_fitting pattern.cells (rows_of p (rotated c.args.by c.args.calling.now)))) at (c.meets_pattern.ensures.0 c.if-not-meets_pattern.false))

pub returns-then-not-meets_pattern : goal.returns-then-not-meets_pattern
returns-then-not-meets_pattern c =
    let p = c.args.problem.now in
    let index : ℕ = c.loop-index.index in
    let same : c.patterns_of-patterns.result.now ≡ p.query.patterns = c.patterns_of-patterns.ensures ∙ ap (λ (q : QueryParts). q.patterns) c.query.ensures.is in
    let inside : index < length p.query.patterns = omega (arith, c.loop-index-test.true, ap length same) in
    let at : c.index-patterns-index.result ≡ get_or p.query.patterns index c.index-patterns-index.result =
    c.index-patterns-index.is ∙ ap (λ (xs : List PatternParts). get_or xs index c.index-patterns-index.result) same in (
      λ h. absurd (false≢true h),
      λ all. absurd (false≢true (sym c.if-not-meets_pattern.true ∙ c.meets_pattern.ensures.1
          (subst (λ (pattern : PatternParts). IsWithin pattern.min pattern.max (rows_fitting pattern.cells (rows_of p (rotated c.args.by c.args.calling.now)))) (sym at)
          (All-get_or (λ (pattern : PatternParts). IsWithin pattern.min pattern.max (rows_fitting pattern.cells (rows_of p (rotated c.args.by c.args.calling.now)))) p.query.patterns index c.index-patterns-index.result inside all)))),
    )

pub returns : goal.returns
returns c =
    let p = c.args.problem.now in
    let same : c.patterns_of-patterns.result.now ≡ p.query.patterns = c.patterns_of-patterns.ensures ∙ ap (λ (q : QueryParts). q.patterns) c.query.ensures.is in (
      λ _. subst (All (λ (pattern : PatternParts). IsWithin pattern.min pattern.max (rows_fitting pattern.cells (rows_of p (rotated c.args.by c.args.calling.now)))))
          (take_all c.loop-index.index p.query.patterns (omega (arith, c.loop-index-test.false, ap length same))) c.loop-index.invariant,
      λ _. refl,
    )
