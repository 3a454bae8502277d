use Rattle.std.proofs.Common.{◌≡◌, [], map, ap, ap₂, ◌∙◌, sym, subst}
use Rattle.cr_model.specs.Problems.{ProblemParts, QueryParts}
use Rattle.cr_model.specs.Sound.{IsSound}
use Rattle.cr_query.specs.Hits.{AreHits}
use Rattle.cr_query.specs.Meters.{fitting_of, kinds_of, HasNumbers, AreCounted, HaveFittings}
use Rattle.cr_query.proofs.Metering.{none_fitting, kept}
use Rattle.cr_query.proofs.meter.Meter.new.Goals as goal

pub invariant_of-result : goal.invariant_of-result
invariant_of-result c =
    let p = c.in_ok-problem.problem in
    let same : p ≡ c.args.problem.now = c.in_ok-problem.ensures in
    let sound : IsSound p = subst IsSound (sym same) c.query.ensures.sound in
    let counted : AreCounted p [] c.in_ok-leads.leads = subst (λ q. AreCounted q [] c.in_ok-leads.leads) (sym same) c.in_ok-leads.ensures.is in
    let query : c.query.result.now ≡ p.query = c.query.ensures.is ∙ ap (λ (q : ProblemParts). q.query) (sym same) in
    let patterns : HaveFittings p [] c.in_ok-patterns.patterns.items =
    none_fitting p c.in_ok-patterns.patterns.items (c.in_ok-patterns.ensures ∙ ap₂ (λ stage list. map (fitting_of stage 0) list) (c.stage.ensures.is ∙ ap (λ (q : ProblemParts). q.stage) (sym same)) (c.patterns_of.ensures ∙ ap (λ (q : QueryParts). q.patterns) query)) in
    let all = kept p [] c.in_ok-leads.leads c.in_ok-patterns.patterns.items sound counted patterns in (
      record {
        sound = sound;
        steps = c.in_ok-kinds.ensures ∙ ap kinds_of (sym same);
        found = subst (λ q. HasNumbers q c.numbers_of-numbers.result) (sym same) c.numbers_of-numbers.ensures.is;
        table = c.in_ok-rooms.ensures;
      },
      all.0,
      all.1,
      c.numbers_of-numbers.ensures.small,
      all.2,
      all.3,
      c.in_ok-leads.ensures.room,
      subst (λ q. AreHits q c.in_ok-hits.hits) (sym same) c.in_ok-hits.ensures,
    )
