use Rattle.std.proofs.Common.{◌≡◌, [], ◌∷◌, All, sym, subst}
use Rattle.std.proofs.lemmas.List.Elements.{All-append, All-cons, All-nil}
use Rattle.cr_explore.specs.Searches.{searched}
use Rattle.cr_node.specs.Work.{Work}
use Rattle.cr_top.proofs.narrow.trials_of.Goals as goal

pub loop-index-preserved : goal.loop-index-preserved
loop-index-preserved c =
    let Same = λ (done : Work). done.problem ≡ searched c.args.search.now in
    let done = c.in_ok-explore.field-0 in
    subst (All Same) (sym c.in_ok-push.ensures.items)
    (All-append Same c.loop-index.trials.items (done ∷ []) c.loop-index.invariant (All-cons Same done [] c.in_ok-explore.ensures.problem (All-nil Same)))
