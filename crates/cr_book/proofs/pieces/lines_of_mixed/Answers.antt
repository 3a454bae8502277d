-- The touches were sorted by steps first.
use Rattle.std.proofs.Common.{sym, subst, All}
use Rattle.std.specs.Prelude.{IfSome}
use Rattle.std.proofs.lemmas.List.Sorted.{All-permutation}
use Rattle.cr_model.specs.Callings.{HasSteps}
use Rattle.cr_book.specs.Pieces.{pieces_joined, AreLinesOfFound}
use Rattle.cr_book.proofs.Lines.{found_moved}
use Rattle.cr_book.proofs.pieces.lines_of_mixed.Goals as goal

pub lines_of-requires-clause-known : goal.lines_of-requires-clause-known
lines_of-requires-clause-known g c κs lives =
    subst (All (HasSteps c.args.problem.now)) (sym c.deref-2.ensures.value) (All-permutation (HasSteps c.args.problem.now) _ _ c.in_ok-found.ensures.same c.requires.known)

pub returns-clause-lines : goal.returns-clause-lines
returns-clause-lines g c =
    let p = c.args.problem.now in
    let found = c.in_ok-found.found.items in
    found_moved p c.args.found.items found _ c.in_ok-found.ensures.same
    (subst (λ f. AreLinesOfFound p f (pieces_joined c.in-Some.pieces.items)) c.deref-2.ensures.value
    (subst (λ made. IfSome made (λ pieces. AreLinesOfFound p c.deref-2.result.now (pieces_joined pieces.items))) c.in-Some.is c.in_ok-pieces.ensures.lines))
