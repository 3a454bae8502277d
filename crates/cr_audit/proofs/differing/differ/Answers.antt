use Rattle.std.proofs.Common.{◌≡◌, ◌+◌, ◌<◌, [], ◌∷◌, ◌++◌, length, get_or, take, sym, ap, ◌∙◌, subst, arith, refl}
use Rattle.std.proofs.lemmas.Bool.{false≢true, iff_false}
use Rattle.std.proofs.lemmas.List.{length-set, take_all, take_more, get_or_default}
use Rattle.cr_model.specs.Callings.{AllDiffer}
use Rattle.cr_audit.specs.Marks.{AreMarked, bucket}
use Rattle.cr_audit.proofs.Marked.{marked_on, differ_on, again}
use Rattle.cr_audit.proofs.differing.differ.Goals as goal

pub returns-then-comes_again-clause-differ : goal.returns-then-comes_again-clause-differ
returns-then-comes_again-clause-differ c = (
  λ h. absurd (false≢true h),
  λ differ. absurd (again c.args.rows.now c.loop-place.place (omega arith) (c.comes_again.ensures.0 c.if-comes_again.true) differ),
)

pub loop-place-preserved : goal.loop-place-preserved
loop-place-preserved c =
    let rows = c.args.rows.now in
    let place = c.loop-place.place in
    let at = c.loop-place.at in
    let here = c.bucket_of.result in
    let kept = c.loop-place.invariant in
    let row : c.index-rows-place.result ≡ get_or rows place [] = c.index-rows-place.is ∙ get_or_default rows place c.index-rows-place.result [] c.loop-place-test.true in
    let inside : here < length at = omega (arith, c.bucket_of.ensures.within, kept.same) in
    let more : take (place + 1) rows ≡ take place rows ++ get_or rows place [] ∷ [] = take_more rows place [] c.loop-place-test.true in
    record {
      same = length-set at here c.args.mark ∙ kept.same;
      marked = subst (AreMarked _ c.args.mark) (sym more) (marked_on at c.args.mark here (take place rows) (get_or rows place []) inside (c.bucket_of.ensures.is ∙ ap bucket row) kept.marked);
      differ = subst AllDiffer (sym more) (differ_on (take place rows) (get_or rows place []) kept.differ (iff_false c.comes_again.ensures c.if-comes_again.false));
    }

pub returns-clause-differ : goal.returns-clause-differ
returns-clause-differ c = (
  λ _. subst AllDiffer (take_all c.loop-place.place c.args.rows.now (omega arith)) c.loop-place.invariant.differ,
  λ _. refl,
)
