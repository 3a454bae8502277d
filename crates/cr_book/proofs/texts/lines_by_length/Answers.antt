-- One slice more.
use Rattle.std.proofs.Common.{◌≡◌, ◌+◌, ◌-◌, ◌<◌, ◌++◌, [], length, get_or, drop, inl, inr, sym, ap, ap₂, ◌∙◌, subst, arith}
use Rattle.std.proofs.lemmas.Bool.{cases_lt}
use Rattle.cr_book.specs.declared.part.Part.{Part}
use Rattle.cr_book.specs.Lines.{texts_in, lines_as_long}
use Rattle.cr_book.specs.Slices.{part_of, parts_of, GoesOn}
use Rattle.cr_book.proofs.Lines.{lines_more}
use Rattle.cr_book.proofs.Parts.{part_long, at_place}
use Rattle.cr_book.proofs.texts.lines_by_length.Goals as goal

pub loop-index-preserved : goal.loop-index-preserved
loop-index-preserved c =
    let p = c.args.problem.now in
    let found = c.args.found.now in
    let slices = c.args.slices.now in
    let group = c.args.group in
    let index = c.loop-index.index in
    let none : Part = record { start = 0; end = 0 } in
    let inside : index - group.start < length (part_of slices group) = omega (arith, c.loop-index.invariant.begun, c.loop-index-test.true, part_long slices group c.requires.inside) in
    let back : group.start + (index - group.start) ≡ index = omega (arith, c.loop-index.invariant.begun) in
    let here : get_or (part_of slices group) (index - group.start) none ≡ get_or slices index none =
    at_place slices group (index - group.start) none (omega (arith, c.loop-index.invariant.begun, c.loop-index-test.true)) ∙ ap (λ i. get_or slices i none) back in
    let next : index - group.start + 1 ≡ index + 1 - group.start = omega (arith, c.loop-index.invariant.begun) in
    record {
      begun = omega (arith, c.loop-index.invariant.begun);
      inside = omega (arith, c.loop-index-test.true);
      lines = λ long.
          subst (λ n. get_or (texts_in c.write_touches.new.texts.items) long [] ++ lines_as_long p long (parts_of found (drop n (part_of slices group))) ≡ lines_as_long p long (parts_of found (part_of slices group))) next
          (lines_more p found (part_of slices group) (index - group.start) long none _ _ inside
          (c.in_ok-write_touches.ensures long ∙ ap₂ (λ q touches. get_or (texts_in c.loop-index.texts.items) long [] ++ lines_as_long q long touches) c.of-leads.ensures
          (c.touches_in.ensures ∙ ap (part_of found) (sym here)))
          (c.loop-index.invariant.lines long));
      goes = λ k low high. elim (cases_lt k index) [
        | inl before ↦ c.loop-index.invariant.goes k low before
        | inr after ↦
            let same : index ≡ k = omega (arith, after, high) in
            subst (GoesOn found slices) same (c.goes_on.ensures.0 c.if-not-goes_on.false)
      ];
    }
