use Rattle.std.proofs.Common.{◌≡◌, ◌-◌, ◌≤◌, Less, Equal, Greater, nat_cmp, length, take, drop, refl, sym, ap, ◌∙◌, arith}
use Rattle.std.specs.Cmp.Lexicographic.{slice_cmp}
use Rattle.std.specs.Ordering.{ordering_then}
use Rattle.std.proofs.lemmas.Bool.{false≢true}
use Rattle.std.proofs.lemmas.List.{take_rest}
use Rattle.cr_model.specs.Decided.{rotated}
use Rattle.cr_audit.proofs.Kept.{turned_cmp}
use Rattle.cr_audit.proofs.keeping.is_less_turned.Goals as goal

pub returns-in-Less : goal.returns-in-Less
returns-in-Less c =
    let steps = c.args.steps.now in
    let by = c.args.by in
    let behind = length steps - by in
    let whole = turned_cmp steps by behind c.requires refl in
    let first : slice_cmp nat_cmp (drop by steps) (take behind steps) ≡ Less = ap (λ l. slice_cmp nat_cmp l (take behind steps)) (sym (take_rest steps by)) ∙ sym c.cmp.ensures ∙ c.in-Less.is in
    (λ _. whole ∙ ap (λ o. ordering_then o (slice_cmp nat_cmp (take by steps) (drop behind steps))) first, λ _. refl)

pub returns-in-Equal : goal.returns-in-Equal
returns-in-Equal c =
    let steps = c.args.steps.now in
    let by = c.args.by in
    let behind = length steps - by in
    let whole = turned_cmp steps by behind c.requires refl in
    let first : slice_cmp nat_cmp (drop by steps) (take behind steps) ≡ Equal = ap (λ l. slice_cmp nat_cmp l (take behind steps)) (sym (take_rest steps by)) ∙ sym c.cmp.ensures ∙ c.in-Equal.is in
    let same : slice_cmp nat_cmp (rotated by steps) steps ≡ slice_cmp nat_cmp (take by steps) (drop behind steps) =
    whole ∙ ap (λ o. ordering_then o (slice_cmp nat_cmp (take by steps) (drop behind steps))) first in
    let back = take_rest steps behind in (
      λ yes'. same ∙ ap (slice_cmp nat_cmp (take by steps)) (sym back) ∙ c.is_less.ensures.0 yes',
      λ less. c.is_less.ensures.1 (ap (slice_cmp nat_cmp (take by steps)) back ∙ sym same ∙ less),
    )

pub returns-in-Greater : goal.returns-in-Greater
returns-in-Greater c =
    let steps = c.args.steps.now in
    let by = c.args.by in
    let behind = length steps - by in
    let whole = turned_cmp steps by behind c.requires refl in
    let first : slice_cmp nat_cmp (drop by steps) (take behind steps) ≡ Greater = ap (λ l. slice_cmp nat_cmp l (take behind steps)) (sym (take_rest steps by)) ∙ sym c.cmp.ensures ∙ c.in-Greater.is in
    let same : slice_cmp nat_cmp (rotated by steps) steps ≡ Greater = whole ∙ ap (λ o. ordering_then o (slice_cmp nat_cmp (take by steps) (drop behind steps))) first in (
      λ h. absurd (false≢true h),
      λ less. let never : Less ≡ Greater = sym less ∙ same in absurd (cc),
    )
