use Rattle.std.proofs.Common.{◌≡◌, ◌-◌, ℕ, List, length, take, drop, Ordering, Less, Equal, Greater, nat_cmp, refl, sym, ap, ◌∙◌}
use Rattle.std.specs.Cmp.Lexicographic.{slice_cmp}
use Rattle.std.specs.Ordering.{ordering_then}
use Rattle.std.proofs.lemmas.List.{take_rest}
use Rattle.cr_model.specs.Decided.{rotated}
use Rattle.std.proofs.lemmas.Bool.{false≢true}
use Rattle.cr_path.proofs.Turned.{turned_cmp, greater≢less}
use Rattle.cr_path.proofs.numbers.rotated_patterns.is_turned_less.Goals as goal

pub returns-in-Less : goal.returns-in-Less
returns-in-Less c =
    let calling : List ℕ = c.args.calling.now in
    let rest : ℕ = length calling - c.args.by in
    let first : slice_cmp nat_cmp (drop c.args.by calling) (take rest calling) ≡ Less =
    sym (ap (λ (xs : List ℕ). slice_cmp nat_cmp xs (take rest calling)) (take_rest calling c.args.by)) ∙ sym c.order.ensures ∙ c.in-Less.is in (
      λ _. turned_cmp calling c.args.by rest c.requires refl ∙ ap (λ (o : Ordering). ordering_then o (slice_cmp nat_cmp (take c.args.by calling) (drop rest calling))) first,
      λ _. refl,
    )

pub returns-in-Equal : goal.returns-in-Equal
returns-in-Equal c =
    let calling : List ℕ = c.args.calling.now in
    let rest : ℕ = length calling - c.args.by in
    let first : slice_cmp nat_cmp (drop c.args.by calling) (take rest calling) ≡ Equal =
    sym (ap (λ (xs : List ℕ). slice_cmp nat_cmp xs (take rest calling)) (take_rest calling c.args.by)) ∙ sym c.order.ensures ∙ c.in-Equal.is in
    let whole : slice_cmp nat_cmp (rotated c.args.by calling) calling ≡ slice_cmp nat_cmp (take c.args.by calling) (drop rest calling) =
    turned_cmp calling c.args.by rest c.requires refl ∙ ap (λ (o : Ordering). ordering_then o (slice_cmp nat_cmp (take c.args.by calling) (drop rest calling))) first in
    let back : slice_cmp nat_cmp (take c.args.by calling) (take (length calling - rest) (drop rest calling)) ≡ slice_cmp nat_cmp (take c.args.by calling) (drop rest calling) =
    ap (slice_cmp nat_cmp (take c.args.by calling)) (take_rest calling rest) in (
      λ h. whole ∙ sym back ∙ c.is_less.ensures.0 h,
      λ less. c.is_less.ensures.1 (back ∙ sym whole ∙ less),
    )

pub returns-in-Greater : goal.returns-in-Greater
returns-in-Greater c =
    let calling : List ℕ = c.args.calling.now in
    let rest : ℕ = length calling - c.args.by in
    let first : slice_cmp nat_cmp (drop c.args.by calling) (take rest calling) ≡ Greater =
    sym (ap (λ (xs : List ℕ). slice_cmp nat_cmp xs (take rest calling)) (take_rest calling c.args.by)) ∙ sym c.order.ensures ∙ c.in-Greater.is in
    let whole : slice_cmp nat_cmp (rotated c.args.by calling) calling ≡ Greater =
    turned_cmp calling c.args.by rest c.requires refl ∙ ap (λ (o : Ordering). ordering_then o (slice_cmp nat_cmp (take c.args.by calling) (drop rest calling))) first in (
      λ h. absurd (false≢true h),
      λ less. absurd (greater≢less (sym whole ∙ less)),
    )
