use Rattle.std.proofs.Common.{[], ◌∷◌, length, length-append, refl, ap, sym, true≢false, arith}
use Rattle.cr_lanes.specs.Lane.{IsSuffix}
use Rattle.cr_lanes.proofs.laws.rules_by_example.Goals as goal

not_last : IsSuffix (1 ∷ []) (1 ∷ 2 ∷ []) → ⊥
not_last ([], is) = cc
not_last (x ∷ [], is) = cc
not_last (x ∷ y ∷ front, is) = absurd (omega (arith, ap length is, length-append front (1 ∷ [])))

pub returns : goal.returns
returns c = record {
  out = record {
    is_end = refl;
    ascends = search arith;
    left = (1 ∷ 2 ∷ [], refl);
    each = (record { no_end = refl; spent = λ back. absurd (true≢false back); ascends = search arith; below = search arith; most = λ n put. (put.0, (put.1.0, tt)) }, tt);
    counted = λ x. omega arith;
    lent = refl;
  };
  back = record {
    is_end = refl;
    ascends = search arith;
    left = (1 ∷ 2 ∷ [], refl);
    each = (record { no_end = refl; spent = λ _. refl; ascends = tt; below = tt; most = λ n put. tt }, tt);
    counted = λ x. omega arith;
    lent = refl;
  };
  lost = λ h. absurd (omega (arith, h.counted 3));
  twice = λ h. absurd (omega (arith, h.counted 3));
  turned = λ h. absurd (omega (arith, h.each.0.ascends.0.0));
  none_out = λ h. absurd (omega (arith, h.lent));
  two_out = λ h. absurd (omega (arith, h.lent));
  back_with_a_list = λ h. (let none = h.each.0.spent refl in cc);
  falls = λ h. absurd (omega (arith, h.ascends.0.0));
  from_behind = λ h. not_last h.left;
  no_end = λ h. h;
  thief_alone = λ h. absurd (true≢false (sym h.is_end));
  two_ends = λ h. absurd (true≢false h.each.0.no_end);
}
