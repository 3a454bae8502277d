use Rattle.std.proofs.Common.{ℕ, zero, suc, ◌≤◌, [], ◌∷◌, Contains, length, length-append, refl, ap, arith}
use Rattle.std.proofs.lemmas.List.Elements.{All-from_recursion}
use Rattle.cr_lanes.specs.Lane.{IsSuffix}
use Rattle.cr_lanes.proofs.laws.lists_by_example.Goals as goal

not_last : IsSuffix (1 ∷ []) (1 ∷ 3 ∷ []) → ⊥
not_last ([], is) = cc
not_last (x ∷ [], is) = cc
not_last (x ∷ y ∷ front, is) = absurd (omega (arith, ap length is, length-append front (1 ∷ [])))

no_four : Contains {X = ℕ} (1 ∷ 3 ∷ []) 4 → ⊥
no_four (zero, inside, at) = absurd (omega (arith, at))
no_four (suc zero, inside, at) = absurd (omega (arith, at))
no_four (suc (suc k), inside, at) = absurd (omega (arith, inside))

pub returns : goal.returns
returns c = record {
  times = refl;
  untaken = refl;
  ascends = search arith;
  stands = λ up. absurd (omega (arith, up.1.0.0));
  falls = λ up. absurd (omega (arith, up.0.1.0));
  last = ((1 ∷ [], refl), (1 ∷ 3 ∷ [], refl), ([], refl));
  not_last = not_last;
  greatest = record { member = (1, omega arith, refl); most = All-from_recursion (λ y. y ≤ 3) (1 ∷ 3 ∷ []) (omega arith, (omega arith, tt)) };
  less = λ h. absurd (omega (arith, h.most 1 0 (omega arith)));
  absent = λ h. no_four h.member;
}
