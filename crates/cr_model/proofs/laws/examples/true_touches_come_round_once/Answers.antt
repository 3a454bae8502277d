use Rattle.std.proofs.Common.{◌≡◌, true, not, [], ◌∷◌, refl}
use Rattle.std.specs.List.{list_all}
use Rattle.std.proofs.lemmas.Bool.Decides.{Decides-not}
use Rattle.cr_model.specs.Callings.{TrueTouch}
use Rattle.cr_model.specs.Decided.{is_true_touch}
use Rattle.cr_model.specs.Examples.{pair, exact}
use Rattle.cr_model.proofs.Deciding.{all_decided, is_true_touch_decided}
use Rattle.cr_model.proofs.laws.examples.true_touches_come_round_once.Goals as goal

touches : list_all (is_true_touch (pair exact)) ((0 ∷ 0 ∷ 0 ∷ []) ∷ (1 ∷ []) ∷ []) ≡ true
touches = refl

others : list_all (λ calling. not (is_true_touch (pair exact) calling)) ([] ∷ (0 ∷ []) ∷ (1 ∷ 1 ∷ []) ∷ (0 ∷ 1 ∷ 0 ∷ 0 ∷ []) ∷ []) ≡ true
others = refl

pub returns : goal.returns
returns c = record {
  touches = (all_decided (is_true_touch (pair exact)) (TrueTouch (pair exact)) (is_true_touch_decided (pair exact)) ((0 ∷ 0 ∷ 0 ∷ []) ∷ (1 ∷ []) ∷ [])).0 touches;
  others = (all_decided (λ calling. not (is_true_touch (pair exact) calling)) (λ calling. TrueTouch (pair exact) calling → ⊥)
      (λ calling. Decides-not (is_true_touch (pair exact) calling) (is_true_touch_decided (pair exact) calling)) ([] ∷ (0 ∷ []) ∷ (1 ∷ 1 ∷ []) ∷ (0 ∷ 1 ∷ 0 ∷ 0 ∷ []) ∷ [])).0 others;
}
