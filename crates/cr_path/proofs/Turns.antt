-- Which children of a node turn back.
use Rattle.std.proofs.Common.{◌≡◌, ℕ, true, false, ◌&&◌, List, ap, ap₂}
use Rattle.std.proofs.lemmas.Bool.{and_parts, false_from_ne_true}
use Rattle.cr_model.specs.Problems.{ProblemParts}
use Rattle.cr_model.specs.Dead.{is_turned_back, turn_free, turns_back}
use Rattle.cr_model.specs.LeastRotations.{TurnsBack}
use Rattle.cr_model.proofs.TurnedBack.{turns_back_decided}

-- where the query is the same for all rotations, those whose word does
module _ (p : ProblemParts) (word : List ℕ) (free : turn_free p.query ≡ true) where
  pub is_turned : TurnsBack word → is_turned_back p word ≡ true
  is_turned turned = ap₂ (λ a b. a && b) free ((turns_back_decided word).1 turned)

  pub is_straight : (TurnsBack word → ⊥) → is_turned_back p word ≡ false
  is_straight straight = false_from_ne_true (is_turned_back p word) (λ turned. straight ((turns_back_decided word).0 (and_parts (turn_free p.query) (turns_back word) turned).1))

-- and else none
pub never_turned : (p : ProblemParts) (word : List ℕ) → turn_free p.query ≡ false → is_turned_back p word ≡ false
never_turned p word other = ap (λ b. b && turns_back word) other
