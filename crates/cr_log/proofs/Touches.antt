-- The touch of a node, and where it is not found.
use Rattle.std.proofs.Common.{◌≡◌, ◌↔◌, ℕ, zero, suc, ◌+◌, ◌<◌, Bool, true, false, cond, List, [], ◌∷◌, ◌++◌, length, sym, ap, ◌∙◌, append-nil}
use Rattle.std.specs.Prelude.{IsTrue, flat_map}
use Rattle.std.specs.List.{range_with_len}
use Rattle.std.proofs.lemmas.Bool.{true≢false, false_from_ne_true}
use Rattle.std.proofs.lemmas.List.Elements.{All-nil, All-append}
use Rattle.cr_model.specs.Problems.{ProblemParts}
use Rattle.cr_model.specs.Callings.{HasSteps}
use Rattle.cr_model.specs.Decided.{is_kept}
use Rattle.cr_model.specs.Dead.{parts_of}
use Rattle.cr_model.specs.OneTurn.{touch_of, touch_found}
use Rattle.cr_model.specs.Touches.{Kept}

-- so many words have the steps of one
words_have_steps : (p : ProblemParts) (a number : ℕ) (word : List ℕ) → HasSteps p word → HasSteps p (flat_map (λ _. word) (range_with_len a number))
words_have_steps p a zero word steps = All-nil (λ step. step < length p.leads)
words_have_steps p a (suc number) word steps =
    All-append (λ step. step < length p.leads) word (flat_map (λ _. word) (range_with_len (a + 1) number)) steps (words_have_steps p (a + 1) number word steps)

pub touch_has_steps : (p : ProblemParts) (node : List ℕ) → HasSteps p node → HasSteps p (touch_of p node)
touch_has_steps p node steps = words_have_steps p 0 (parts_of p) node steps

-- a touch that is not kept is not found
pub not_found : (p : ProblemParts) (node : List ℕ) (found : List (List ℕ)) → ((calling : List ℕ) → (is_kept p calling ≡ true) ↔ Kept p calling)
    → (Kept p (touch_of p node) → ⊥) → found ≡ found ++ touch_found p node
not_found p node found decided never =
    let fails : is_kept p (touch_of p node) ≡ false = false_from_ne_true (is_kept p (touch_of p node)) (λ h. never ((decided (touch_of p node)).0 h)) in
    sym (ap (λ (b : Bool). found ++ cond b (touch_of p node ∷ []) []) fails ∙ append-nil found)

-- what is told to be false is not true
pub not_round : (b : Bool) → b ≡ false → IsTrue b → ⊥
not_round b fails holds = true≢false (sym holds ∙ fails)
