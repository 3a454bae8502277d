-- A dead node has no kept touch below it.
use Rattle.std.proofs.Common.{◌≡◌, ℕ, Bool, true, false, cond, List, [], ◌∷◌, ◌++◌, All, Some, None, find, refl, sym, ap, ◌∙◌, subst, arith}
use Rattle.std.proofs.lemmas.Bool.{and_parts}
use Rattle.std.proofs.lemmas.List.Elements.{All-nil, All-cons}
use Rattle.cr_row.specs.Rows.{Places, after}
use Rattle.cr_model.specs.declared.reason.Reason.{Reason}
use Rattle.cr_model.specs.declared.reason.Reason.TheVariants as reason
use Rattle.cr_model.specs.Problems.{ProblemParts}
use Rattle.cr_model.specs.Touches.{IsRotation, IsLess}
use Rattle.cr_model.specs.Sound.{IsSound}
use Rattle.cr_model.specs.Dead.{HasNoneBelow, is_turned_back, turn_free, turns_back, holds, reasons, dead, IsFirstReason}
use Rattle.cr_model.proofs.Bells.{RowLaws}
use Rattle.cr_model.proofs.Below.{below}
use Rattle.cr_model.proofs.Cuts.{not_long, not_self_false, not_again, not_round, not_far, not_too_many, not_too_few}
use Rattle.cr_model.proofs.TurnedBack.{turns_back_decided, lesser_rotation, wanted_turned}

-- TurnsBack
pub none_turned_back : RowLaws → (p : ProblemParts) (node : List ℕ) → IsSound p → is_turned_back p node ≡ true → HasNoneBelow p node
none_turned_back laws p node sound h calling kept above =
    let is = below p node calling sound kept above in
    let both = and_parts (turn_free p.query) (turns_back node) h in
    let (other, turned, less) = lesser_rotation node is.more ((turns_back_decided node).0 both.1) in
    let turned' = subst (λ c. IsRotation c other) (sym is.onward) turned in
    kept.least other turned' (wanted_turned laws p calling other both.0 kept.wanted turned') (subst (IsLess other) (sym is.onward) less)

module _ (laws : RowLaws) (twice : (c : Places) (r : List ℕ) → after c (after c r) ≡ r) (p : ProblemParts) (most : ℕ) (node : List ℕ) (sound : IsSound p) where
  -- each reason
  pub none_below : (why : Reason) → holds p most node why ≡ true → HasNoneBelow p node
  none_below reason.Long h calling kept above = not_long p node calling sound (below p node calling sound kept above) h
  none_below reason.SelfFalse h calling kept above = not_self_false p node calling sound (below p node calling sound kept above) laws h
  none_below reason.Again h calling kept above = not_again p node calling sound (below p node calling sound kept above) h
  none_below reason.Home h calling kept above = not_round p node calling sound (below p node calling sound kept above) h
  none_below reason.Far h calling kept above = not_far p node calling sound (below p node calling sound kept above) twice most h
  none_below reason.TooMany h calling kept above = not_too_many p node calling sound (below p node calling sound kept above) h
  none_below reason.TooFew h calling kept above = not_too_few p node calling sound (below p node calling sound kept above) h
  none_below reason.TurnsBack h calling kept above = none_turned_back laws p node sound h calling kept above

-- the first element that passes
record IsFound {X : Type 0} (test : X → Bool) (xs : List X) (x : X) : Type 0 where
  before : List X
  others : List X
  place : xs ≡ before ++ x ∷ others
  none : All (λ y. test y ≡ false) before
  is : test x ≡ true

found_first : {X : Type 0} (test : X → Bool) (xs : List X) (x : X) → find test xs ≡ Some x → IsFound test xs x
found_first test [] x h = absurd (cc)
found_first test (y ∷ xs) x h = by (test y) refl h (found_first test xs x)
  where
    by : (b : Bool) → test y ≡ b → cond b (Some y) (find test xs) ≡ Some x → (find test xs ≡ Some x → IsFound test xs x) → IsFound test (y ∷ xs) x
    by true e h' rest =
        let same : y ≡ x = cc in
        record { before = []; others = xs; place = ap (λ z. z ∷ xs) same; none = All-nil (λ z. test z ≡ false); is = ap test (sym same) ∙ e }
    by false e h' rest =
        let later = rest h' in
        record { before = y ∷ later.before; others = later.others; place = ap (λ l. y ∷ l) later.place; none = All-cons (λ z. test z ≡ false) y later.before e later.none; is = later.is }

none_found : {X : Type 0} (test : X → Bool) (xs : List X) → find test xs ≡ None → All (λ x. test x ≡ false) xs
none_found test [] h = All-nil (λ x. test x ≡ false)
none_found test (x ∷ xs) h = by (test x) refl h (none_found test xs)
  where
    by : (b : Bool) → test x ≡ b → cond b (Some x) (find test xs) ≡ None → (find test xs ≡ None → All (λ y. test y ≡ false) xs) → All (λ y. test y ≡ false) (x ∷ xs)
    by true e h' rest = absurd (cc)
    by false e h' rest = All-cons (λ y. test y ≡ false) x xs e (rest h')

-- the reason of a dead node
pub first_reason : (p : ProblemParts) (most : ℕ) (node : List ℕ) (why : Reason) → dead p most node ≡ Some why → IsFirstReason p most node why
unfolding dead
first_reason p most node why h =
    let found = found_first (holds p most node) reasons why h in
    record { before = found.before; others = found.others; place = found.place; none = found.none; is = found.is }

-- no reason holds of one that is not dead
pub no_reason : (p : ProblemParts) (most : ℕ) (node : List ℕ) → dead p most node ≡ None → (why : Reason) → holds p most node why ≡ false
unfolding dead
no_reason p most node h why = by why (none_found (holds p most node) reasons h)
  where
    by : (why' : Reason) → All (λ x. holds p most node x ≡ false) reasons → holds p most node why' ≡ false
    by reason.Long all = all 0 reason.Long (omega arith)
    by reason.SelfFalse all = all 1 reason.Long (omega arith)
    by reason.Again all = all 2 reason.Long (omega arith)
    by reason.Home all = all 3 reason.Long (omega arith)
    by reason.Far all = all 4 reason.Long (omega arith)
    by reason.TooMany all = all 5 reason.Long (omega arith)
    by reason.TooFew all = all 6 reason.Long (omega arith)
    by reason.TurnsBack all = all 7 reason.Long (omega arith)
