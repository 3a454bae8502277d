-- First reasons, and those that need no row.
use Rattle.std.proofs.Common.{◌≡◌, ◌⊎◌, ◌↔◌, ℕ, Bool, true, false, cond, ◌&&◌, ◌||◌, List, [], ◌∷◌, ◌++◌, find, Option, Some, None, is_some, refl, sym, ap, ap₂, ◌∙◌, inl, inr}
use Rattle.std.specs.Prelude.{IfSome}
use Rattle.std.specs.Bool.{Decides}
use Rattle.std.proofs.lemmas.Bool.{false_from_ne_true, false≢true, or_parts}
use Rattle.std.proofs.lemmas.Bool.Decides.{same_from_decides}
use Rattle.cr_model.specs.LeastRotations.{TurnsBack}
use Rattle.cr_model.proofs.TurnedBack.{turns_back_decided}
use Rattle.cr_model.specs.declared.reason.Reason.{Reason}
use Rattle.cr_model.specs.declared.reason.Reason.TheVariants as reason
use Rattle.cr_model.specs.Problems.{ProblemParts}
use Rattle.cr_model.specs.Sound.{IsSound}
use Rattle.cr_model.specs.Dead.{HasNoneBelow, is_long, is_self_false, is_again, is_round, is_far, is_too_many, is_too_few, turns_back, turn_free, is_turned_back, holds, dead}
use Rattle.cr_query.specs.declared.meter.Hopeless.{Hopeless}
use Rattle.cr_query.specs.declared.meter.Hopeless.TheVariants.{TooMany, TooFew}
use Rattle.cr_query.specs.Meters.{is_hopeless_by_leads}
use Rattle.cr_prune.specs.Pruners.{dies_unrung}

-- what is found first in a list is found first in a longer one
find_first : {X : Type 0} (test : X → Bool) (xs ys : List X) (x : X) → Some x ≡ find test xs → Some x ≡ find test (xs ++ ys)
find_first test [] ys x found = absurd (cc)
find_first test (y ∷ xs) ys x found = by (test y) found (find_first test xs ys x)
  where
    by : (b : Bool) → Some x ≡ cond b (Some y) (find test xs) → (Some x ≡ find test xs → Some x ≡ find test (xs ++ ys)) → Some x ≡ cond b (Some y) (find test (xs ++ ys))
    by true found' rest = found'
    by false found' rest = rest found'

-- where nothing is found, what comes after it tells
find_then : {X : Type 0} (test : X → Bool) (xs ys : List X) → None ≡ find test xs → find test ys ≡ find test (xs ++ ys)
find_then test [] ys none = refl
find_then test (y ∷ xs) ys none = by (test y) none (find_then test xs ys)
  where
    by : (b : Bool) → None ≡ cond b (Some y) (find test xs) → (None ≡ find test xs → find test ys ≡ find test (xs ++ ys)) → find test ys ≡ cond b (Some y) (find test (xs ++ ys))
    by true none' rest = absurd (cc)
    by false none' rest = rest none'

-- the reasons that the rows tell, and the others
abbrev pub by_rows : List Reason
by_rows = reason.Long ∷ reason.SelfFalse ∷ reason.Again ∷ reason.Home ∷ []

abbrev pub by_query : List Reason
by_query = reason.Far ∷ reason.TooMany ∷ reason.TooFew ∷ reason.TurnsBack ∷ []

-- the first reason, told by the test of each
abbrev first_of : Bool → Bool → Bool → Bool → Bool → Bool → Bool → Bool → Option Reason
first_of long self_false again round far many few turned =
    cond long (Some reason.Long) (cond self_false (Some reason.SelfFalse) (cond again (Some reason.Again) (cond round (Some reason.Home)
    (cond far (Some reason.Far) (cond many (Some reason.TooMany) (cond few (Some reason.TooFew) (cond turned (Some reason.TurnsBack) None)))))))

rest_tells : (again round many few : Bool) → ((again || round) || (many || few)) ≡ is_some (first_of false false again round false many few false)
rest_tells true round many few = refl
rest_tells false true many few = refl
rest_tells false false true few = refl
rest_tells false false false true = refl
rest_tells false false false false = refl

module _ (p : ProblemParts) (most : ℕ) (node : List ℕ) where
  pub dead_by_rows : (why : Reason) → Some why ≡ find (holds p most node) by_rows → Some why ≡ dead p most node
  unfolding dead
  dead_by_rows why found = find_first (holds p most node) by_rows by_query why found

  pub dead_by_query : (why : Option Reason) → None ≡ find (holds p most node) by_rows → why ≡ find (holds p most node) by_query → why ≡ dead p most node
  unfolding dead
  dead_by_query why none found = found ∙ find_then (holds p most node) by_rows by_query none

  -- where there is a reason, nothing is kept
  pub none_below : ((q : ProblemParts) (n : ℕ) (word : List ℕ) (why : Reason) → IsSound q → dead q n word ≡ Some why → HasNoneBelow q word) →
      IsSound p → (why : Option Reason) → why ≡ dead p most node → IfSome why (λ _. HasNoneBelow p node)
  none_below law sound None is = tt
  none_below law sound (Some why) is = law p most node why sound (sym is)

  -- a node that dies unrung has a reason
  pub lives_unrung : ((why : Reason) → holds p most node why ≡ false) → (is_hopeless_by_leads p node ≡ true → (is_too_many p node ≡ true) ⊎ (is_too_few p node ≡ true)) → dies_unrung p most node ≡ false
  lives_unrung none hopeless =
      let leads : is_hopeless_by_leads p node ≡ false = false_from_ne_true (is_hopeless_by_leads p node) (λ yes. elim (hopeless yes) [
        | inl many ↦ false≢true (sym (none reason.TooMany) ∙ many)
        | inr few ↦ false≢true (sym (none reason.TooFew) ∙ few)
      ]) in
      ap₂ (λ a b. a || b) (none reason.Long)
      (ap₂ (λ a b. a || b) (none reason.SelfFalse)
      (ap₂ (λ a b. a || b) leads
      (ap₂ (λ a b. a || b) (none reason.TurnsBack) (none reason.Far))))

  -- where it does not die unrung, the rows and the patterns tell whether it is dead
  pub dead_by_rest : (rows hopeless : Bool) → dies_unrung p most node ≡ false → rows ≡ (is_again p node || is_round p node) → hopeless ≡ (is_too_many p node || is_too_few p node)
      → (rows || hopeless) ≡ is_some (dead p most node)
  unfolding dead
  dead_by_rest rows hopeless lives by_rows by_counts =
      let (long, rest) = or_parts (is_long p node) (is_self_false p node || (is_hopeless_by_leads p node || (is_turned_back p node || is_far p most node))) lives in
      let (self_false, second) = or_parts (is_self_false p node) (is_hopeless_by_leads p node || (is_turned_back p node || is_far p most node)) rest in
      let (leads, third) = or_parts (is_hopeless_by_leads p node) (is_turned_back p node || is_far p most node) second in
      let (turned, far) = or_parts (is_turned_back p node) (is_far p most node) third in
      ap₂ (λ a b. a || b) by_rows by_counts
      ∙ rest_tells (is_again p node) (is_round p node) (is_too_many p node) (is_too_few p node)
      ∙ (λ i. is_some (first_of (sym long i) (sym self_false i) (is_again p node) (is_round p node) (sym far i) (is_too_many p node) (is_too_few p node) (sym turned i)))

-- a hopeless node, told by its reason
pub hopeless_told : (why : Option Hopeless) (many few : Bool) → (why ≡ Some TooMany) ↔ (many ≡ true) → (why ≡ Some TooFew) ↔ ((many ≡ false) × (few ≡ true)) → is_some why ≡ (many || few)
hopeless_told why true few is_many is_few = ap is_some (is_many.1 refl)
hopeless_told why false true is_many is_few = ap is_some (is_few.1 (refl, refl))
hopeless_told None false false is_many is_few = refl
hopeless_told (Some TooMany) false false is_many is_few = absurd (false≢true (is_many.0 refl))
hopeless_told (Some TooFew) false false is_many is_few = absurd (false≢true (is_few.0 refl).1)

-- whether a word turns back, told by any test of it
pub turned_told : (b free : Bool) (p : ProblemParts) (word : List ℕ) → free ≡ turn_free p.query → free ≡ true → Decides b (TurnsBack word) → b ≡ is_turned_back p word
turned_told b free p word is free_yes tells =
    same_from_decides b (turns_back word) tells (turns_back_decided word)
    ∙ ap (λ f. f && turns_back word) (sym free_yes ∙ is)
