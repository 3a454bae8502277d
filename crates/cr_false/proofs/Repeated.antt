-- Rows pushed until one comes again.
use Rattle.std.proofs.Common.{◌≡◌, ◌≢◌, ◌↔◌, ℕ, ◌+◌, ◌<◌, List, [], ◌∷◌, ◌++◌, length, get_or, take, Bool, true, refl, sym, ap, ◌∙◌, subst, arith}
use Rattle.std.proofs.lemmas.List.{take_more, get_or-take, length-take-le}
use Rattle.cr_rowset.specs.Stacks.{StackParts, AllDiffer}
use Rattle.cr_rowset.specs.Pushing.{Pushes, StandsAt}
use Rattle.cr_rowset.specs.declared.pushed.Pushed.{Pushed}
use Rattle.cr_rowset.specs.declared.pushed.Pushed.TheVariants.{Fresh, Again, Full}
use Rattle.cr_false.specs.Sets.{HasTwice}
use Rattle.cr_false.proofs.Adding.{StayDifferent}

-- the first rows stand on the stack, and differ; it has room for all
pub record AreSeen (rows : List (List ℕ)) (index : ℕ) (stack : StackParts) : Type 0 where
  pub room : stack.room ≡ length rows
  pub first : stack.rows ≡ take index rows
  pub differ : AllDiffer stack.rows

pub none_seen : (rows : List (List ℕ)) (stack : StackParts) (room : ℕ) → stack ≡ record { rows = []; room = room } → room ≡ length rows → AreSeen rows 0 stack
none_seen rows stack room is all = record {
  room = ap (λ (s : StackParts). s.room) is ∙ all;
  first = ap (λ (s : StackParts). s.rows) is;
  differ = λ i j before within. let none : length stack.rows ≡ 0 = ap (λ (s : StackParts). length s.rows) is in absurd (omega (arith, within, none));
}

module _ (rows : List (List ℕ)) (index : ℕ) (old new : StackParts) (row : List ℕ) (seen : AreSeen rows index old)
    (within : index < length rows) (is : row ≡ get_or rows index []) where
  long : length old.rows ≡ index
  long = ap length seen.first ∙ length-take-le index rows (omega (arith, within))

  pub seen_more : StayDifferent → (answer : Pushed) → ((place : ℕ) → answer ≢ Again place) → Pushes old row answer new → AreSeen rows (index + 1) new
  seen_more stay Fresh some pushes = record {
    room = ap (λ (s : StackParts). s.room) pushes.2 ∙ seen.room;
    first = ap (λ (s : StackParts). s.rows) pushes.2 ∙ ap (λ (xs : List (List ℕ)). xs ++ row ∷ []) seen.first
        ∙ ap (λ (last : List ℕ). take index rows ++ last ∷ []) is ∙ sym (take_more rows index [] within);
    differ = stay old new row Fresh seen.differ pushes;
  }
  seen_more stay (Again place) some pushes = absurd (some place refl)
  seen_more stay Full some pushes = absurd (omega (arith, pushes.1, seen.room, long, within))

  pub again : (place : ℕ) → Pushes old row (Again place) new → HasTwice rows
  again place pushes =
      let stands : StandsAt old.rows row place = pushes.0 in
      let low : place < index = omega (arith, stands.within, long) in
      record {
        first = place;
        second = index;
        before = low;
        within = within;
        same = sym (get_or-take index rows place [] low) ∙ sym (ap (λ (xs : List (List ℕ)). get_or xs place []) seen.first) ∙ stands.is ∙ is;
      }

-- all are seen, and none twice
pub never : (rows : List (List ℕ)) (stack : StackParts) (index : ℕ) → AreSeen rows index stack → take index rows ≡ rows → HasTwice rows → ⊥
never rows stack index seen all twice =
    subst AllDiffer (seen.first ∙ all) seen.differ twice.first twice.second twice.before twice.within twice.same

pub told_true : (b : Bool) (rows : List (List ℕ)) → b ≡ true → HasTwice rows → (b ≡ true) ↔ HasTwice rows
told_true b rows is twice = (λ e. twice, λ t. is)
