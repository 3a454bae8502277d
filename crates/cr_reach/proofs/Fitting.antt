-- Rows pushed again, one after another, onto a stack with just room for them.
use Rattle.std.proofs.Common.{◌≡◌, ℕ, ◌+◌, ◌<◌, List, [], ◌∷◌, ◌++◌, length, get_or, take, sym, ap, ◌∙◌, arith}
use Rattle.std.proofs.lemmas.List.{take_more, get_or-take, length-take-le}
use Rattle.cr_rowset.specs.Stacks.{StackParts, AllDiffer}
use Rattle.cr_rowset.specs.Pushing.{Pushes, StandsAt}
use Rattle.cr_rowset.specs.declared.pushed.Pushed.{Pushed}
use Rattle.cr_rowset.specs.declared.pushed.Pushed.TheVariants.{Fresh, Again, Full}

-- the first rows of some that differ stand on the stack, which has room for all of them
pub record AreFitted (rows : List (List ℕ)) (number place : ℕ) (stack : StackParts) : Type 0 where
  pub all : number ≡ length rows
  pub differ : AllDiffer rows
  pub room : stack.room ≡ number
  pub first : stack.rows ≡ take place rows

-- one more is pushed: it stands nowhere yet, and there is room
module _ (rows : List (List ℕ)) (number place : ℕ) (old new : StackParts) (row : List ℕ) (fits : AreFitted rows number place old)
    (within : place < number) (is : row ≡ get_or rows place []) where
  long : length old.rows ≡ place
  long = ap length fits.first ∙ length-take-le place rows (omega (arith, within, fits.all))

  pub fitted_more : (answer : Pushed) → Pushes old row answer new → AreFitted rows number (place + 1) new
  fitted_more Fresh pushes = record {
    all = fits.all;
    differ = fits.differ;
    room = ap (λ (s : StackParts). s.room) pushes.2 ∙ fits.room;
    first = ap (λ (s : StackParts). s.rows) pushes.2 ∙ ap (λ xs. xs ++ row ∷ []) fits.first
        ∙ ap (λ last. take place rows ++ last ∷ []) is ∙ sym (take_more rows place [] (omega (arith, within, fits.all)));
  }
  fitted_more (Again at) pushes =
      let stands : StandsAt old.rows row at = pushes.0 in
      let low : at < place = omega (arith, stands.within, long) in
      let same : get_or rows at [] ≡ get_or rows place [] =
      sym (get_or-take place rows at [] low) ∙ sym (ap (λ xs. get_or xs at []) fits.first) ∙ stands.is ∙ is in
      absurd (fits.differ at place low (omega (arith, within, fits.all)) same)
  fitted_more Full pushes = absurd (omega (arith, pushes.1, fits.room, long, within))
