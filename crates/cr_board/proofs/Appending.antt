-- What each event appends.
use Rattle.std.proofs.Common.{◌≡◌, ℕ, zero, suc, Bool, true, false, cond, nat_lt, List, [], ◌++◌, Option, Some, None, refl, sym, ap, ◌∙◌, append-nil}
use Rattle.std.proofs.lemmas.List.{append_assoc}
use Rattle.cr_board.specs.Boards.{BoardParts, held_at}
use Rattle.cr_board.specs.Choices.{refusal_of, next_place, claim_place}
use Rattle.cr_board.specs.Moves.{after_ask, put_back, given_back, after_resigning, back_below}
use Rattle.cr_board.specs.Steps.{WorkStep, EventStep}
use Rattle.cr_board.specs.declared.held.Held.{Held}
use Rattle.cr_board.specs.declared.place.Place.{Place}
use Rattle.cr_board.specs.declared.refusal.Refusal.{Refusal}
use Rattle.cr_board.specs.declared.entry.Entry.{Entry}
use Rattle.cr_board.specs.declared.event.Event.{Event}
use Rattle.cr_board.specs.declared.event.Event.TheVariants.{Next, Claim, Work as Works, Resign, Recall}

-- one list is another and some more
abbrev Appends : {X : Type 0} → List X → List X → Type 0
Appends {X} old new = (more : List X) × (new ≡ old ++ more)

same : {X : Type 0} (xs ys : List X) → ys ≡ xs → Appends xs ys
same xs ys e = ([], e ∙ sym (append-nil xs))

onward : {X : Type 0} (xs ys zs : List X) → Appends xs ys → Appends ys zs → Appends xs zs
onward xs ys zs (one, e) (two, f) = (one ++ two, f ∙ ap (λ l. l ++ two) e ∙ append_assoc xs one two)

-- both lists of a board
abbrev Both : BoardParts → BoardParts → Type 0
Both b after = Appends b.journal after.journal × Appends b.found after.found

stays : (b after : BoardParts) → after ≡ b → Both b after
stays b after e = (same b.journal after.journal (ap (λ a. a.journal) e), same b.found after.found (ap (λ a. a.found) e))

asked : (b : BoardParts) (worker : ℕ) (r : Option Refusal) (place : Option Place) → Both b (after_ask b worker r place)
asked b worker (Some r) place = stays b b refl
asked b worker None (Some place) = ((_, refl), same b.found b.found refl)
asked b worker None None = stays b b refl

given : (b : BoardParts) (worker : ℕ) → Both b (given_back b worker)
given b worker = by (held_at b.held worker)
  where
    by : (h : Option Held) → Both b (put_back b worker h)
    by None = stays b b refl
    by (Some mine) = ((_, refl), same b.found b.found refl)

below : (b : BoardParts) (count : ℕ) → Both b (back_below b count)
below b zero = stays b b refl
below b (suc worker) = go (below b worker) (given (back_below b worker) worker)
  where
    go : Both b (back_below b worker) → Both (back_below b worker) (given_back (back_below b worker) worker) → Both b (back_below b (suc worker))
    go one two = (
      onward b.journal (back_below b worker).journal (back_below b (suc worker)).journal one.0 two.0,
      onward b.found (back_below b worker).found (back_below b (suc worker)).found one.1 two.1,
    )

-- the same, told of a board that is this one
told : (b now after : BoardParts) → after ≡ now → Both b now → Both b after
told b now after e (journal, found) = ((journal.0, ap (λ a. a.journal) e ∙ journal.1), (found.0, ap (λ a. a.found) e ∙ found.1))

both : (b after : BoardParts) (event : Event) → EventStep b event after → Both b after
both b after (Next worker) step = told b _ after step (asked b worker (refusal_of b worker) (next_place b worker))
both b after (Claim worker number) step = told b _ after step (asked b worker (refusal_of b worker) (claim_place b number))
both b after (Works worker) step = by (held_at b.held worker) step
  where
    by : (h : Option Held) → WorkStep b worker h after → Both b after
    by None e = stays b after e
    by (Some mine) (work, worked, is) = told b _ after is ((_, refl), (_, refl))
both b after (Resign worker) step = told b _ after step (by (nat_lt worker b.opening.workers))
  where
    by : (inside : Bool) → Both b (cond inside (after_resigning b worker) b)
    by true = given b worker
    by false = stays b b refl
both b after Recall step = told b _ after step (below b b.opening.workers)

pub journal_appends : (b after : BoardParts) (event : Event) → EventStep b event after → (more : List Entry) × (after.journal ≡ b.journal ++ more)
journal_appends b after event step = (both b after event step).0

pub found_appends : (b after : BoardParts) (event : Event) → EventStep b event after → (more : List (List ℕ)) × (after.found ≡ b.found ++ more)
found_appends b after event step = (both b after event step).1
