-- Assigned values are one wish or have one first fault, and what that makes of an answer.
use Rattle.std.proofs.Common.{◌≡◌, ◌∙◌, refl, ap, sym, arith, ◌⊎◌, inl, inr, ℕ, Bool, true, false, Option, Some, None, unwrap_or, List, ◌∷◌, length, get_or}
use Rattle.std.specs.Prelude.{option_map, option_and_then}
use Rattle.cr_words.specs.Values.{Assigned, Task, IsWishOf, workers_of, turns_of, number_for, task_of, every_of, into_of, mode_for, search_with, is_mixed, faults_of}
use Rattle.cr_words.specs.Readings.{IsFirst}
use Rattle.cr_words.proofs.Faults.{first_workers, first_turns, first_number, first_mode, first_every, first_into, first_mixed, no_fault}
use Rattle.cr_words.specs.declared.fault.WordsFault.{WordsFault}
use Rattle.cr_words.specs.declared.fault.WordsFault.TheVariants.{Workers, Turns, Number, Mode as NoMode, Every, Into, Mixed}
use Rattle.cr_words.specs.declared.table.Kind.{Kind}
use Rattle.cr_words.specs.declared.table.Kind.TheVariants as kind
use Rattle.cr_words.specs.declared.wish.Wish.{Wish}
use Rattle.cr_words.specs.declared.wish.Mode.{Mode}
use Rattle.cr_words.specs.declared.wish.Mode.TheVariants.{Make, Last, Cut, Join, Log, Audit}

same_some : {X : Type 0} (x y : X) → Some x ≡ Some y → x ≡ y
same_some x y e = ap (λ o. unwrap_or o x) e

same_wish : (w v : Wish) → w.workers ≡ v.workers → w.turns ≡ v.turns → w.mode ≡ v.mode → w ≡ v
same_wish w v workers turns mode =
    ap (λ (n : ℕ). record w { workers = n }) workers
    ∙ ap (λ (t : Option ℕ). record w { workers = v.workers; turns = t }) turns
    ∙ ap (λ (m : Mode). record v { mode = m }) mode

pub one_wish : (a : Assigned) (w v : Wish) → IsWishOf a w → IsWishOf a v → w ≡ v
one_wish a w v is also = same_wish w v (same_some _ _ (sym is.has_workers ∙ also.has_workers))
    (same_some _ _ (sym is.has_turns ∙ also.has_turns)) (same_some _ _ (sym is.has_mode ∙ also.has_mode))

pub not_both : (a : Assigned) (w : Wish) (f : WordsFault) → IsWishOf a w → IsFirst (faults_of a) f → ⊥
not_both a w f is first =
    let counted : 0 ≡ length (f ∷ first.0) = ap length (sym is.right ∙ first.1) in
    omega (arith, counted)

pub one_first : (faults : List WordsFault) (f g : WordsFault) → IsFirst faults f → IsFirst faults g → f ≡ g
one_first faults f g first also = ap (λ (xs : List WordsFault). get_or xs 0 f) (sym first.1 ∙ also.1)

-- a task's mode, where the numbers are right
some_mode : (a : Assigned) (k : ℕ) (h : Option ℕ) (m : ℕ) → number_for a ≡ Some k → every_of a ≡ Some h → into_of a ≡ Some m
    → (kind : Kind) → (mode : Mode) × (mode_for a kind ≡ Some mode)
some_mode a k h m is each many kind.Search = (search_with h, ap (option_map search_with) each)
some_mode a k h m is each many kind.Make = (Make k, ap (option_map Make) is)
some_mode a k h m is each many kind.Last = (Last, refl)
some_mode a k h m is each many kind.Cut = (Cut m, ap (option_map Cut) many)
some_mode a k h m is each many kind.Join = (Join, refl)
some_mode a k h m is each many kind.Log = (Log, refl)
some_mode a k h m is each many kind.Audit = (Audit, refl)

pub of_task : (a : Assigned) (task : Task) (mode : Mode) → task_of a ≡ Some task → mode_for a task.kind ≡ Some mode
    → option_and_then (λ task. mode_for a task.kind) (task_of a) ≡ Some mode
of_task a task mode named is = ap (option_and_then (λ (task : Task). mode_for a task.kind)) named ∙ is

abbrev WishOrFault : Assigned → Type 0
WishOrFault a = ((w : Wish) × IsWishOf a w) ⊎ ((f : WordsFault) × IsFirst (faults_of a) f)

by_mixed : (a : Assigned) (n : ℕ) (t : Option ℕ) (k : ℕ) (task : Task) (h : Option ℕ) (m : ℕ) → workers_of a ≡ Some n
    → turns_of a ≡ Some t → number_for a ≡ Some k → task_of a ≡ Some task → every_of a ≡ Some h → into_of a ≡ Some m
    → (b : Bool) → is_mixed a task ≡ b → WishOrFault a
by_mixed a n t k task h m is also too named each many true e = inr (Mixed, first_mixed a n t k task h m is also too named each many e)
by_mixed a n t k task h m is also too named each many false e =
    let mode : (mode : Mode) × (mode_for a task.kind ≡ Some mode) = some_mode a k h m too each many task.kind in
    inl (
      record { workers = n; turns = t; mode = mode.0 },
      record {
        has_workers = is;
        has_turns = also;
        has_mode = of_task a task mode.0 named mode.1;
        right = no_fault a n t k task h m is also too named each many e;
      },
    )

by_into : (a : Assigned) (n : ℕ) (t : Option ℕ) (k : ℕ) (task : Task) (h : Option ℕ) → workers_of a ≡ Some n → turns_of a ≡ Some t
    → number_for a ≡ Some k → task_of a ≡ Some task → every_of a ≡ Some h → (o : Option ℕ) → into_of a ≡ o → WishOrFault a
by_into a n t k task h is also too named each None e = inr (Into, first_into a n t k task h is also too named each e)
by_into a n t k task h is also too named each (Some m) e = by_mixed a n t k task h m is also too named each e (is_mixed a task) refl

by_every : (a : Assigned) (n : ℕ) (t : Option ℕ) (k : ℕ) (task : Task) → workers_of a ≡ Some n → turns_of a ≡ Some t
    → number_for a ≡ Some k → task_of a ≡ Some task → (o : Option (Option ℕ)) → every_of a ≡ o → WishOrFault a
by_every a n t k task is also too named None e = inr (Every, first_every a n t k task is also too named e)
by_every a n t k task is also too named (Some h) e = by_into a n t k task h is also too named e (into_of a) refl

by_mode : (a : Assigned) (n : ℕ) (t : Option ℕ) (k : ℕ) → workers_of a ≡ Some n → turns_of a ≡ Some t → number_for a ≡ Some k
    → (o : Option Task) → task_of a ≡ o → WishOrFault a
by_mode a n t k is also too None e = inr (NoMode, first_mode a n t k is also too e)
by_mode a n t k is also too (Some task) e = by_every a n t k task is also too e (every_of a) refl

by_number : (a : Assigned) (n : ℕ) (t : Option ℕ) → workers_of a ≡ Some n → turns_of a ≡ Some t
    → (o : Option ℕ) → number_for a ≡ o → WishOrFault a
by_number a n t is also None e = inr (Number, first_number a n t is also e)
by_number a n t is also (Some k) e = by_mode a n t k is also e (task_of a) refl

by_turns : (a : Assigned) (n : ℕ) → workers_of a ≡ Some n → (o : Option (Option ℕ)) → turns_of a ≡ o → WishOrFault a
by_turns a n is None e = inr (Turns, first_turns a n is e)
by_turns a n is (Some t) e = by_number a n t is e (number_for a) refl

by_workers : (a : Assigned) (o : Option ℕ) → workers_of a ≡ o → WishOrFault a
by_workers a None e = inr (Workers, first_workers a e)
by_workers a (Some n) e = by_turns a n e (turns_of a) refl

pub wish_or_fault : (a : Assigned) → WishOrFault a
wish_or_fault a = by_workers a (workers_of a) refl
