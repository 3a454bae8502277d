-- What the reader's methods leave is what the steps give.
use Rattle.std.proofs.Common.{◌≡◌, ℕ, ◌%◌, Bool, true, false, cond, List, [], ◌∷◌, ◌++◌, Option, Some, None, Result, Ok, Err, refl, sym, ap, ◌∙◌}
use Rattle.std.specs.Prelude.{nat_eq}
use Rattle.std.proofs.lemmas.Bool.{cases_Bool}
use Rattle.std.proofs.lemmas.Option.{same_Some}
use Rattle.cr_row.specs.Rows.{Places}
use Rattle.cr_model.specs.declared.notation.NotationFault.{NotationFault}
use Rattle.cr_model.specs.declared.notation.NotationFault.TheVariants as fault
use Rattle.cr_model.specs.Notation.{crossing, change_of, mirrored}
use Rattle.cr_notation.specs.declared.reader.Last.{Last}
use Rattle.cr_notation.specs.declared.reader.Last.TheVariants as last
use Rattle.cr_notation.specs.Reading.{State, kept, kept_of, kept_read, closed, cross_on, cross_step, ended, comma_after}
use Rattle.cr_notation.specs.Refining.{IsShut}
use Rattle.cr_notation.proofs.Keeping.{kept_front, both_mirrored}
use Rattle.cr_notation.proofs.KeptReading.{alike_ok}

none_is : (b : Bool) (x : Places) → cond b None (Some x) ≡ None → b ≡ true
none_is true x is = refl
none_is false x is = absurd (cc)

some_is : (b : Bool) (x y : Places) → cond b None (Some x) ≡ Some y → (b ≡ false) × (x ≡ y)
some_is true x y is = absurd (cc)
some_is false x y is = (refl, same_Some x y is)

pub no_cross : (n : ℕ) (s : State) (k : ℕ) → cross_on n ≡ None → cross_step n s k ≡ Err (fault.CrossOnOdd k)
unfolding cross_step
no_cross n s k is = rw (none_is (nat_eq (n % 2) 1) (change_of n crossing) is) refl

-- a cross: the open group is closed, and the change without places added
pub cross_taken : (n k : ℕ) (s shut : State) (cross : Places) (block : List Places) → cross_on n ≡ Some cross → IsShut n s shut → kept block ≡ kept (shut.block ++ cross ∷ [])
    → kept_read (cross_step n s k) ≡ kept_read (Ok (record shut { block = block; last = last.Cross }))
unfolding cross_step
cross_taken n k s shut cross block on is adds =
    let (even, same) = some_is (nat_eq (n % 2) 1) (change_of n crossing) cross on in
    let keeps : kept (closed n s ++ change_of n crossing ∷ []) ≡ kept block =
    rw same (kept_front (closed n s) shut.block (cross ∷ []) (sym is.block)) ∙ sym adds in
    rw (even, is.comma_seen, is.done, is.named) (alike_ok s.comma_seen s.done s.done (closed n s ++ change_of n crossing ∷ []) block [] last.Cross refl keeps)

-- a comma: the open group is closed, and the block added to what was done
pub comma_taken : (n : ℕ) (s shut : State) (done : List Places) → IsShut n s shut → kept done ≡ kept (shut.done ++ mirrored shut.block)
    → kept_read (Ok (ended n s)) ≡ kept_read (Ok (record shut { comma_seen = true; done = done; block = []; last = last.Nothing }))
comma_taken n s shut done is adds =
    let keeps : kept (s.done ++ mirrored (closed n s)) ≡ kept done =
    sym (adds ∙ both_mirrored shut.done shut.block (closed n s) is.block ∙ ap (λ ds. kept (ds ++ mirrored (closed n s))) is.done) in
    rw is.named (alike_ok true (s.done ++ mirrored (closed n s)) done [] [] [] last.Nothing keeps refl)

pub comma_ends : (n : ℕ) (l : Last) (s : State) (k : ℕ) → (l ≡ last.Nothing → ⊥) → ((d : ℕ) → l ≡ last.Dot d → ⊥) → s.comma_seen ≡ false → comma_after n l s k ≡ Ok (ended n s)
comma_ends n last.Nothing s k some dotted seen = absurd (some refl)
comma_ends n (last.Dot d) s k some dotted seen = absurd (dotted d refl)
comma_ends n last.Cross s k some dotted seen = rw seen refl
comma_ends n last.Group s k some dotted seen = rw seen refl
