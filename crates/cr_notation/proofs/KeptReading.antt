-- Reading on from what is kept gives what reading on from the whole gives.
use Rattle.std.proofs.Common.{◌≡◌, ℕ, ◌+◌, ◌-◌, ◌%◌, Bool, true, false, cond, List, [], ◌∷◌, ◌++◌, Option, Some, None, Result, Ok, Err, refl, sym, ap, ap₂, ◌∙◌}
use Rattle.std.specs.Prelude.{nat_eq, nat_lt, nat_le}
use Rattle.cr_row.specs.Rows.{Places}
use Rattle.cr_model.specs.declared.notation.NotationFault.{NotationFault}
use Rattle.cr_model.specs.declared.notation.NotationFault.TheVariants as fault
use Rattle.cr_model.specs.Notation.{Sign, cross, place, dot, comma, other, end_of_text, is_blank, sign_of, group, crossing, last_named, change_of, mirrored}
use Rattle.cr_notation.specs.declared.reader.Last.{Last}
use Rattle.cr_notation.specs.declared.reader.Last.TheVariants as last
use Rattle.cr_notation.specs.Reading.{State, kept, kept_of, kept_read, closed_by, closed, first_named, named_after, more_named, place_step, cross_on, cross_step, dot_after, dot_step, ended, comma_after, comma_step, whole, end_after, end_step, step, byte_step, then_all, read_from, limited}
use Rattle.cr_notation.proofs.Keeping.{kept_front, kept_behind, kept_again, kept_more, kept_mirrored, kept_limited}

-- what is kept of the changes of the block
closed_by_kept : (n : ℕ) (l : Last) (named : List ℕ) (block : List Places) → kept (closed_by n l named (kept block)) ≡ kept (closed_by n l named block)
closed_by_kept n last.Nothing named block = kept_again block
closed_by_kept n (last.Dot d) named block = kept_again block
closed_by_kept n last.Cross named block = kept_again block
closed_by_kept n last.Group named block = kept_more block (change_of n (group named) ∷ [])

pub closed_kept : (n : ℕ) (s : State) → kept (closed n (kept_of s)) ≡ kept (closed n s)
unfolding closed
closed_kept n s = closed_by_kept n s.last s.named s.block

alike_cond : (b : Bool) (f : NotationFault) (r q : Result State NotationFault) → kept_read r ≡ kept_read q → kept_read (cond b (Err f) r) ≡ kept_read (cond b (Err f) q)
alike_cond true f r q same = refl
alike_cond false f r q same = same

pub alike_ok : (seen : Bool) (done rest block more : List Places) (named : List ℕ) (l : Last) → kept done ≡ kept rest → kept block ≡ kept more
    → kept_read (Ok (record { comma_seen = seen; done = done; block = block; named = named; last = l })) ≡ kept_read (Ok (record { comma_seen = seen; done = rest; block = more; named = named; last = l }))
alike_ok seen done rest block more named l one two =
    ap₂ (λ ds bs. Ok (record { comma_seen = seen; done = ds; block = bs; named = named; last = l })) one two

cross_kept : (n : ℕ) (s : State) (k : ℕ) → kept_read (cross_step n (kept_of s) k) ≡ kept_read (cross_step n s k)
unfolding cross_step
cross_kept n s k = alike_cond (nat_eq (n % 2) 1) (fault.CrossOnOdd k) _ _
    (alike_ok s.comma_seen (kept s.done) s.done _ _ [] last.Cross (kept_again s.done)
    (kept_front (closed n (kept_of s)) (closed n s) (change_of n crossing ∷ []) (closed_kept n s)))

named_kept : (l : Last) (s : State) (k p : ℕ) → kept_read (named_after l (kept_of s) k p) ≡ kept_read (named_after l s k p)
named_kept last.Nothing s k p = alike_ok s.comma_seen (kept s.done) s.done (kept s.block) s.block (p ∷ []) last.Group (kept_again s.done) (kept_again s.block)
named_kept (last.Dot d) s k p = alike_ok s.comma_seen (kept s.done) s.done (kept s.block) s.block (p ∷ []) last.Group (kept_again s.done) (kept_again s.block)
named_kept last.Cross s k p = alike_ok s.comma_seen (kept s.done) s.done (kept s.block) s.block (p ∷ []) last.Group (kept_again s.done) (kept_again s.block)
named_kept last.Group s k p =
    alike_cond (nat_le p (last_named s.named)) (fault.Order k) _ _ (alike_cond (nat_eq ((p - last_named s.named - 1) % 2) 1) (fault.Gap k) _ _
    (alike_ok s.comma_seen (kept s.done) s.done (kept s.block) s.block (s.named ++ p ∷ []) s.last (kept_again s.done) (kept_again s.block)))

place_kept : (n : ℕ) (s : State) (k p : ℕ) → kept_read (place_step n (kept_of s) k p) ≡ kept_read (place_step n s k p)
unfolding place_step
place_kept n s k p = alike_cond (nat_lt n p) (fault.Above k) _ _ (named_kept s.last s k p)

dotted_kept : (n : ℕ) (s : State) (k : ℕ) → kept_read (Ok (record (kept_of s) { block = closed n (kept_of s); named = []; last = last.Dot k })) ≡ kept_read (Ok (record s { block = closed n s; named = []; last = last.Dot k }))
dotted_kept n s k = alike_ok s.comma_seen (kept s.done) s.done (closed n (kept_of s)) (closed n s) [] (last.Dot k) (kept_again s.done) (closed_kept n s)

dot_after_kept : (n : ℕ) (l : Last) (s : State) (k : ℕ) → kept_read (dot_after n l (kept_of s) k) ≡ kept_read (dot_after n l s k)
dot_after_kept n last.Nothing s k = refl
dot_after_kept n (last.Dot d) s k = refl
dot_after_kept n last.Cross s k = dotted_kept n s k
dot_after_kept n last.Group s k = dotted_kept n s k

dot_kept : (n : ℕ) (s : State) (k : ℕ) → kept_read (dot_step n (kept_of s) k) ≡ kept_read (dot_step n s k)
unfolding dot_step
dot_kept n s k = dot_after_kept n s.last s k

-- the changes of both blocks
both_kept : (n : ℕ) (s : State) → kept (kept s.done ++ mirrored (closed n (kept_of s))) ≡ kept (s.done ++ mirrored (closed n s))
both_kept n s =
    kept_more s.done (mirrored (closed n (kept_of s)))
    ∙ kept_behind s.done (mirrored (closed n (kept_of s))) (mirrored (closed n s)) (kept_mirrored (closed n (kept_of s)) (closed n s) (closed_kept n s))

ended_kept : (n : ℕ) (s : State) → kept_read (Ok (ended n (kept_of s))) ≡ kept_read (Ok (ended n s))
ended_kept n s = alike_ok true (kept s.done ++ mirrored (closed n (kept_of s))) (s.done ++ mirrored (closed n s)) [] [] [] last.Nothing (both_kept n s) refl

comma_after_kept : (n : ℕ) (l : Last) (s : State) (k : ℕ) → kept_read (comma_after n l (kept_of s) k) ≡ kept_read (comma_after n l s k)
comma_after_kept n (last.Dot d) s k = refl
comma_after_kept n last.Nothing s k = alike_cond s.comma_seen (fault.SecondComma k) (Err (fault.EmptyBlock k)) (Err (fault.EmptyBlock k)) refl
comma_after_kept n last.Cross s k = alike_cond s.comma_seen (fault.SecondComma k) (Ok (ended n (kept_of s))) (Ok (ended n s)) (ended_kept n s)
comma_after_kept n last.Group s k = alike_cond s.comma_seen (fault.SecondComma k) (Ok (ended n (kept_of s))) (Ok (ended n s)) (ended_kept n s)

comma_kept : (n : ℕ) (s : State) (k : ℕ) → kept_read (comma_step n (kept_of s) k) ≡ kept_read (comma_step n s k)
unfolding comma_step
comma_kept n s k = comma_after_kept n s.last s k

sign_kept : (n : ℕ) (s : State) (k : ℕ) (sign : Sign) → kept_read (step n (kept_of s) k sign) ≡ kept_read (step n s k sign)
unfolding step
sign_kept n s k cross = cross_kept n s k
sign_kept n s k (place p) = place_kept n s k p
sign_kept n s k dot = dot_kept n s k
sign_kept n s k comma = comma_kept n s k
sign_kept n s k other = refl
sign_kept n s k end_of_text = refl

blank_or_sign : (blank : Bool) (n : ℕ) (s : State) (k : ℕ) (sign : Sign) → kept_read (cond blank (Ok (kept_of s)) (step n (kept_of s) k sign)) ≡ kept_read (cond blank (Ok s) (step n s k sign))
blank_or_sign true n s k sign = alike_ok s.comma_seen (kept s.done) s.done (kept s.block) s.block s.named s.last (kept_again s.done) (kept_again s.block)
blank_or_sign false n s k sign = sign_kept n s k sign

pub byte_kept : (n : ℕ) (s : State) (k byte : ℕ) → kept_read (byte_step n (kept_of s) k byte) ≡ kept_read (byte_step n s k byte)
unfolding byte_step
byte_kept n s k byte = blank_or_sign (is_blank byte) n s k (sign_of byte)

-- ---- the whole text

whole_kept : (n : ℕ) (s : State) → kept (whole n (kept_of s)) ≡ kept (whole n s)
whole_kept n s = by s.comma_seen
  where
    by : (seen : Bool) → kept (cond seen (kept s.done ++ mirrored (closed n (kept_of s))) (closed n (kept_of s))) ≡ kept (cond seen (s.done ++ mirrored (closed n s)) (closed n s))
    by true = both_kept n s
    by false = closed_kept n s

end_after_kept : (m n : ℕ) (l : Last) (s : State) (k : ℕ) → limited m (end_after n l (kept_of s) k) ≡ limited m (end_after n l s k)
end_after_kept m n (last.Dot d) s k = refl
end_after_kept m n last.Nothing s k = refl
end_after_kept m n last.Cross s k = kept_limited m (whole n (kept_of s)) (whole n s) (whole_kept n s)
end_after_kept m n last.Group s k = kept_limited m (whole n (kept_of s)) (whole n s) (whole_kept n s)

end_kept : (m n : ℕ) (s : State) (k : ℕ) → limited m (end_step n (kept_of s) k) ≡ limited m (end_step n s k)
unfolding end_step
end_kept m n s k = end_after_kept m n s.last s k

same_err : (f g : NotationFault) → kept_read (Err f) ≡ kept_read (Err g) → f ≡ g
same_err f g same = cc

same_ok : (s t : State) → kept_read (Ok s) ≡ kept_read (Ok t) → kept_of s ≡ kept_of t
same_ok s t same = cc

then_kept : (m : ℕ) (r q : Result State NotationFault) (next : State → Result (List Places) NotationFault) → ((s : State) → limited m (next (kept_of s)) ≡ limited m (next s))
    → kept_read r ≡ kept_read q → limited m (then_all r next) ≡ limited m (then_all q next)
then_kept m (Ok s) (Ok t) next on same = sym (on s) ∙ ap (λ u. limited m (next u)) (same_ok s t same) ∙ on t
then_kept m (Ok s) (Err f) next on same = absurd (cc)
then_kept m (Err f) (Ok s) next on same = absurd (cc)
then_kept m (Err f) (Err g) next on same = ap (λ h. limited m (Err h)) (same_err f g same)

pub rest_kept : (m n : ℕ) (s : State) (k : ℕ) (bytes : List ℕ) → limited m (read_from n (kept_of s) k bytes) ≡ limited m (read_from n s k bytes)
unfolding read_from
rest_kept m n s k [] = end_kept m n s k
rest_kept m n s k (byte ∷ bytes) =
    then_kept m (byte_step n (kept_of s) k byte) (byte_step n s k byte) (λ after. read_from n after (k + 1) bytes) (λ after. rest_kept m n after (k + 1) bytes) (byte_kept n s k byte)
