-- The fault that reading meets is the first one of the text.
use Rattle.std.proofs.Common.{◌≡◌, ◌≢◌, ℕ, ◌+◌, ◌-◌, ◌%◌, Bool, true, false, cond, ◌||◌, List, [], ◌∷◌, ◌++◌, Option, Some, None, Result, Ok, Err, refl, sym, ap, subst, ◌∙◌}
use Rattle.std.specs.Prelude.{nat_eq, nat_lt, nat_le}
use Rattle.std.specs.List.{range_with_len}
use Rattle.cr_row.specs.Rows.{Places}
use Rattle.cr_row.specs.Symbols.{symbol_of}
use Rattle.cr_model.specs.declared.notation.NotationFault.{NotationFault}
use Rattle.cr_model.specs.declared.notation.NotationFault.TheVariants.{Above, Order, Gap, CrossOnOdd, Dot, EmptyBlock, SecondComma}
use Rattle.cr_model.specs.Notation.{Sign, cross, place, dot, comma, other, end_of_text, is_blank, is_cross, place_of, sign_of, crossing, last_named, change_of}
use Rattle.cr_model.specs.NotationFaults.{Mark, marks_from, is_comma, is_dot, is_of_item, starts_block, follows_dot, has_item, has_comma, group_fault, place_fault, fault_at}
use Rattle.cr_notation.specs.declared.reader.Last.{Last}
use Rattle.cr_notation.specs.declared.reader.Last.TheVariants as last
use Rattle.cr_notation.specs.Reading.{State, closed, more_named, first_named, named_after, place_step, cross_step, dot_after, dot_step, ended, comma_after, comma_step, end_after, end_step, step, byte_step, then_all, read_from}

-- ---- no byte is the end

chosen_not_end : (b : Bool) (x y : Sign) → x ≢ end_of_text → y ≢ end_of_text → cond b x y ≢ end_of_text
chosen_not_end true x y hx hy e = hx e
chosen_not_end false x y hx hy e = hy e

place_not_end : (ps : List ℕ) (byte : ℕ) → place_of ps byte ≢ end_of_text
place_not_end [] byte e = cc
place_not_end (p ∷ ps) byte e = chosen_not_end (nat_eq byte (symbol_of p)) (place p) (place_of ps byte) (λ h. cc) (place_not_end ps byte) e

pub byte_not_end : (byte : ℕ) → sign_of byte ≢ end_of_text
byte_not_end byte =
    chosen_not_end (is_cross byte) cross _ (λ e. cc) (chosen_not_end (nat_eq byte 46) dot _ (λ e. cc) (chosen_not_end (nat_eq byte 44) comma _ (λ e. cc) (place_not_end (range_with_len 1 16) byte)))

-- ---- what stands before, as the state has it

abbrev pub Near : Last → List ℕ → List Mark → Type 0
Near last.Nothing named before = starts_block before ≡ true
Near (last.Dot d) named [] = ⊥
Near (last.Dot d) named (mark ∷ before) = (mark.sign ≡ dot) × (mark.at ≡ d)
Near last.Cross named [] = ⊥
Near last.Cross named (mark ∷ before) = mark.sign ≡ cross
Near last.Group named [] = ⊥
Near last.Group named (mark ∷ before) = mark.sign ≡ place (last_named named)

pub record Agrees (before : List Mark) (s : State) : Type 0 where
  pub near : Near s.last s.named before
  pub seen : s.comma_seen ≡ has_comma before

-- a step and the table agree at a mark: both have this fault, or neither has one
abbrev Same : Result State NotationFault → Option NotationFault → List Mark → Type 0
Same (Ok after) None here = Agrees here after
Same (Ok after) (Some g) here = ⊥
Same (Err f) None here = ⊥
Same (Err f) (Some g) here = f ≡ g

same_test : (b : Bool) (f : NotationFault) (x : Result State NotationFault) (y : Option NotationFault) (here : List Mark) → Same x y here → Same (cond b (Err f) x) (cond b (Some f) y) here
same_test true f x y here h = refl
same_test false f x y here h = h

comma_is : (x : Sign) → is_comma x ≡ true → x ≡ comma
comma_is comma e = refl
comma_is cross e = absurd cc
comma_is (place p) e = absurd cc
comma_is dot e = absurd cc
comma_is other e = absurd cc
comma_is end_of_text e = absurd cc

last_named_more : (named : List ℕ) (p : ℕ) → last_named (named ++ p ∷ []) ≡ p
last_named_more [] p = refl
last_named_more (q ∷ []) p = refl
last_named_more (q ∷ r ∷ named) p = last_named_more (r ∷ named) p

abbrev at : Last → Bool → List Places → List Places → List ℕ → State
at l seen done block named = record { comma_seen = seen; done = done; block = block; named = named; last = l }

starts_group : (k p : ℕ) (mark : Mark) (before : List Mark) (s : State) → group_fault k mark.sign p ≡ None → s.comma_seen ≡ has_comma (mark ∷ before)
    → Same (Ok (first_named s p)) (place_fault k (mark ∷ before) p) (record { at = k; sign = place p } ∷ mark ∷ before)
starts_group k p mark before s none seen = subst (λ (o : Option NotationFault). Same (Ok (first_named s p)) o (record { at = k; sign = place p } ∷ mark ∷ before)) (sym none) (record { near = refl; seen = seen })

place_same : (k p : ℕ) (l : Last) (seen : Bool) (done block : List Places) (named : List ℕ) (before : List Mark) → Near l named before → seen ≡ has_comma before
    → Same (named_after l (at l seen done block named) k p) (place_fault k before p) (record { at = k; sign = place p } ∷ before)
place_same k p last.Nothing seen done block named [] near same = record { near = refl; seen = same }
place_same k p last.Nothing seen done block named (mark ∷ before) near same =
    starts_group k p mark before (at last.Nothing seen done block named) (ap (λ x. group_fault k x p) (comma_is mark.sign near)) same
place_same k p (last.Dot d) seen done block named [] near same = absurd near
place_same k p (last.Dot d) seen done block named (mark ∷ before) near same =
    starts_group k p mark before (at (last.Dot d) seen done block named) (ap (λ x. group_fault k x p) near.0) same
place_same k p last.Cross seen done block named [] near same = absurd near
place_same k p last.Cross seen done block named (mark ∷ before) near same =
    starts_group k p mark before (at last.Cross seen done block named) (ap (λ x. group_fault k x p) near) same
place_same k p last.Group seen done block named [] near same = absurd near
place_same k p last.Group seen done block named (mark ∷ before) near same =
    let s : State = at last.Group seen done block named in
    let here : List Mark = record { at = k; sign = place p } ∷ mark ∷ before in
    let t : State = record s { named = named ++ p ∷ [] } in
    let x : Result State NotationFault = cond (nat_eq ((p - last_named named - 1) % 2) 1) (Err (Gap k)) (Ok t) in
    let y : Option NotationFault = cond (nat_eq ((p - last_named named - 1) % 2) 1) (Some (Gap k)) None in
    subst (λ z. Same (more_named s k p) (group_fault k z p) here) (sym near)
    (same_test (nat_le p (last_named named)) (Order k) x y here
    (same_test (nat_eq ((p - last_named named - 1) % 2) 1) (Gap k) (Ok t) None here
    (record { near = ap place (sym (last_named_more named p)); seen = same })))

dot_same : (n k : ℕ) (l : Last) (seen : Bool) (done block : List Places) (named : List ℕ) (before : List Mark) → Near l named before → seen ≡ has_comma before
    → Same (dot_after n l (at l seen done block named) k) (cond (starts_block before || follows_dot before) (Some (Dot k)) None) (record { at = k; sign = dot } ∷ before)
dot_same n k last.Nothing seen done block named before near same = rw near refl
dot_same n k (last.Dot d) seen done block named [] near same = absurd near
dot_same n k (last.Dot d) seen done block named (mark ∷ before) near same = let is : mark.sign ≡ dot = near.0 in rw is refl
dot_same n k last.Cross seen done block named [] near same = absurd near
dot_same n k last.Cross seen done block named (mark ∷ before) near same =
    subst (λ (b : Bool). Same (dot_after n last.Cross (at last.Cross seen done block named) k) (cond b (Some (Dot k)) None) (record { at = k; sign = dot } ∷ mark ∷ before)) (sym (ap (λ x. is_comma x || is_dot x) near)) (record { near = (refl, refl); seen = same })
dot_same n k last.Group seen done block named [] near same = absurd near
dot_same n k last.Group seen done block named (mark ∷ before) near same =
    subst (λ (b : Bool). Same (dot_after n last.Group (at last.Group seen done block named) k) (cond b (Some (Dot k)) None) (record { at = k; sign = dot } ∷ mark ∷ before)) (sym (ap (λ x. is_comma x || is_dot x) near)) (record { near = (refl, refl); seen = same })

-- the faults of a comma, as a function of the sign before
abbrev comma_fault : Sign → ℕ → Bool → Bool → ℕ → Option NotationFault
comma_fault x d seen item k = cond (is_dot x) (Some (Dot d)) (cond seen (Some (SecondComma k)) (cond (cond (is_comma x) false (is_of_item x || item)) None (Some (EmptyBlock k))))

comma_same : (n k : ℕ) (l : Last) (seen : Bool) (done block : List Places) (named : List ℕ) (before : List Mark) → Near l named before → seen ≡ has_comma before
    → Same (comma_after n l (at l seen done block named) k) (fault_at n before k comma) (record { at = k; sign = comma } ∷ before)
comma_same n k last.Nothing seen done block named [] near same =
    subst (λ (b : Bool). Same (cond b (Err (SecondComma k)) (Err (EmptyBlock k))) (Some (EmptyBlock k)) (record { at = k; sign = comma } ∷ [])) (sym same) refl
comma_same n k last.Nothing seen done block named (mark ∷ before) near same =
    let here : List Mark = record { at = k; sign = comma } ∷ mark ∷ before in
    subst (λ (b : Bool). Same (cond seen (Err (SecondComma k)) (Err (EmptyBlock k))) (comma_fault mark.sign mark.at b (has_item before) k) here) same
    (subst (λ x. Same (cond seen (Err (SecondComma k)) (Err (EmptyBlock k))) (comma_fault x mark.at seen (has_item before) k) here) (sym (comma_is mark.sign near))
    (same_test seen (SecondComma k) (Err (EmptyBlock k)) (Some (EmptyBlock k)) here refl))
comma_same n k (last.Dot d) seen done block named [] near same = absurd near
comma_same n k (last.Dot d) seen done block named (mark ∷ before) near same =
    let is : mark.sign ≡ dot = near.0 in
    let there : d ≡ mark.at = sym near.1 in
    subst (λ x. Same (Err (Dot d)) (comma_fault x mark.at (has_comma (mark ∷ before)) (has_item before) k) (record { at = k; sign = comma } ∷ mark ∷ before)) (sym is) (ap Dot there)
comma_same n k last.Cross seen done block named [] near same = absurd near
comma_same n k last.Cross seen done block named (mark ∷ before) near same =
    let here : List Mark = record { at = k; sign = comma } ∷ mark ∷ before in
    let s : State = at last.Cross seen done block named in
    subst (λ (b : Bool). Same (comma_after n last.Cross s k) (comma_fault mark.sign mark.at b (has_item before) k) here) same
    (subst (λ x. Same (comma_after n last.Cross s k) (comma_fault x mark.at seen (has_item before) k) here) (sym near)
    (same_test seen (SecondComma k) (Ok (ended n s)) None here (record { near = refl; seen = refl })))
comma_same n k last.Group seen done block named [] near same = absurd near
comma_same n k last.Group seen done block named (mark ∷ before) near same =
    let here : List Mark = record { at = k; sign = comma } ∷ mark ∷ before in
    let s : State = at last.Group seen done block named in
    subst (λ (b : Bool). Same (comma_after n last.Group s k) (comma_fault mark.sign mark.at b (has_item before) k) here) same
    (subst (λ x. Same (comma_after n last.Group s k) (comma_fault x mark.at seen (has_item before) k) here) (sym near)
    (same_test seen (SecondComma k) (Ok (ended n s)) None here (record { near = refl; seen = refl })))

step_same : (n k : ℕ) (s : State) (sign : Sign) (before : List Mark) → sign ≢ end_of_text → Agrees before s → Same (step n s k sign) (fault_at n before k sign) (record { at = k; sign = sign } ∷ before)
unfolding step cross_step place_step dot_step comma_step
step_same n k s cross before byte agrees =
    same_test (nat_eq (n % 2) 1) (CrossOnOdd k) (Ok (record s { block = closed n s ++ change_of n crossing ∷ []; named = []; last = last.Cross })) None (record { at = k; sign = cross } ∷ before) (record { near = refl; seen = agrees.seen })
step_same n k s (place p) before byte agrees =
    same_test (nat_lt n p) (Above k) (named_after s.last s k p) (place_fault k before p) (record { at = k; sign = place p } ∷ before) (place_same k p s.last s.comma_seen s.done s.block s.named before agrees.near agrees.seen)
step_same n k s dot before byte agrees = dot_same n k s.last s.comma_seen s.done s.block s.named before agrees.near agrees.seen
step_same n k s comma before byte agrees = comma_same n k s.last s.comma_seen s.done s.block s.named before agrees.near agrees.seen
step_same n k s other before byte agrees = refl
step_same n k s end_of_text before byte agrees = absurd (byte refl)

-- ---- the first fault of marks

abbrev pub or_else : Option NotationFault → Option NotationFault → Option NotationFault
or_else (Some f) later = Some f
or_else None later = later

abbrev pub scan : ℕ → List Mark → List Mark → Option NotationFault
scan n before [] = None
scan n before (mark ∷ marks) = or_else (fault_at n before mark.at mark.sign) (scan n (mark ∷ before) marks)

abbrev pub fault_of : {A : Type 0} → Result A NotationFault → Option NotationFault
fault_of (Ok x) = None
fault_of (Err f) = Some f

end_same : (n k : ℕ) (l : Last) (s : State) (named : List ℕ) (before : List Mark) → Near l named before → fault_of (end_after n l s k) ≡ fault_at n before k end_of_text
end_same n k last.Nothing s named [] near = refl
end_same n k last.Nothing s named (mark ∷ before) near = let is : mark.sign ≡ comma = comma_is mark.sign near in rw is refl
end_same n k (last.Dot d) s named [] near = absurd near
end_same n k (last.Dot d) s named (mark ∷ before) near = let is : mark.sign ≡ dot = near.0 in rw (is, near.1) refl
end_same n k last.Cross s named [] near = absurd near
end_same n k last.Cross s named (mark ∷ before) near = rw near refl
end_same n k last.Group s named [] near = absurd near
end_same n k last.Group s named (mark ∷ before) near = rw near refl

or_none : (o : Option NotationFault) → or_else o None ≡ o
or_none (Some f) = refl
or_none None = refl

same_then : (n : ℕ) (r : Result State NotationFault) (o : Option NotationFault) (here marks : List Mark) (next : State → Result (List Places) NotationFault) → Same r o here
    → ((after : State) → Agrees here after → fault_of (next after) ≡ scan n here marks) → fault_of (then_all r next) ≡ or_else o (scan n here marks)
same_then n (Ok after) None here marks next h rest = rest after h
same_then n (Ok after) (Some g) here marks next h rest = absurd h
same_then n (Err f) None here marks next h rest = absurd h
same_then n (Err f) (Some g) here marks next h rest = ap Some h

byte_scan : (n k : ℕ) (s : State) (blank : Bool) (sign : Sign) (before marks : List Mark) (next : State → Result (List Places) NotationFault) → sign ≢ end_of_text → Agrees before s
    → ((here : List Mark) (after : State) → Agrees here after → fault_of (next after) ≡ scan n here marks)
    → fault_of (then_all (cond blank (Ok s) (step n s k sign)) next) ≡ scan n before (cond blank marks (record { at = k; sign = sign } ∷ marks))
byte_scan n k s true sign before marks next byte agrees rest = rest before s agrees
byte_scan n k s false sign before marks next byte agrees rest =
    let here : List Mark = record { at = k; sign = sign } ∷ before in
    same_then n (step n s k sign) (fault_at n before k sign) here marks next (step_same n k s sign before byte agrees) (rest here)

pub read_scan : (n : ℕ) (bytes : List ℕ) (k : ℕ) (s : State) (before : List Mark) → Agrees before s → fault_of (read_from n s k bytes) ≡ scan n before (marks_from k bytes)
unfolding read_from byte_step end_step
read_scan n [] k s before agrees = end_same n k s.last s s.named before agrees.near ∙ sym (or_none (fault_at n before k end_of_text))
read_scan n (byte ∷ bytes) k s before agrees =
    byte_scan n k s (is_blank byte) (sign_of byte) before (marks_from (k + 1) bytes) (λ after. read_from n after (k + 1) bytes) (byte_not_end byte) agrees
    (λ here after now. read_scan n bytes (k + 1) after here now)
