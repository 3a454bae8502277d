-- Reading gives the changes that a text spells, and else its first fault.
use Rattle.std.proofs.Common.{◌≡◌, ℕ, ◌<◌, ◌≤◌, Bool, true, false, cond, List, [], ◌∷◌, ◌++◌, length, reverse, Option, Some, None, Result, Ok, Err, refl, sym, ap, subst, ◌∙◌, arith, append_assoc, ◌⊎◌, inl, inr}
use Rattle.std.specs.Prelude.{nat_lt}
use Rattle.std.proofs.lemmas.List.{append-nil, reverse-append}
use Rattle.std.proofs.lemmas.Bool.Decides.{nat_tests}
use Rattle.cr_row.specs.Rows.{Places}
use Rattle.cr_model.specs.declared.notation.NotationFault.{NotationFault}
use Rattle.cr_model.specs.declared.notation.NotationFault.TheVariants.{Long}
use Rattle.cr_model.specs.Notation.{Sign, signs_of, Item, changes_of_items, mirrored, IsBlock, StandsFor, Spells}
use Rattle.cr_model.specs.NotationFaults.{Mark, marks_of, fault_at, Faultless, FaultAt, FirstFault}
use Rattle.cr_notation.specs.Reading.{fresh, read_from, read_all, limited}
use Rattle.cr_notation.proofs.Sound.{Rest, sound}
use Rattle.cr_notation.proofs.Complete.{complete}
use Rattle.cr_notation.proofs.First.{or_else, scan, fault_of, Agrees, read_scan}

-- ---- the first fault of marks, as a place in them

reverse_cons : (mark : Mark) (front before : List Mark) → reverse (mark ∷ front) ++ before ≡ reverse front ++ mark ∷ before
reverse_cons mark front before = ap (λ marks. marks ++ before) (reverse-append (mark ∷ []) front) ∙ append_assoc (reverse front) (mark ∷ []) before

record Split (n : ℕ) (before marks : List Mark) (fault : NotationFault) : Type 0 where
  pub front : List Mark
  pub here : Mark
  pub rest : List Mark
  pub split : marks ≡ front ++ here ∷ rest
  pub faultless : Faultless n (reverse front ++ before)
  pub comes : fault_at n (reverse front ++ before) here.at here.sign ≡ Some fault

split_later : (n : ℕ) (before : List Mark) (mark : Mark) (marks : List Mark) (fault : NotationFault) → Split n (mark ∷ before) marks fault → Split n before (mark ∷ marks) fault
split_later n before mark marks fault s =
    let turned : reverse s.front ++ mark ∷ before ≡ reverse (mark ∷ s.front) ++ before = sym (reverse_cons mark s.front before) in
    record {
      front = mark ∷ s.front;
      here = s.here;
      rest = s.rest;
      split = ap (λ ms. mark ∷ ms) s.split;
      faultless = subst (Faultless n) turned s.faultless;
      comes = subst (λ ms. fault_at n ms s.here.at s.here.sign ≡ Some fault) turned s.comes;
    }

split_cases : (n : ℕ) (before : List Mark) (mark : Mark) (marks : List Mark) (fault : NotationFault) (o : Option NotationFault) → fault_at n before mark.at mark.sign ≡ o → Faultless n before
    → or_else o (scan n (mark ∷ before) marks) ≡ Some fault → (Faultless n (mark ∷ before) → scan n (mark ∷ before) marks ≡ Some fault → Split n (mark ∷ before) marks fault) → Split n before (mark ∷ marks) fault
split_cases n before mark marks fault (Some f) is fine e later = record { front = []; here = mark; rest = marks; split = refl; faultless = fine; comes = is ∙ e }
split_cases n before mark marks fault None is fine e later = split_later n before mark marks fault (later (is, fine) e)

scan_found : (n : ℕ) (marks before : List Mark) (fault : NotationFault) → Faultless n before → scan n before marks ≡ Some fault → Split n before marks fault
scan_found n [] before fault fine e = absurd cc
scan_found n (mark ∷ marks) before fault fine e = split_cases n before mark marks fault (fault_at n before mark.at mark.sign) refl fine e (λ now left. scan_found n marks (mark ∷ before) fault now left)

none_cases : (n : ℕ) (before : List Mark) (mark : Mark) (marks : List Mark) (o : Option NotationFault) → fault_at n before mark.at mark.sign ≡ o → Faultless n before
    → or_else o (scan n (mark ∷ before) marks) ≡ None → (Faultless n (mark ∷ before) → scan n (mark ∷ before) marks ≡ None → Faultless n (reverse marks ++ mark ∷ before)) → Faultless n (reverse (mark ∷ marks) ++ before)
none_cases n before mark marks (Some f) is fine e later = absurd cc
none_cases n before mark marks None is fine e later = subst (Faultless n) (sym (reverse_cons mark marks before)) (later (is, fine) e)

scan_none : (n : ℕ) (marks before : List Mark) → Faultless n before → scan n before marks ≡ None → Faultless n (reverse marks ++ before)
scan_none n [] before fine e = fine
scan_none n (mark ∷ marks) before fine e = none_cases n before mark marks (fault_at n before mark.at mark.sign) refl fine e (λ now left. scan_none n marks (mark ∷ before) now left)

faultless_back : (n : ℕ) (later before : List Mark) → Faultless n (later ++ before) → Faultless n before
faultless_back n [] before fine = fine
faultless_back n (mark ∷ later) before fine = faultless_back n later before fine.1

scan_at : (n : ℕ) (front : List Mark) (here : Mark) (rest before : List Mark) (fault : NotationFault) → Faultless n (reverse front ++ before) → fault_at n (reverse front ++ before) here.at here.sign ≡ Some fault → scan n before (front ++ here ∷ rest) ≡ Some fault
scan_at n [] here rest before fault fine comes = ap (λ o. or_else o (scan n (here ∷ before) rest)) comes
scan_at n (mark ∷ front) here rest before fault fine comes =
    let turned : reverse (mark ∷ front) ++ before ≡ reverse front ++ mark ∷ before = reverse_cons mark front before in
    let now : Faultless n (reverse front ++ mark ∷ before) = subst (Faultless n) turned fine in
    let first : fault_at n before mark.at mark.sign ≡ None = (faultless_back n (reverse front) (mark ∷ before) now).0 in
    ap (λ o. or_else o (scan n (mark ∷ before) (front ++ here ∷ rest))) first
    ∙ scan_at n front here rest (mark ∷ before) fault now (subst (λ ms. fault_at n ms here.at here.sign ≡ Some fault) turned comes)

-- ---- reading a whole text

at_first : Agrees [] fresh
at_first = record { near = refl; seen = refl }

fault_is : {A : Type 0} (r : Result A NotationFault) (f : NotationFault) → fault_of r ≡ Some f → r ≡ Err f
fault_is (Ok x) f e = absurd cc
fault_is (Err g) f e = let is : g ≡ f = cc in ap (λ x. Err x) is

read_fault : (n : ℕ) (text : List ℕ) (fault : NotationFault) → read_from n fresh 0 text ≡ Err fault → FaultAt n text fault
read_fault n text fault e =
    let s = scan_found n (marks_of text) [] fault tt (sym (read_scan n text 0 fresh [] at_first) ∙ ap fault_of e) in
    let end : reverse s.front ++ [] ≡ reverse s.front = append-nil (reverse s.front) in
    record { front = s.front; here = s.here; rest = s.rest; split = s.split; faultless = subst (Faultless n) end s.faultless; comes = subst (λ ms. fault_at n ms s.here.at s.here.sign ≡ Some fault) end s.comes }

fault_read : (n : ℕ) (text : List ℕ) (fault : NotationFault) → FaultAt n text fault → read_from n fresh 0 text ≡ Err fault
fault_read n text fault f =
    let end : reverse f.front ≡ reverse f.front ++ [] = sym (append-nil (reverse f.front)) in
    fault_is (read_from n fresh 0 text) fault (read_scan n text 0 fresh [] at_first ∙ ap (scan n []) f.split
    ∙ scan_at n f.front f.here f.rest [] fault (subst (Faultless n) end f.faultless) (subst (λ ms. fault_at n ms f.here.at f.here.sign ≡ Some fault) end f.comes))

read_faultless : (n : ℕ) (text : List ℕ) (changes : List Places) → read_from n fresh 0 text ≡ Ok changes → Faultless n (reverse (marks_of text))
read_faultless n text changes e =
    subst (Faultless n) (append-nil (reverse (marks_of text))) (scan_none n (marks_of text) [] tt (sym (read_scan n text 0 fresh [] at_first) ∙ ap fault_of e))

rest_stands : (n : ℕ) (text : List ℕ) (changes : List Places) → Rest n fresh (signs_of text) changes → StandsFor n text changes
rest_stands n text changes (inl one) = inl (one.items, one.continues, one.are)
rest_stands n text changes (inr two) = inr (two.first, two.second, two.left, two.right, two.continues, two.block, two.split, two.are)

stands_rest : (n : ℕ) (text : List ℕ) (changes : List Places) → StandsFor n text changes → Rest n fresh (signs_of text) changes
stands_rest n text changes (inl p) = inl (record { items = p.0; continues = p.1; are = p.2 })
stands_rest n text changes (inr p) = inr (record { unseen = refl; first = p.0; second = p.1; left = p.2; right = p.3; continues = p.4; block = p.5; split = p.6; are = p.7 })

stands_read : (n : ℕ) (text : List ℕ) (changes : List Places) → StandsFor n text changes → read_from n fresh 0 text ≡ Ok changes
stands_read n text changes h = complete n text 0 fresh changes tt (stands_rest n text changes h)

read_stands : (n : ℕ) (text : List ℕ) (changes : List Places) → read_from n fresh 0 text ≡ Ok changes → StandsFor n text changes
read_stands n text changes e = rest_stands n text changes (sound n text 0 fresh changes e tt)

-- a block has changes
some_items : (n : ℕ) (items : List Item) (signs : List Sign) (others : List Places) → IsBlock n items signs → 1 ≤ length (changes_of_items n items ++ others)
some_items n [] signs others b = absurd b
some_items n (item ∷ items) signs others b = omega arith

pub some_changes : (n : ℕ) (text : List ℕ) (changes : List Places) → StandsFor n text changes → 1 ≤ length changes
some_changes n text changes (inl p) = subst (λ all. 1 ≤ length all) (append-nil (changes_of_items n p.0) ∙ sym p.2) (some_items n p.0 (signs_of text) [] p.1)
some_changes n text changes (inr p) =
    let one = some_items n p.0 p.2 _ p.4 in
    subst (λ all. 1 ≤ length all) (sym (append_assoc (changes_of_items n p.0) _ (mirrored (changes_of_items n p.1))) ∙ sym p.7) one

-- ---- what reading answers

abbrev pub IsAnswer : ℕ → List ℕ → Result (List Places) NotationFault → Type 0
IsAnswer n text (Ok changes) = Spells n text changes
IsAnswer n text (Err fault) = FirstFault n text fault

few_or_long : (n : ℕ) (text : List ℕ) (changes : List Places) (b : Bool) → nat_lt 128 (length changes) ≡ b → read_from n fresh 0 text ≡ Ok changes → IsAnswer n text (cond b (Err (Long (length text))) (Ok changes))
few_or_long n text changes true h e = inr (record { faultless = read_faultless n text changes e; changes = changes; stands = read_stands n text changes e; many = grind (arith, nat_tests); is = refl })
few_or_long n text changes false h e = let stands = read_stands n text changes e in record { stands = stands; at_least = some_changes n text changes stands; at_most = grind (arith, nat_tests) }

answers : (n : ℕ) (text : List ℕ) (r : Result (List Places) NotationFault) → read_from n fresh 0 text ≡ r → IsAnswer n text (limited (length text) r)
answers n text (Ok changes) e = few_or_long n text changes (nat_lt 128 (length changes)) refl e
answers n text (Err fault) e = inl (read_fault n text fault e)

-- reading answers every text
pub read_answers : (n : ℕ) (text : List ℕ) → IsAnswer n text (read_all n text)
unfolding read_all
read_answers n text = answers n text (read_from n fresh 0 text) refl

-- what a text spells is read
pub spells_read : (n : ℕ) (text : List ℕ) (changes : List Places) → Spells n text changes → read_all n text ≡ Ok changes
unfolding read_all
spells_read n text changes h =
    let few : nat_lt 128 (length changes) ≡ false = (let most : length changes ≤ 128 = h.at_most in grind (arith, nat_tests)) in
    ap (limited (length text)) (stands_read n text changes h.stands) ∙ ap (λ b. cond b (Err (Long (length text))) (Ok changes)) few

-- and so is its first fault
pub first_read : (n : ℕ) (text : List ℕ) (fault : NotationFault) → FirstFault n text fault → read_all n text ≡ Err fault
unfolding read_all
first_read n text fault (inl f) = ap (limited (length text)) (fault_read n text fault f)
first_read n text fault (inr f) =
    let long : nat_lt 128 (length f.changes) ≡ true = (let many : 128 < length f.changes = f.many in grind (arith, nat_tests)) in
    ap (limited (length text)) (stands_read n text f.changes f.stands) ∙ ap (λ b. cond b (Err (Long (length text))) (Ok f.changes)) long ∙ ap (λ x. Err x) (sym f.is)

-- ---- exactly one answer

one_of : (n : ℕ) (text : List ℕ) (r : Result (List Places) NotationFault) → IsAnswer n text r → ((changes : List Places) × Spells n text changes) ⊎ ((fault : NotationFault) × FirstFault n text fault)
one_of n text (Ok changes) h = inl (changes, h)
one_of n text (Err fault) h = inr (fault, h)

pub some_answer : (n : ℕ) (text : List ℕ) → ((changes : List Places) × Spells n text changes) ⊎ ((fault : NotationFault) × FirstFault n text fault)
some_answer n text = one_of n text (read_all n text) (read_answers n text)

pub not_both : (n : ℕ) (text : List ℕ) (changes : List Places) (fault : NotationFault) → Spells n text changes → FirstFault n text fault → ⊥
not_both n text changes fault spells first =
    let a : read_all n text ≡ Ok changes = spells_read n text changes spells in
    let b : read_all n text ≡ Err fault = first_read n text fault first in
    cc

ok_same : {A : Type 0} (r : Result A NotationFault) (x y : A) → r ≡ Ok x → r ≡ Ok y → x ≡ y
ok_same r x y a b = cc

err_same : {A : Type 0} (r : Result A NotationFault) (f g : NotationFault) → r ≡ Err f → r ≡ Err g → f ≡ g
err_same r f g a b = cc

pub same_changes : (n : ℕ) (text : List ℕ) (one other : List Places) → Spells n text one → Spells n text other → one ≡ other
same_changes n text one other a b = ok_same (read_all n text) one other (spells_read n text one a) (spells_read n text other b)

pub same_fault : (n : ℕ) (text : List ℕ) (one other : NotationFault) → FirstFault n text one → FirstFault n text other → one ≡ other
same_fault n text one other a b = err_same (read_all n text) one other (first_read n text one a) (first_read n text other b)
