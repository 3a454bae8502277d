-- What is read stands for its changes by the grammar.
use Rattle.std.proofs.Common.{◌≡◌, ◌≢◌, ℕ, ◌+◌, ◌-◌, ◌%◌, ◌≤◌, Bool, true, false, cond, List, [], ◌∷◌, ◌++◌, Result, Ok, Err, map, refl, sym, ap, subst, ◌∙◌, append_assoc, ◌⊎◌, inl, inr}
use Rattle.std.specs.Prelude.{nat_eq, nat_lt, nat_le}
use Rattle.std.proofs.lemmas.List.{append-nil}
use Rattle.cr_row.specs.Rows.{Places}
use Rattle.cr_model.specs.declared.notation.NotationFault.{NotationFault}
use Rattle.cr_model.specs.declared.notation.NotationFault.TheVariants.{Above, Order, Gap, CrossOnOdd, EmptyBlock, SecondComma}
use Rattle.cr_model.specs.Notation.{Sign, cross, place, dot, comma, other, end_of_text, is_blank, sign_of, signs_of, Item, group, crossing, last_named, change_of, changes_of_items, mirrored, IsNamed, Follow, IsBlock}
use Rattle.cr_notation.specs.declared.reader.Last.{Last}
use Rattle.cr_notation.specs.declared.reader.Last.TheVariants as last
use Rattle.cr_notation.specs.Reading.{State, closed_by, closed, first_named, named_after, place_step, cross_step, dot_after, dot_step, ended, comma_after, comma_step, whole, end_after, end_step, step, byte_step, then_all, read_from, IsOpenBy, IsOpen}
use Rattle.cr_notation.proofs.Named.{even_from, at_most_from, next_from, named_more}

-- a test that did not fail
pub guard_ok : {A : Type 0} (b : Bool) (f : NotationFault) (x : Result A NotationFault) (y : A) → cond b (Err f) x ≡ Ok y → (b ≡ false) × (x ≡ Ok y)
guard_ok true f x y e = absurd cc
guard_ok false f x y e = (refl, e)

pub ok_is : {A : Type 0} (x y : A) (r : Result A NotationFault) → r ≡ Ok x → r ≡ Ok y → x ≡ y
ok_is x y r a b = cc

pub step_ok : (r : Result State NotationFault) (next : State → Result (List Places) NotationFault) (changes : List Places) → then_all r next ≡ Ok changes → (after : State) × (r ≡ Ok after) × (next after ≡ Ok changes)
step_ok (Ok after) next changes e = (after, refl, e)
step_ok (Err f) next changes e = absurd cc

-- the signs that are left in a group that is was
pub record InGroup (n : ℕ) (named : List ℕ) (part : List Sign) (items : List Item) : Type 0 where
  pub more : List ℕ
  pub others : List Item
  pub tail : List Sign
  pub items_are : items ≡ group (named ++ more) ∷ others
  pub rules : IsNamed n (named ++ more)
  pub follow : Follow n (group (named ++ more)) others tail
  pub part_is : part ≡ map place more ++ tail

-- what is left of a block are these items, with the group that is was
abbrev pub Continues : ℕ → Last → List ℕ → List Sign → List Item → Type 0
Continues n last.Nothing named part items = IsBlock n items part
Continues n (last.Dot d) named part items = IsBlock n items part
Continues n last.Cross named part items = Follow n crossing items part
Continues n last.Group named part items = InGroup n named part items

-- a step seen from behind: the sign before what is left
pub record Back (n : ℕ) (s after : State) (sign : Sign) : Type 0 where
  pub same_done : after.done ≡ s.done
  pub same_comma : after.comma_seen ≡ s.comma_seen
  pub opened : IsOpen n after
  pub back : (part : List Sign) (items : List Item) → Continues n after.last after.named part items → (all : List Item) × Continues n s.last s.named (sign ∷ part) all × (after.block ++ changes_of_items n items ≡ s.block ++ changes_of_items n all)

abbrev crossed : ℕ → State → State
crossed n s = record s { block = closed_by n s.last s.named s.block ++ change_of n crossing ∷ []; named = []; last = last.Cross }

cross_back : (n : ℕ) (l : Last) (seen : Bool) (done block : List Places) (named : List ℕ) → n % 2 ≡ 0 → IsOpenBy n l named
    → let s : State = record { comma_seen = seen; done = done; block = block; named = named; last = l } in Back n s (crossed n s) cross
cross_back n last.Nothing seen done block named even was = record {
  same_done = refl;
  same_comma = refl;
  opened = tt;
  back = λ part items follow. (crossing ∷ items, (part, even, follow, refl), append_assoc block (change_of n crossing ∷ []) (changes_of_items n items));
}
cross_back n (last.Dot d) seen done block named even was = record {
  same_done = refl;
  same_comma = refl;
  opened = tt;
  back = λ part items follow. (crossing ∷ items, (part, even, follow, refl), append_assoc block (change_of n crossing ∷ []) (changes_of_items n items));
}
cross_back n last.Cross seen done block named even was = record {
  same_done = refl;
  same_comma = refl;
  opened = tt;
  back = λ part items follow. (crossing ∷ items, ([], part, inr (refl, refl), even, follow, refl), append_assoc block (change_of n crossing ∷ []) (changes_of_items n items));
}
cross_back n last.Group seen done block named even was = record {
  same_done = refl;
  same_comma = refl;
  opened = tt;
  back = λ part items follow. (
    group named ∷ crossing ∷ items,
    record {
      more = [];
      others = crossing ∷ items;
      tail = cross ∷ part;
      items_are = ap (λ ps. group ps ∷ crossing ∷ items) (sym (append-nil named));
      rules = subst (IsNamed n) (sym (append-nil named)) was;
      follow = ([], part, inr (refl, refl), even, follow, refl);
      part_is = refl;
    },
    append_assoc (block ++ change_of n (group named) ∷ []) (change_of n crossing ∷ []) (changes_of_items n items) ∙ append_assoc block (change_of n (group named) ∷ []) (change_of n crossing ∷ changes_of_items n items),
  );
}

-- items that follow a place that starts a group
group_block : (n p : ℕ) (part : List Sign) (items : List Item) → InGroup n (p ∷ []) part items → IsBlock n items (place p ∷ part)
group_block n p part items g = subst (λ all. IsBlock n all (place p ∷ part)) (sym g.items_are) (g.tail, g.rules, g.follow, ap (λ signs. place p ∷ signs) g.part_is)

group_follow : (n p : ℕ) (part : List Sign) (items : List Item) → InGroup n (p ∷ []) part items → Follow n crossing items (place p ∷ part)
group_follow n p part items g = subst (λ all. Follow n crossing all (place p ∷ part)) (sym g.items_are) ([], g.tail, inr (refl, refl), g.rules, g.follow, ap (λ signs. place p ∷ signs) g.part_is)

group_more : (n : ℕ) (named : List ℕ) (p : ℕ) (part : List Sign) (items : List Item) → InGroup n (named ++ p ∷ []) part items → InGroup n named (place p ∷ part) items
group_more n named p part items g =
    let joined : (named ++ p ∷ []) ++ g.more ≡ named ++ p ∷ g.more = append_assoc named (p ∷ []) g.more in
    record {
      more = p ∷ g.more;
      others = g.others;
      tail = g.tail;
      items_are = g.items_are ∙ ap (λ ps. group ps ∷ g.others) joined;
      rules = subst (IsNamed n) joined g.rules;
      follow = subst (λ ps. Follow n (group ps) g.others g.tail) joined g.follow;
      part_is = ap (λ signs. place p ∷ signs) g.part_is;
    }

place_back : (n k p : ℕ) (l : Last) (seen : Bool) (done block : List Places) (named : List ℕ) (after : State) → p ≤ n → IsOpenBy n l named
    → let s : State = record { comma_seen = seen; done = done; block = block; named = named; last = l } in named_after l s k p ≡ Ok after → Back n s after (place p)
place_back n k p last.Nothing seen done block named after low was e =
    let s : State = record { comma_seen = seen; done = done; block = block; named = named; last = last.Nothing } in
    subst (λ t. Back n s t (place p)) (ok_is (first_named s p) after _ refl e) (record { same_done = refl; same_comma = refl; opened = low; back = λ part items g. (items, group_block n p part items g, refl) })
place_back n k p (last.Dot d) seen done block named after low was e =
    let s : State = record { comma_seen = seen; done = done; block = block; named = named; last = last.Dot d } in
    subst (λ t. Back n s t (place p)) (ok_is (first_named s p) after _ refl e) (record { same_done = refl; same_comma = refl; opened = low; back = λ part items g. (items, group_block n p part items g, refl) })
place_back n k p last.Cross seen done block named after low was e =
    let s : State = record { comma_seen = seen; done = done; block = block; named = named; last = last.Cross } in
    subst (λ t. Back n s t (place p)) (ok_is (first_named s p) after _ refl e) (record { same_done = refl; same_comma = refl; opened = low; back = λ part items g. (items, group_follow n p part items g, refl) })
place_back n k p last.Group seen done block named after low was e =
    let s : State = record { comma_seen = seen; done = done; block = block; named = named; last = last.Group } in
    let t : State = record s { named = named ++ p ∷ [] } in
    let a = guard_ok (nat_le p (last_named named)) (Order k) (cond (nat_eq ((p - last_named named - 1) % 2) 1) (Err (Gap k)) (Ok t)) after e in
    let b = guard_ok (nat_eq ((p - last_named named - 1) % 2) 1) (Gap k) (Ok t) after a.1 in
    subst (λ t. Back n s t (place p)) (ok_is t after _ refl b.1) (record {
      same_done = refl;
      same_comma = refl;
      opened = named_more n named p was low (next_from (last_named named) p a.0 b.0);
      back = λ part items g. (items, group_more n named p part items g, refl);
    })

-- a block behind a dot
dot_follow : (n : ℕ) (item : Item) (part : List Sign) (items : List Item) → IsBlock n items part → Follow n item items (dot ∷ part)
dot_follow n item part [] b = absurd b
dot_follow n item part (next ∷ items) b = (dot ∷ [], b.0, inl refl, b.1, b.2, ap (λ signs. dot ∷ signs) b.3)

dot_back : (n k : ℕ) (l : Last) (seen : Bool) (done block : List Places) (named : List ℕ) (after : State) → IsOpenBy n l named
    → let s : State = record { comma_seen = seen; done = done; block = block; named = named; last = l } in dot_after n l s k ≡ Ok after → Back n s after dot
unfolding closed
dot_back n k last.Nothing seen done block named after was e = absurd cc
dot_back n k (last.Dot d) seen done block named after was e = absurd cc
dot_back n k last.Cross seen done block named after was e =
    let s : State = record { comma_seen = seen; done = done; block = block; named = named; last = last.Cross } in
    subst (λ t. Back n s t dot) (ok_is (record s { block = block; named = []; last = last.Dot k }) after _ refl e) (record {
      same_done = refl;
      same_comma = refl;
      opened = tt;
      back = λ part items b. (items, dot_follow n crossing part items b, refl);
    })
dot_back n k last.Group seen done block named after was e =
    let s : State = record { comma_seen = seen; done = done; block = block; named = named; last = last.Group } in
    subst (λ t. Back n s t dot) (ok_is (record s { block = block ++ change_of n (group named) ∷ []; named = []; last = last.Dot k }) after _ refl e) (record {
      same_done = refl;
      same_comma = refl;
      opened = tt;
      back = λ part items b. (
        group named ∷ items,
        record {
          more = [];
          others = items;
          tail = dot ∷ part;
          items_are = ap (λ ps. group ps ∷ items) (sym (append-nil named));
          rules = subst (IsNamed n) (sym (append-nil named)) was;
          follow = dot_follow n (group (named ++ [])) part items b;
          part_is = refl;
        },
        append_assoc block (change_of n (group named) ∷ []) (changes_of_items n items),
      );
    })

-- each step but a comma's
pub step_back : (n k : ℕ) (s after : State) (sign : Sign) → step n s k sign ≡ Ok after → sign ≢ comma → IsOpen n s → Back n s after sign
unfolding step cross_step place_step dot_step closed
step_back n k s after cross e other-than was =
    let a = guard_ok (nat_eq (n % 2) 1) (CrossOnOdd k) (Ok (crossed n s)) after e in
    subst (λ t. Back n s t cross) (ok_is (crossed n s) after _ refl a.1) (cross_back n s.last s.comma_seen s.done s.block s.named (even_from n a.0) was)
step_back n k s after (place p) e other-than was =
    let a = guard_ok (nat_lt n p) (Above k) (named_after s.last s k p) after e in
    place_back n k p s.last s.comma_seen s.done s.block s.named after (at_most_from n p a.0) was a.1
step_back n k s after dot e other-than was = dot_back n k s.last s.comma_seen s.done s.block s.named after was e
step_back n k s after comma e other-than was = absurd (other-than refl)
step_back n k s after other e other-than was = absurd cc
step_back n k s after end_of_text e other-than was = absurd cc

-- ---- the whole

-- the changes of what ends without a comma
abbrev pub total : Bool → List Places → List Places → List Places
total seen done block = cond seen (done ++ mirrored block) block

pub record One (n : ℕ) (s : State) (signs : List Sign) (changes : List Places) : Type 0 where
  pub items : List Item
  pub continues : Continues n s.last s.named signs items
  pub are : changes ≡ total s.comma_seen s.done (s.block ++ changes_of_items n items)

pub record Two (n : ℕ) (s : State) (signs : List Sign) (changes : List Places) : Type 0 where
  pub unseen : s.comma_seen ≡ false
  pub first : List Item
  pub second : List Item
  pub left : List Sign
  pub right : List Sign
  pub continues : Continues n s.last s.named left first
  pub block : IsBlock n second right
  pub split : signs ≡ left ++ comma ∷ right
  pub are : changes ≡ (s.done ++ mirrored (s.block ++ changes_of_items n first)) ++ mirrored (changes_of_items n second)

abbrev pub Rest : ℕ → State → List Sign → List Places → Type 0
Rest n s signs changes = One n s signs changes ⊎ Two n s signs changes

one_back : (n : ℕ) (s after : State) (sign : Sign) (signs : List Sign) (changes : List Places) → Back n s after sign → One n after signs changes → One n s (sign ∷ signs) changes
one_back n s after sign signs changes b one =
    let found = b.back signs one.items one.continues in
    record {
      items = found.0;
      continues = found.1;
      are = one.are ∙ ap (λ block. total after.comma_seen after.done block) found.2 ∙ ap (λ seen. total seen after.done (s.block ++ changes_of_items n found.0)) b.same_comma ∙ ap (λ done. total s.comma_seen done (s.block ++ changes_of_items n found.0)) b.same_done;
    }

two_back : (n : ℕ) (s after : State) (sign : Sign) (signs : List Sign) (changes : List Places) → Back n s after sign → Two n after signs changes → Two n s (sign ∷ signs) changes
two_back n s after sign signs changes b two =
    let found = b.back two.left two.first two.continues in
    record {
      unseen = sym b.same_comma ∙ two.unseen;
      first = found.0;
      second = two.second;
      left = sign ∷ two.left;
      right = two.right;
      continues = found.1;
      block = two.block;
      split = ap (λ rest. sign ∷ rest) two.split;
      are = two.are ∙ ap (λ block. (after.done ++ mirrored block) ++ mirrored (changes_of_items n two.second)) found.2 ∙ ap (λ done. (done ++ mirrored (s.block ++ changes_of_items n found.0)) ++ mirrored (changes_of_items n two.second)) b.same_done;
    }

pub rest_back : (n : ℕ) (s after : State) (sign : Sign) (signs : List Sign) (changes : List Places) → Back n s after sign → Rest n after signs changes → Rest n s (sign ∷ signs) changes
rest_back n s after sign signs changes b (inl one) = inl (one_back n s after sign signs changes b one)
rest_back n s after sign signs changes b (inr two) = inr (two_back n s after sign signs changes b two)

-- where a block may end, its last item is a cross, or the group that is open
abbrev pub Closes : Last → Type 0
Closes last.Nothing = ⊥
Closes (last.Dot d) = ⊥
Closes last.Cross = Unit {0}
Closes last.Group = Unit {0}

pub closing : (n : ℕ) (l : Last) (named : List ℕ) (block : List Places) → Closes l → IsOpenBy n l named → (items : List Item) × Continues n l named [] items × (closed_by n l named block ≡ block ++ changes_of_items n items)
closing n last.Nothing named block c was = absurd c
closing n (last.Dot d) named block c was = absurd c
closing n last.Cross named block c was = ([], refl, sym (append-nil block))
closing n last.Group named block c was = (
  group named ∷ [],
  record { more = []; others = []; tail = []; items_are = ap (λ ps. group ps ∷ []) (sym (append-nil named)); rules = subst (IsNamed n) (sym (append-nil named)) was; follow = refl; part_is = refl },
  refl,
)

comma_closes : (n k : ℕ) (l : Last) (s after : State) → comma_after n l s k ≡ Ok after → Closes l × (s.comma_seen ≡ false) × (ended n s ≡ after)
comma_closes n k last.Nothing s after e =
    let a = guard_ok s.comma_seen (SecondComma k) (Err (EmptyBlock k)) after e in absurd (cc a.1)
comma_closes n k (last.Dot d) s after e = absurd cc
comma_closes n k last.Cross s after e =
    let a = guard_ok s.comma_seen (SecondComma k) (Ok (ended n s)) after e in (tt, a.0, ok_is (ended n s) after _ refl a.1)
comma_closes n k last.Group s after e =
    let a = guard_ok s.comma_seen (SecondComma k) (Ok (ended n s)) after e in (tt, a.0, ok_is (ended n s) after _ refl a.1)

after_comma : (n : ℕ) (s : State) (signs : List Sign) (changes : List Places) → Closes s.last → IsOpen n s → s.comma_seen ≡ false → Rest n (ended n s) signs changes → Rest n s (comma ∷ signs) changes
unfolding closed
after_comma n s signs changes c was unseen (inr two) = absurd (cc two.unseen)
after_comma n s signs changes c was unseen (inl one) =
    let ends = closing n s.last s.named s.block c was in
    inr (record {
      unseen = unseen;
      first = ends.0;
      second = one.items;
      left = [];
      right = signs;
      continues = ends.1;
      block = one.continues;
      split = refl;
      are = one.are ∙ ap (λ block. (s.done ++ mirrored block) ++ mirrored (changes_of_items n one.items)) ends.2;
    })

comma_rest : (n k : ℕ) (s after : State) (signs : List Sign) (changes : List Places) → comma_step n s k ≡ Ok after → IsOpen n s → (IsOpen n after → Rest n after signs changes) → Rest n s (comma ∷ signs) changes
unfolding comma_step
comma_rest n k s after signs changes e was rest =
    let a = comma_closes n k s.last s after e in
    after_comma n s signs changes a.0 was a.1 (subst (λ t. Rest n t signs changes) (sym a.2) (rest (subst (IsOpen n) a.2 tt)))

sign_rest : (n k : ℕ) (s after : State) (sign : Sign) (signs : List Sign) (changes : List Places) → step n s k sign ≡ Ok after → IsOpen n s → (IsOpen n after → Rest n after signs changes) → Rest n s (sign ∷ signs) changes
unfolding step
sign_rest n k s after comma signs changes e was rest = comma_rest n k s after signs changes e was rest
sign_rest n k s after cross signs changes e was rest = let b = step_back n k s after cross e (λ h. absurd cc) was in rest_back n s after cross signs changes b (rest b.opened)
sign_rest n k s after (place p) signs changes e was rest = let b = step_back n k s after (place p) e (λ h. absurd cc) was in rest_back n s after (place p) signs changes b (rest b.opened)
sign_rest n k s after dot signs changes e was rest = let b = step_back n k s after dot e (λ h. absurd cc) was in rest_back n s after dot signs changes b (rest b.opened)
sign_rest n k s after other signs changes e was rest = absurd cc
sign_rest n k s after end_of_text signs changes e was rest = absurd cc

byte_rest : (n k : ℕ) (s after : State) (blank : Bool) (sign : Sign) (signs : List Sign) (changes : List Places) → cond blank (Ok s) (step n s k sign) ≡ Ok after → IsOpen n s → (IsOpen n after → Rest n after signs changes) → Rest n s (cond blank signs (sign ∷ signs)) changes
byte_rest n k s after true sign signs changes e was rest =
    let same : s ≡ after = ok_is s after _ refl e in
    subst (λ t. Rest n t signs changes) (sym same) (rest (subst (IsOpen n) same was))
byte_rest n k s after false sign signs changes e was rest = sign_rest n k s after sign signs changes e was rest

end_rest : (n k : ℕ) (l : Last) (s : State) (changes : List Places) → end_after n l s k ≡ Ok changes → Closes l × (whole n s ≡ changes)
end_rest n k last.Nothing s changes e = absurd cc
end_rest n k (last.Dot d) s changes e = absurd cc
end_rest n k last.Cross s changes e = (tt, ok_is (whole n s) changes _ refl e)
end_rest n k last.Group s changes e = (tt, ok_is (whole n s) changes _ refl e)

pub sound : (n : ℕ) (bytes : List ℕ) (k : ℕ) (s : State) (changes : List Places) → read_from n s k bytes ≡ Ok changes → IsOpen n s → Rest n s (signs_of bytes) changes
unfolding read_from byte_step end_step closed
sound n [] k s changes e was =
    let a = end_rest n k s.last s changes e in
    let ends = closing n s.last s.named s.block a.0 was in
    inl (record { items = ends.0; continues = ends.1; are = sym a.1 ∙ ap (λ block. total s.comma_seen s.done block) ends.2 })
sound n (byte ∷ bytes) k s changes e was =
    let a = step_ok (byte_step n s k byte) (λ after. read_from n after (k + 1) bytes) changes e in
    byte_rest n k s a.0 (is_blank byte) (sign_of byte) (signs_of bytes) changes a.1 was (λ opened. sound n bytes (k + 1) a.0 changes a.2 opened)
