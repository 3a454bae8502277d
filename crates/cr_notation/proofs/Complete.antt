-- What stands for changes by the grammar is read, with these changes.
use Rattle.std.proofs.Common.{◌≡◌, ℕ, ◌+◌, ◌%◌, ◌≤◌, Bool, true, false, cond, List, [], ◌∷◌, ◌++◌, Result, Ok, Err, map, refl, sym, ap, subst, ◌∙◌, append_assoc, inl, inr}
use Rattle.std.proofs.lemmas.List.{append-nil}
use Rattle.cr_row.specs.Rows.{Places, IsNext}
use Rattle.cr_model.specs.declared.notation.NotationFault.{NotationFault}
use Rattle.cr_model.specs.declared.notation.NotationFault.TheVariants.{Above, CrossOnOdd, SecondComma}
use Rattle.cr_model.specs.Notation.{Sign, cross, place, dot, comma, is_blank, sign_of, signs_of, Item, group, crossing, is_crossing, item_signs, last_named, change_of, changes_of_items, mirrored, IsNamed, IsItem, IsBetween, Follow, IsBlock}
use Rattle.cr_notation.specs.declared.reader.Last.{Last}
use Rattle.cr_notation.specs.declared.reader.Last.TheVariants as last
use Rattle.cr_notation.specs.Reading.{State, closed_by, closed, first_named, named_after, place_step, cross_step, dot_step, ended, comma_after, comma_step, whole, end_after, end_step, step, byte_step, then_all, read_from, IsOpenBy, IsOpen}
use Rattle.cr_notation.proofs.Named.{even_test, at_most_test, above_test, gap_test, named_next, named_at_most, named_front}
use Rattle.cr_notation.proofs.Sound.{InGroup, Continues, total, One, Rest, Closes}

-- a step, and what is left behind it
pub record Forth (n k : ℕ) (s : State) (sign : Sign) (part : List Sign) (items : List Item) : Type 0 where
  pub after : State
  pub steps : step n s k sign ≡ Ok after
  pub same_done : after.done ≡ s.done
  pub same_comma : after.comma_seen ≡ s.comma_seen
  pub opened : IsOpen n after
  pub others : List Item
  pub continues : Continues n after.last after.named part others
  pub joined : after.block ++ changes_of_items n others ≡ s.block ++ changes_of_items n items

-- a cross comes
pub cross_steps : (n k : ℕ) (s : State) → n % 2 ≡ 0 → step n s k cross ≡ Ok (record s { block = closed_by n s.last s.named s.block ++ change_of n crossing ∷ []; named = []; last = last.Cross })
unfolding step cross_step closed
cross_steps n k s even = ap (λ b. cond b (Err (CrossOnOdd k)) (Ok (record s { block = closed_by n s.last s.named s.block ++ change_of n crossing ∷ []; named = []; last = last.Cross }))) (even_test n even)

-- no group is open
abbrev pub IsShut : Last → Type 0
IsShut last.Group = ⊥
IsShut _ = Unit {0}

shut_closed : (n : ℕ) (l : Last) (named : List ℕ) (block : List Places) → IsShut l → closed_by n l named block ≡ block
shut_closed n last.Nothing named block h = refl
shut_closed n (last.Dot d) named block h = refl
shut_closed n last.Cross named block h = refl
shut_closed n last.Group named block h = absurd h

shut_named : (l : Last) (s : State) (k p : ℕ) → IsShut l → named_after l s k p ≡ Ok (first_named s p)
shut_named last.Nothing s k p h = refl
shut_named (last.Dot d) s k p h = refl
shut_named last.Cross s k p h = refl
shut_named last.Group s k p h = absurd h

place_steps : (n k p : ℕ) (s : State) (r : Result State NotationFault) → p ≤ n → named_after s.last s k p ≡ r → step n s k (place p) ≡ r
unfolding step place_step
place_steps n k p s r low e = ap (λ b. cond b (Err (Above k)) (named_after s.last s k p)) (at_most_test n p low) ∙ e

-- the first sign of an item, where no group is open
item_forth : (n k : ℕ) (s : State) (item : Item) (items : List Item) (sign : Sign) (part rest : List Sign) → IsShut s.last → IsItem n item → Follow n item items rest → sign ∷ part ≡ item_signs item ++ rest → Forth n k s sign part (item ∷ items)
item_forth n k s crossing items sign part rest shut even follow e =
    let is : cross ≡ sign = cc in
    let left : rest ≡ part = cc in
    subst (λ x. Forth n k s x part (crossing ∷ items)) is (record {
      after = record s { block = closed_by n s.last s.named s.block ++ change_of n crossing ∷ []; named = []; last = last.Cross };
      steps = cross_steps n k s even;
      same_done = refl;
      same_comma = refl;
      opened = tt;
      others = items;
      continues = subst (Follow n crossing items) left follow;
      joined = ap (λ block. (block ++ change_of n crossing ∷ []) ++ changes_of_items n items) (shut_closed n s.last s.named s.block shut) ∙ append_assoc s.block (change_of n crossing ∷ []) (changes_of_items n items);
    })
item_forth n k s (group []) items sign part rest shut rules follow e = absurd rules
item_forth n k s (group (p ∷ ps)) items sign part rest shut rules follow e =
    let is : place p ≡ sign = cc in
    let left : part ≡ map place ps ++ rest = cc in
    let low : p ≤ n = named_at_most n [] p ps rules in
    subst (λ x. Forth n k s x part (group (p ∷ ps) ∷ items)) is (record {
      after = first_named s p;
      steps = place_steps n k p s (Ok (first_named s p)) low (shut_named s.last s k p shut);
      same_done = refl;
      same_comma = refl;
      opened = low;
      others = group (p ∷ ps) ∷ items;
      continues = record { more = ps; others = items; tail = rest; items_are = refl; rules = rules; follow = follow; part_is = left };
      joined = refl;
    })

block_forth : (n k : ℕ) (s : State) (items : List Item) (sign : Sign) (part : List Sign) → IsShut s.last → IsBlock n items (sign ∷ part) → Forth n k s sign part items
block_forth n k s [] sign part shut b = absurd b
block_forth n k s (item ∷ items) sign part shut b = item_forth n k s item items sign part b.0 shut b.1 b.2 b.3

-- the rest of a block is a block behind its dot
follow_block : (n : ℕ) (next : Item) (items : List Item) (part rest : List Sign) → IsItem n next → Follow n next items rest → part ≡ item_signs next ++ rest → IsBlock n (next ∷ items) part
follow_block n next items part rest ok follow e = (rest, ok, follow, e)

abbrev at : Last → Bool → List Places → List Places → List ℕ → State
at l seen done block named = record { comma_seen = seen; done = done; block = block; named = named; last = l }

cross_forth : (n k : ℕ) (seen : Bool) (done block : List Places) (named : List ℕ) (items : List Item) (sign : Sign) (part : List Sign) → Follow n crossing items (sign ∷ part)
    → Forth n k (record { comma_seen = seen; done = done; block = block; named = named; last = last.Cross }) sign part items
unfolding step dot_step closed
cross_forth n k seen done block named [] sign part f = absurd cc
cross_forth n k seen done block named (next ∷ items) sign part f = between f.0 f.1 f.2 f.3 f.4 f.5
  where
    between : (gap rest : List Sign) → IsBetween crossing next gap → IsItem n next → Follow n next items rest → sign ∷ part ≡ gap ++ (item_signs next ++ rest) → Forth n k (at last.Cross seen done block named) sign part (next ∷ items)
    between gap rest (inl is) ok follow e =
        let whole : sign ∷ part ≡ dot ∷ (item_signs next ++ rest) = subst (λ g. sign ∷ part ≡ g ++ (item_signs next ++ rest)) is e in
        let this : dot ≡ sign = cc in
        let left : part ≡ item_signs next ++ rest = cc in
        subst (λ x. Forth n k (at last.Cross seen done block named) x part (next ∷ items)) this (record {
          after = record (at last.Cross seen done block named) { block = block; named = []; last = last.Dot k };
          steps = refl;
          same_done = refl;
          same_comma = refl;
          opened = tt;
          others = next ∷ items;
          continues = (rest, ok, follow, left);
          joined = refl;
        })
    between gap rest (inr h) ok follow e =
        item_forth n k (at last.Cross seen done block named) next items sign part rest tt ok follow (subst (λ g. sign ∷ part ≡ g ++ (item_signs next ++ rest)) h.0 e)

group_forth : (n k : ℕ) (seen : Bool) (done block : List Places) (named : List ℕ) (items : List Item) (sign : Sign) (part : List Sign) → IsNamed n named → InGroup n named (sign ∷ part) items
    → Forth n k (record { comma_seen = seen; done = done; block = block; named = named; last = last.Group }) sign part items
unfolding step dot_step closed
group_forth n k seen done block named items sign part was g =
    subst (Forth n k (at last.Group seen done block named) sign part) (sym g.items_are) (goes g.more g.others g.tail g.rules g.follow g.part_is)
  where
    dot_shuts : (next : Item) (others : List Item) (rest : List Sign) → IsItem n next → Follow n next others rest → sign ∷ part ≡ dot ∷ (item_signs next ++ rest) → Forth n k (at last.Group seen done block named) sign part (group named ∷ next ∷ others)
    dot_shuts next others rest ok follow e =
        let this : dot ≡ sign = cc in
        let left : part ≡ item_signs next ++ rest = cc in
        subst (λ x. Forth n k (at last.Group seen done block named) x part (group named ∷ next ∷ others)) this (record {
          after = record (at last.Group seen done block named) { block = block ++ change_of n (group named) ∷ []; named = []; last = last.Dot k };
          steps = refl;
          same_done = refl;
          same_comma = refl;
          opened = tt;
          others = next ∷ others;
          continues = (rest, ok, follow, left);
          joined = append_assoc block (change_of n (group named) ∷ []) (changes_of_items n (next ∷ others));
        })

    cross_shuts : (next : Item) (others : List Item) (rest : List Sign) → is_crossing next ≡ true → IsItem n next → Follow n next others rest → sign ∷ part ≡ item_signs next ++ rest → Forth n k (at last.Group seen done block named) sign part (group named ∷ next ∷ others)
    cross_shuts crossing others rest h even follow e =
        let this : cross ≡ sign = cc in
        let left : rest ≡ part = cc in
        subst (λ x. Forth n k (at last.Group seen done block named) x part (group named ∷ crossing ∷ others)) this (record {
          after = record (at last.Group seen done block named) { block = (block ++ change_of n (group named) ∷ []) ++ change_of n crossing ∷ []; named = []; last = last.Cross };
          steps = cross_steps n k (at last.Group seen done block named) even;
          same_done = refl;
          same_comma = refl;
          opened = tt;
          others = others;
          continues = subst (Follow n crossing others) left follow;
          joined = append_assoc (block ++ change_of n (group named) ∷ []) (change_of n crossing ∷ []) (changes_of_items n others) ∙ append_assoc block (change_of n (group named) ∷ []) (change_of n crossing ∷ changes_of_items n others);
        })
    cross_shuts (group ps) others rest h ok follow e = absurd cc

    shuts : (others : List Item) → Follow n (group named) others (sign ∷ part) → Forth n k (at last.Group seen done block named) sign part (group named ∷ others)
    shuts [] follow = absurd cc
    shuts (next ∷ others) follow =
        elim (follow.2) [
          | inl is ↦ dot_shuts next others follow.1 follow.3 follow.4 (subst (λ g. sign ∷ part ≡ g ++ (item_signs next ++ follow.1)) is follow.5)
          | inr h ↦ cross_shuts next others follow.1 h.1 follow.3 follow.4 (subst (λ g. sign ∷ part ≡ g ++ (item_signs next ++ follow.1)) h.0 follow.5)
        ]

    more_steps : (p : ℕ) (more : List ℕ) → IsNamed n (named ++ p ∷ more) → step n (at last.Group seen done block named) k (place p) ≡ Ok (record (at last.Group seen done block named) { named = named ++ p ∷ [] })
    more_steps p more rules =
        let next : IsNext (last_named named) p = named_next n named p more was rules in
        place_steps n k p (at last.Group seen done block named) (Ok (record (at last.Group seen done block named) { named = named ++ p ∷ [] })) (named_at_most n named p more rules) (rw (above_test (last_named named) p next, gap_test (last_named named) p next) refl)

    goes : (more : List ℕ) (others : List Item) (tail : List Sign) → IsNamed n (named ++ more) → Follow n (group (named ++ more)) others tail → sign ∷ part ≡ map place more ++ tail → Forth n k (at last.Group seen done block named) sign part (group (named ++ more) ∷ others)
    goes [] others tail rules follow e =
        let all : named ++ [] ≡ named = append-nil named in
        subst (λ ps. Forth n k (at last.Group seen done block named) sign part (group ps ∷ others)) (sym all) (shuts others (subst (Follow n (group named) others) (sym e) (subst (λ ps. Follow n (group ps) others tail) all follow)))
    goes (p ∷ more) others tail rules follow e =
        let this : place p ≡ sign = cc in
        let left : part ≡ map place more ++ tail = cc in
        let joined : (named ++ p ∷ []) ++ more ≡ named ++ p ∷ more = append_assoc named (p ∷ []) more in
        subst (λ x. Forth n k (at last.Group seen done block named) x part (group (named ++ p ∷ more) ∷ others)) this (record {
          after = record (at last.Group seen done block named) { named = named ++ p ∷ [] };
          steps = more_steps p more rules;
          same_done = refl;
          same_comma = refl;
          opened = named_front n named p more was rules;
          others = group (named ++ p ∷ more) ∷ others;
          continues = record { more = more; others = others; tail = tail; items_are = ap (λ ps. group ps ∷ others) (sym joined); rules = subst (IsNamed n) (sym joined) rules; follow = subst (λ ps. Follow n (group ps) others tail) (sym joined) follow; part_is = left };
          joined = refl;
        })

forth : (n k : ℕ) (l : Last) (seen : Bool) (done block : List Places) (named : List ℕ) (items : List Item) (sign : Sign) (part : List Sign) → IsOpenBy n l named → Continues n l named (sign ∷ part) items
    → Forth n k (record { comma_seen = seen; done = done; block = block; named = named; last = l }) sign part items
forth n k last.Nothing seen done block named items sign part was c = block_forth n k (record { comma_seen = seen; done = done; block = block; named = named; last = last.Nothing }) items sign part tt c
forth n k (last.Dot d) seen done block named items sign part was c = block_forth n k (record { comma_seen = seen; done = done; block = block; named = named; last = last.Dot d }) items sign part tt c
forth n k last.Cross seen done block named items sign part was c = cross_forth n k seen done block named items sign part c
forth n k last.Group seen done block named items sign part was c = group_forth n k seen done block named items sign part was c

-- ---- the whole

no_signs : (n : ℕ) (item : Item) (rest : List Sign) → IsItem n item → [] ≡ item_signs item ++ rest → ⊥
no_signs n crossing rest ok e = cc
no_signs n (group []) rest ok e = ok
no_signs n (group (p ∷ ps)) rest ok e = cc

no_block : (n : ℕ) (items : List Item) → IsBlock n items [] → ⊥
no_block n [] b = b
no_block n (item ∷ items) b = no_signs n item b.0 b.1 b.3

no_follow : (n : ℕ) (item : Item) (items : List Item) → Follow n item items [] → items ≡ []
no_follow n item [] f = refl
no_follow n item (next ∷ items) f = elim (f.2) [
  | inl is ↦ let e : [] ≡ dot ∷ (item_signs next ++ f.1) = subst (λ (g : List Sign). [] ≡ g ++ (item_signs next ++ f.1)) is f.5 in absurd cc
  | inr h ↦ absurd (no_signs n next f.1 f.3 (subst (λ (g : List Sign). [] ≡ g ++ (item_signs next ++ f.1)) h.0 f.5))
]

-- nothing of the block is left
pub closes : (n : ℕ) (l : Last) (named : List ℕ) (block : List Places) (items : List Item) → Continues n l named [] items → Closes l × (closed_by n l named block ≡ block ++ changes_of_items n items)
closes n last.Nothing named block items c = absurd (no_block n items c)
closes n (last.Dot d) named block items c = absurd (no_block n items c)
closes n last.Cross named block items c = (tt, sym (append-nil block) ∙ ap (λ all. block ++ changes_of_items n all) (sym (no_follow n crossing items c)))
closes n last.Group named block items g = (tt, ap (λ all. block ++ changes_of_items n all) (sym (g.items_are ∙ shut g.more g.part_is g.follow)))
  where
    shut : (more : List ℕ) → [] ≡ map place more ++ g.tail → Follow n (group (named ++ more)) g.others g.tail → group (named ++ more) ∷ g.others ≡ group named ∷ []
    shut [] e follow = ap (λ ps. group ps ∷ g.others) (append-nil named) ∙ ap (λ all. group named ∷ all) (no_follow n (group (named ++ [])) g.others (subst (Follow n (group (named ++ [])) g.others) (sym e) follow))
    shut (p ∷ more) e follow = absurd cc

comma_steps : (n k : ℕ) (l : Last) (s : State) → Closes l → s.comma_seen ≡ false → comma_after n l s k ≡ Ok (ended n s)
comma_steps n k last.Nothing s c unseen = absurd c
comma_steps n k (last.Dot d) s c unseen = absurd c
comma_steps n k last.Cross s c unseen = ap (λ b. cond b (Err (SecondComma k)) (Ok (ended n s))) unseen
comma_steps n k last.Group s c unseen = ap (λ b. cond b (Err (SecondComma k)) (Ok (ended n s))) unseen

end_steps : (n k : ℕ) (l : Last) (s : State) → Closes l → end_after n l s k ≡ Ok (whole n s)
end_steps n k last.Nothing s c = absurd c
end_steps n k (last.Dot d) s c = absurd c
end_steps n k last.Cross s c = refl
end_steps n k last.Group s c = refl

one_forth : (n k : ℕ) (s : State) (sign : Sign) (part : List Sign) (changes : List Places) (one : One n s (sign ∷ part) changes) (f : Forth n k s sign part one.items) → One n f.after part changes
one_forth n k s sign part changes one f = record {
  items = f.others;
  continues = f.continues;
  are = one.are ∙ ap (λ block. total s.comma_seen s.done block) (sym f.joined) ∙ ap (λ seen. total seen s.done (f.after.block ++ changes_of_items n f.others)) (sym f.same_comma) ∙ ap (λ done. total f.after.comma_seen done (f.after.block ++ changes_of_items n f.others)) (sym f.same_done);
}

-- the next state, and what is left there
pub record Next (n k : ℕ) (s : State) (sign : Sign) (part : List Sign) (changes : List Places) : Type 0 where
  pub after : State
  pub steps : step n s k sign ≡ Ok after
  pub opened : IsOpen n after
  pub rest : Rest n after part changes

two_next : (n k : ℕ) (s : State) (sign : Sign) (part : List Sign) (changes : List Places) → IsOpen n s → (unseen : s.comma_seen ≡ false) (first second : List Item) (left right : List Sign)
    → Continues n s.last s.named left first → IsBlock n second right → sign ∷ part ≡ left ++ comma ∷ right
    → changes ≡ (s.done ++ mirrored (s.block ++ changes_of_items n first)) ++ mirrored (changes_of_items n second) → Next n k s sign part changes
unfolding step comma_step closed
two_next n k s sign part changes was unseen first second [] right continues b split are =
    let this : comma ≡ sign = cc in
    let left : right ≡ part = cc in
    let c = closes n s.last s.named s.block first continues in
    subst (λ x. Next n k s x part changes) this (record {
      after = ended n s;
      steps = comma_steps n k s.last s c.0 unseen;
      opened = tt;
      rest = inl (record {
        items = second;
        continues = subst (IsBlock n second) left b;
        are = are ∙ ap (λ block. (s.done ++ mirrored block) ++ mirrored (changes_of_items n second)) (sym c.1);
      });
    })
two_next n k s sign part changes was unseen first second (x ∷ left) right continues b split are =
    let this : x ≡ sign = cc in
    let rest : part ≡ left ++ comma ∷ right = cc in
    let f = forth n k s.last s.comma_seen s.done s.block s.named first x left was continues in
    subst (λ y. Next n k s y part changes) this (record {
      after = f.after;
      steps = f.steps;
      opened = f.opened;
      rest = inr (record {
        unseen = f.same_comma ∙ unseen;
        first = f.others;
        second = second;
        left = left;
        right = right;
        continues = f.continues;
        block = b;
        split = rest;
        are = are ∙ ap (λ block. (s.done ++ mirrored block) ++ mirrored (changes_of_items n second)) (sym f.joined) ∙ ap (λ done. (done ++ mirrored (f.after.block ++ changes_of_items n f.others)) ++ mirrored (changes_of_items n second)) (sym f.same_done);
      });
    })

next : (n k : ℕ) (s : State) (sign : Sign) (part : List Sign) (changes : List Places) → IsOpen n s → Rest n s (sign ∷ part) changes → Next n k s sign part changes
next n k s sign part changes was (inl one) =
    let f = forth n k s.last s.comma_seen s.done s.block s.named one.items sign part was one.continues in
    record { after = f.after; steps = f.steps; opened = f.opened; rest = inl (one_forth n k s sign part changes one f) }
next n k s sign part changes was (inr two) = two_next n k s sign part changes was two.unseen two.first two.second two.left two.right two.continues two.block two.split two.are

nothing_left : (left : List Sign) (right : List Sign) → [] ≡ left ++ comma ∷ right → ⊥
nothing_left [] right e = cc
nothing_left (x ∷ left) right e = cc

byte_next : (n k : ℕ) (s : State) (blank : Bool) (sign : Sign) (signs : List Sign) (changes : List Places) (goal : Result State NotationFault → Type 0) → IsOpen n s → Rest n s (cond blank signs (sign ∷ signs)) changes
    → ((after : State) → IsOpen n after → Rest n after signs changes → goal (Ok after)) → goal (cond blank (Ok s) (step n s k sign))
byte_next n k s true sign signs changes goal was rest then = then s was rest
byte_next n k s false sign signs changes goal was rest then =
    let x = next n k s sign signs changes was rest in
    subst goal (sym x.steps) (then x.after x.opened x.rest)

pub complete : (n : ℕ) (bytes : List ℕ) (k : ℕ) (s : State) (changes : List Places) → IsOpen n s → Rest n s (signs_of bytes) changes → read_from n s k bytes ≡ Ok changes
unfolding read_from byte_step end_step closed
complete n [] k s changes was (inl one) =
    let c = closes n s.last s.named s.block one.items one.continues in
    end_steps n k s.last s c.0 ∙ ap (λ all. Ok all) (ap (λ block. total s.comma_seen s.done block) c.1 ∙ sym one.are)
complete n [] k s changes was (inr two) = absurd (nothing_left two.left two.right two.split)
complete n (byte ∷ bytes) k s changes was rest =
    byte_next n k s (is_blank byte) (sign_of byte) (signs_of bytes) changes (λ r. then_all r (λ after. read_from n after (k + 1) bytes) ≡ Ok changes) was rest (λ after opened left. complete n bytes (k + 1) after changes opened left)
