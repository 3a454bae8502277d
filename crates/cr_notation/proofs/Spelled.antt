-- What a text spells are changes of the stage.
use Rattle.std.proofs.Common.{◌≡◌, ℕ, zero, suc, ◌+◌, ◌≤◌, Bool, true, false, cond, List, [], ◌∷◌, ◌++◌, drop, reverse, refl, sym, subst, arith, inl, inr, All}
use Rattle.std.specs.Prelude.{nat_eq}
use Rattle.std.specs.List.{AllByRecursion, range_with_len}
use Rattle.std.proofs.lemmas.List.{reverse-append}
use Rattle.std.proofs.lemmas.List.Elements.{All-from_recursion}
use Rattle.cr_row.specs.Rows.{Places, IsChange}
use Rattle.cr_row.specs.Symbols.{symbol_of}
use Rattle.cr_model.specs.Notation.{Sign, cross, place, dot, comma, is_blank, is_cross, place_of, sign_of, signs_of, Item, crossing, group, item_signs, IsItem, Follow, IsBlock, change_of, changes_of_items, mirrored, StandsFor, Spells}
use Rattle.cr_notation.proofs.Chains.{group_chain, cross_is_change}
use Rattle.cr_notation.proofs.Canonical.{IsOf}

-- ---- lists

all_append : {A : Type 0} (P : A → Type 0) (xs ys : List A) → AllByRecursion P xs → AllByRecursion P ys → AllByRecursion P (xs ++ ys)
all_append P [] ys h k = k
all_append P (x ∷ xs) ys h k = (h.0, all_append P xs ys h.1 k)

all_left : {A : Type 0} (P : A → Type 0) (xs ys : List A) → AllByRecursion P (xs ++ ys) → AllByRecursion P xs
all_left P [] ys h = tt
all_left P (x ∷ xs) ys h = (h.0, all_left P xs ys h.1)

all_right : {A : Type 0} (P : A → Type 0) (xs ys : List A) → AllByRecursion P (xs ++ ys) → AllByRecursion P ys
all_right P [] ys h = h
all_right P (x ∷ xs) ys h = all_right P xs ys h.1

all_reverse : {A : Type 0} (P : A → Type 0) (xs : List A) → AllByRecursion P xs → AllByRecursion P (reverse xs)
all_reverse P [] h = tt
all_reverse P (x ∷ xs) h = subst (AllByRecursion P) (sym (reverse-append (x ∷ []) xs)) (all_append P (reverse xs) (x ∷ []) (all_reverse P xs h.1) (h.0, tt))

all_rest : {A : Type 0} (P : A → Type 0) (xs : List A) → AllByRecursion P xs → AllByRecursion P (drop 1 xs)
all_rest P [] h = tt
all_rest P (x ∷ xs) h = h.1

all_mirrored : (P : Places → Type 0) (changes : List Places) → AllByRecursion P changes → AllByRecursion P (mirrored changes)
all_mirrored P changes h = all_append P changes (drop 1 (reverse changes)) h (all_rest P (reverse changes) (all_reverse P changes h))

-- ---- places in a text are 1 or more

abbrev IsCounted : Sign → Type 0
IsCounted (place p) = 1 ≤ p
IsCounted _ = Unit {0}

chosen : (b : Bool) (x y : Sign) → IsCounted x → IsCounted y → IsCounted (cond b x y)
chosen true x y hx hy = hx
chosen false x y hx hy = hy

named_counted : (n a byte : ℕ) → 1 ≤ a → IsCounted (place_of (range_with_len a n) byte)
named_counted zero a byte low = tt
named_counted (suc n) a byte low = chosen (nat_eq byte (symbol_of a)) (place a) (place_of (range_with_len (a + 1) n) byte) low (named_counted n (a + 1) byte (omega arith))

byte_counted : (byte : ℕ) → IsCounted (sign_of byte)
byte_counted byte = chosen (is_cross byte) cross _ tt (chosen (nat_eq byte 46) dot _ tt (chosen (nat_eq byte 44) comma _ tt (named_counted 16 1 byte (omega arith))))

signs_counted : (bytes : List ℕ) → AllByRecursion IsCounted (signs_of bytes)
signs_counted [] = tt
signs_counted (byte ∷ bytes) = either (is_blank byte) (signs_counted bytes)
  where
    either : (b : Bool) → AllByRecursion IsCounted (signs_of bytes) → AllByRecursion IsCounted (cond b (signs_of bytes) (sign_of byte ∷ signs_of bytes))
    either true h = h
    either false h = (byte_counted byte, h)

-- ---- blocks

item_change : (n : ℕ) (item : Item) → IsItem n item → AllByRecursion IsCounted (item_signs item) → IsOf n (change_of n item)
item_change n crossing even h = record { stage = refl; chain = cross_is_change n even }
item_change n (group []) rules h = absurd rules
item_change n (group (p ∷ ps)) rules h = record { stage = refl; chain = group_chain n (p ∷ ps) rules h.0 }

follow_changes : (n : ℕ) (item : Item) (items : List Item) (signs : List Sign) → Follow n item items signs → AllByRecursion IsCounted signs → AllByRecursion (IsOf n) (changes_of_items n items)
follow_changes n item [] signs f h = tt
follow_changes n item (next ∷ items) signs f h =
    let later = all_right IsCounted f.0 (item_signs next ++ f.1) (subst (AllByRecursion IsCounted) f.5 h) in
    (item_change n next f.3 (all_left IsCounted (item_signs next) f.1 later), follow_changes n next items f.1 f.4 (all_right IsCounted (item_signs next) f.1 later))

block_changes : (n : ℕ) (items : List Item) (signs : List Sign) → IsBlock n items signs → AllByRecursion IsCounted signs → AllByRecursion (IsOf n) (changes_of_items n items)
block_changes n [] signs b h = absurd b
block_changes n (item ∷ items) signs b h =
    let whole = subst (AllByRecursion IsCounted) b.3 h in
    (item_change n item b.1 (all_left IsCounted (item_signs item) b.0 whole), follow_changes n item items b.0 b.2 (all_right IsCounted (item_signs item) b.0 whole))

stands_changes : (n : ℕ) (text : List ℕ) (changes : List Places) → StandsFor n text changes → AllByRecursion (IsOf n) changes
stands_changes n text changes (inl p) = subst (AllByRecursion (IsOf n)) (sym p.2) (block_changes n p.0 (signs_of text) p.1 (signs_counted text))
stands_changes n text changes (inr p) =
    let whole = subst (AllByRecursion IsCounted) p.6 (signs_counted text) in
    let first = block_changes n p.0 p.2 p.4 (all_left IsCounted p.2 (comma ∷ p.3) whole) in
    let second = block_changes n p.1 p.3 p.5 (all_right IsCounted p.2 (comma ∷ p.3) whole).1 in
    subst (AllByRecursion (IsOf n)) (sym p.7) (all_append (IsOf n) (mirrored (changes_of_items n p.0)) (mirrored (changes_of_items n p.1)) (all_mirrored (IsOf n) (changes_of_items n p.0) first) (all_mirrored (IsOf n) (changes_of_items n p.1) second))

of_change : (n : ℕ) (change : Places) → IsOf n change → (change.stage ≡ n) × IsChange change
of_change n change h = (h.stage, subst (λ stage. IsChange (record { stage = stage; made = change.made })) (sym h.stage) h.chain)

pub spelled_changes : (n : ℕ) (text : List ℕ) (changes : List Places) → Spells n text changes → All (λ change. (change.stage ≡ n) × IsChange change) changes
spelled_changes n text changes h k d low = of_change n _ (All-from_recursion (IsOf n) changes (stands_changes n text changes h.stands) k d low)
