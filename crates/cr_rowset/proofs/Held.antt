-- What a stack is seen as, after a push and after a cut.
use Rattle.std.proofs.Common.{◌≡◌, ◌≢◌, ℕ, ◌+◌, ◌<◌, ◌≤◌, List, [], ◌∷◌, ◌++◌, length, get_or, map, take, set, refl, ap, sym, ◌∙◌, subst, arith, inl, inr}
use Rattle.std.specs.Prelude.{Contains}
use Rattle.std.proofs.lemmas.Bool.{cases_eq}
use Rattle.std.proofs.lemmas.List.{get_or-map, get_or-take, length-map, length-take-le, map-set, take_more_set, length-set, get_or-set_same, get_or-set_other, take-take}
use Rattle.cr_row.specs.Packed.{key_of}
use Rattle.cr_rowset.specs.Stacks.{StackParts, AllDiffer}
use Rattle.cr_rowset.specs.Keys.{row_of, IsKey}
use Rattle.cr_rowset.specs.Chains.{IsChained, IsStack, bucket}
use Rattle.cr_rowset.specs.Pushing.{Pushes}
use Rattle.cr_rowset.specs.declared.pushed.Pushed.TheVariants.{Fresh, Again, Full}
use Rattle.cr_rowset.proofs.Linked.{one_more}

-- the rows of the first keys of a list, with room for all
abbrev pub seen : List ℕ → ℕ → StackParts
seen keys len = record { rows = take len (map row_of keys); room = length keys }

-- the first keys are those of rows
abbrev pub AreKeys : List ℕ → ℕ → Type 0
AreKeys keys len = (i : ℕ) → i < len → IsKey (get_or keys i 0)

-- the key is none of the first ones
abbrev pub IsAway : List ℕ → ℕ → ℕ → Type 0
IsAway keys len key = (i : ℕ) → i < len → get_or keys i 0 ≢ key

pub seen_long : (keys : List ℕ) (len : ℕ) → len ≤ length keys → length (take len (map row_of keys)) ≡ len
seen_long keys len within = length-take-le len (map row_of keys) (omega (arith, length-map keys row_of))

pub seen_at : (keys : List ℕ) (len place : ℕ) (d : List ℕ) → len ≤ length keys → place < len →
    get_or (take len (map row_of keys)) place d ≡ row_of (get_or keys place 0)
seen_at keys len place d within low = get_or-take len (map row_of keys) place d low ∙ get_or-map row_of keys place 0 d (omega arith)

-- keys of one row are one
one_key : (a b : ℕ) → IsKey a → IsKey b → row_of a ≡ row_of b → a ≡ b
one_key a b first second same = sym first.is ∙ ap key_of same ∙ second.is

pub nowhere : (keys : List ℕ) (len key : ℕ) → len ≤ length keys → AreKeys keys len → IsKey key → IsAway keys len key →
    Contains (take len (map row_of keys)) (row_of key) → ⊥
nowhere keys len key within are is away stands =
    let k = stands.0 in
    let low : k < len = omega (arith, stands.1, seen_long keys len within) in
    away k low (one_key (get_or keys k 0) key (are k low) is (sym (seen_at keys len k (row_of key) within low) ∙ stands.2))

pub all_differ : (keys : List ℕ) (len : ℕ) → len ≤ length keys → AreKeys keys len →
    ((i j : ℕ) → i < j → j < len → get_or keys i 0 ≢ get_or keys j 0) → AllDiffer (take len (map row_of keys))
all_differ keys len within are differ i j below inside same =
    let low : j < len = omega (arith, inside, seen_long keys len within) in
    differ i j below low (one_key (get_or keys i 0) (get_or keys j 0) (are i (omega arith)) (are j low)
    (sym (seen_at keys len i [] within (omega arith)) ∙ same ∙ seen_at keys len j [] within low))

pub again : (old : StackParts) (keys : List ℕ) (len place key : ℕ) → seen keys len ≡ old → len ≤ length keys →
    place < len → get_or keys place 0 ≡ key → Pushes old (row_of key) (Again place) old
again old keys len place key is within low here =
    subst (λ (s : StackParts). Pushes s (row_of key) (Again place) s) is (
      record {
        within = omega (arith, low, seen_long keys len within);
        is = seen_at keys len place [] within low ∙ ap row_of here;
      },
      refl,
    )

pub full : (old : StackParts) (keys : List ℕ) (len key : ℕ) (row : List ℕ) → seen keys len ≡ old → row_of key ≡ row → len ≡ length keys → AreKeys keys len → IsKey key →
    IsAway keys len key → Pushes old row Full old
full old keys len key row is mine all are its away =
    let within : len ≤ length keys = omega arith in
    subst (λ (r : List ℕ). Pushes old r Full old) mine
    (subst (λ (s : StackParts). Pushes s (row_of key) Full s) is (nowhere keys len key within are its away, seen_long keys len within ∙ all, refl))

pub fresh : (old : StackParts) (keys : List ℕ) (len next key : ℕ) (row : List ℕ) → seen keys len ≡ old → row_of key ≡ row → next ≡ len + 1 → len < length keys → AreKeys keys len → IsKey key →
    IsAway keys len key → Pushes old row Fresh (seen (set keys len key) next)
fresh old keys len next key row is mine up room are its away =
    let within : len ≤ length keys = omega arith in
    let grown : take next (map row_of (set keys len key)) ≡ take len (map row_of keys) ++ row_of key ∷ [] =
    ap (λ k. take k (map row_of (set keys len key))) up ∙ ap (take (len + 1)) (map-set row_of keys len key)
    ∙ take_more_set (map row_of keys) len (row_of key) (omega (arith, length-map keys row_of)) in
    subst (λ (r : List ℕ). Pushes old r Fresh (seen (set keys len key) next)) mine
    (subst (λ (s : StackParts). Pushes s (row_of key) Fresh (seen (set keys len key) next)) is (
      nowhere keys len key within are its away,
      omega (arith, room, seen_long keys len within),
      ap (λ (rs : List (List ℕ)). record { rows = rs; room = length (set keys len key) }) grown
          ∙ ap (λ (n : ℕ). record { rows = take len (map row_of keys) ++ row_of key ∷ []; room = n }) (length-set keys len key),
    ))

-- what the fields keep, with a key more
pub kept_more : (shift : ℕ) (buckets before keys : List ℕ) (len next b v w key : ℕ) →
    IsStack shift buckets before keys len → next ≡ len + 1 → len < length keys → b ≡ bucket shift key → b < length buckets → v ≡ get_or buckets b 0 → w ≡ next →
    IsKey key → IsAway keys len key → IsStack shift (set buckets b w) (set before len v) (set keys len key) next
kept_more shift buckets before keys len next b v w key kept up room mine inside was is its away =
    let same = λ (i : ℕ) (low : i < len). get_or-set_other keys len i key 0 (omega arith) in
    let put : get_or (set keys len key) len 0 ≡ key = get_or-set_same keys len key 0 room in
    let wide : length (set keys len key) ≡ length keys = length-set keys len key in
    record {
      chained = one_more shift buckets before keys len next b v w key kept.chained up room (omega (arith, kept.linked)) inside mine was is;
      some_bits = kept.some_bits;
      counted = length-set buckets b w ∙ kept.counted;
      linked = length-set before len v ∙ kept.linked ∙ sym wide;
      few = omega (arith, wide, kept.few);
      within = omega (arith, wide);
      held = λ i low. elim (cases_eq i len) [
        | inl e ↦ subst (λ (k : ℕ). IsKey (get_or (set keys len key) k 0)) (sym e) (subst IsKey (sym put) its)
        | inr e ↦ let under : i < len = omega (arith, e) in subst IsKey (sym (same i under)) (kept.held i under)
      ];
      differ = λ i j below low equal. elim (cases_eq j len) [
        | inl e ↦ away i (omega (arith, e)) (sym (same i (omega (arith, e))) ∙ equal ∙ ap (λ (k : ℕ). get_or (set keys len key) k 0) e ∙ put)
        | inr e ↦ let under : j < len = omega (arith, e) in
            kept.differ i j below under (sym (same i (omega arith)) ∙ equal ∙ same j under)
      ];
    }

-- with some keys less, after their buckets were given back what they had
pub kept_less : (shift : ℕ) (buckets after before keys : List ℕ) (len left : ℕ) →
    IsStack shift buckets before keys len → left ≤ len → length after ≡ length buckets → IsChained shift after before keys left → IsStack shift after before keys left
kept_less shift buckets after before keys len left kept less long chained = record {
  chained = chained;
  some_bits = kept.some_bits;
  counted = long ∙ kept.counted;
  linked = kept.linked;
  few = kept.few;
  within = omega (arith, kept.within);
  held = λ i low. kept.held i (omega arith);
  differ = λ i j below low. kept.differ i j below (omega arith);
}

pub cut : (old : StackParts) (keys : List ℕ) (len left : ℕ) → seen keys len ≡ old → left ≤ len → seen keys left ≡ record { rows = take left old.rows; room = old.room }
cut old keys len left is less =
    subst (λ (s : StackParts). seen keys left ≡ record { rows = take left s.rows; room = s.room }) is
    (ap (λ (rs : List (List ℕ)). record { rows = rs; room = length keys }) (sym (take-take left len (map row_of keys) less)))
