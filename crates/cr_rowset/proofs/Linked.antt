-- The chains of a stack, as it grows, is searched and is cut.
use Rattle.std.proofs.Common.{◌≡◌, ◌≢◌, ℕ, suc, ◌+◌, ◌-◌, ◌/◌, ◌^◌, ◌<◌, ◌≤◌, List, length, get_or, set, ap, sym, ◌∙◌, subst, inl, inr, arith}
use Rattle.std.proofs.lemmas.Bool.{cases_eq, cases_order}
use Rattle.std.proofs.lemmas.Nat.{shr_below}
use Rattle.std.proofs.lemmas.List.{get_or-set_same, get_or-set_other, length-set}
use Rattle.cr_rowset.specs.Chains.{bucket, latest, IsChained, Seeks}
use Rattle.cr_rowset.proofs.Latest.{agrees, here, further, at_most, passed, holds}

-- a hash moved down is the number of a bucket
pub hash_below : (hash shift : ℕ) → shift < 64 → hash < 2 ^ 64 → hash / 2 ^ shift < 2 ^ (64 - shift)
hash_below hash shift few small =
    let whole : 64 - shift + shift ≡ 64 = omega arith in
    shr_below hash (64 - shift) shift (subst (λ (k : ℕ). hash < 2 ^ k) (sym whole) small)

-- a look-up begins at the mark of the key's bucket
pub begins : (shift : ℕ) (buckets before : List ℕ) (keys : List ℕ) (len mark : ℕ) (key : ℕ) (b : ℕ) →
    IsChained shift buckets before keys len → b < length buckets → b ≡ bucket shift key → mark ≡ get_or buckets b 0 → Seeks keys before len mark key
begins shift buckets before keys len mark key b kept inside mine is =
    let last : mark ≡ latest shift keys (bucket shift key) len = is ∙ kept.lasts b inside ∙ ap (λ k. latest shift keys k len) mine in
    record {
      shift = shift;
      links = kept.links;
      within = omega (arith, last, at_most shift (bucket shift key) len keys);
      here = λ some. subst (λ (k : ℕ). bucket shift (get_or keys (k - 1) 0) ≡ bucket shift key) (sym last) (holds shift (bucket shift key) len keys (omega (arith, last)));
      gone = λ i high low same. passed shift (bucket shift key) len keys i (omega (arith, last)) low (ap (bucket shift) same);
    }

-- it goes on to what stands at the place
pub goes_on : (keys : List ℕ) (before : List ℕ) (len mark place next : ℕ) (key : ℕ) →
    Seeks keys before len mark key → mark ≡ place + 1 → get_or keys place 0 ≢ key → next ≡ get_or before place 0 → Seeks keys before len next key
goes_on keys before len mark place next key seeks is other leads =
    let shift = seeks.shift in
    let b = bucket shift key in
    let at : mark - 1 ≡ place = omega arith in
    let mine : bucket shift (get_or keys place 0) ≡ b = subst (λ (k : ℕ). bucket shift (get_or keys k 0) ≡ b) at (seeks.here (omega arith)) in
    let last : next ≡ latest shift keys b place = leads ∙ seeks.links place (omega (arith, seeks.within)) ∙ ap (λ k. latest shift keys k place) mine in
    let low : next ≤ place = omega (arith, last, at_most shift b place keys) in
    record {
      shift = shift;
      links = seeks.links;
      within = omega (arith, seeks.within);
      here = λ some. subst (λ (k : ℕ). bucket shift (get_or keys (k - 1) 0) ≡ b) (sym last) (holds shift b place keys (omega (arith, last)));
      gone = λ i high inside. elim (cases_order i place) [
        | inl same ↦ subst (λ (k : ℕ). get_or keys k 0 ≢ key) (sym same) other
        | inr (inl below) ↦ λ same. passed shift b place keys i (omega (arith, last)) below (ap (bucket shift) same)
        | inr (inr above) ↦ seeks.gone i (omega arith) inside
      ];
    }

-- and that stands lower
pub goes_down : (keys : List ℕ) (before : List ℕ) (len mark : ℕ) (key : ℕ) → Seeks keys before len mark key → 0 < mark → get_or before (mark - 1) 0 < mark
goes_down keys before len mark key seeks some =
    let b = bucket seeks.shift (get_or keys (mark - 1) 0) in
    let leads : get_or before (mark - 1) 0 ≡ latest seeks.shift keys b (mark - 1) = seeks.links (mark - 1) (omega (arith, seeks.within)) in
    omega (arith, leads, at_most seeks.shift b (mark - 1) keys)

-- a key more, in its bucket
pub one_more : (shift : ℕ) (buckets before : List ℕ) (keys : List ℕ) (len next b v w : ℕ) (key : ℕ) →
    IsChained shift buckets before keys len → next ≡ len + 1 → len < length keys → len < length before → b < length buckets →
    b ≡ bucket shift key → v ≡ get_or buckets b 0 → w ≡ next →
    IsChained shift (set buckets b w) (set before len v) (set keys len key) next
one_more shift buckets before keys len next b v w key kept up inside linked counted mine was is =
    let same = λ (i : ℕ) (low : i < len). sym (get_or-set_other keys len i key 0 (omega arith)) in
    let put : get_or (set keys len key) len 0 ≡ key = get_or-set_same keys len key 0 inside in
    let up' : next ≡ suc len = omega arith in
    let above = λ (c n : ℕ) (low : n ≤ len). agrees shift c n keys (set keys len key) (λ i l. same i (omega arith)) in
    let last : v ≡ latest shift keys b len = was ∙ kept.lasts b counted in
    subst (IsChained shift (set buckets b w) (set before len v) (set keys len key)) (sym up') (record {
      lasts = λ c low. elim (cases_eq c b) [
        | inl e ↦ subst (λ (k : ℕ). get_or (set buckets b w) k 0 ≡ latest shift (set keys len key) k (suc len)) (sym e)
            (get_or-set_same buckets b w 0 counted ∙ is ∙ up' ∙ sym (here shift b len (set keys len key) (ap (bucket shift) put ∙ sym mine)))
        | inr e ↦ get_or-set_other buckets b c w 0 e ∙ kept.lasts c (omega (arith, length-set buckets b w)) ∙ above c len (omega arith)
            ∙ sym (further shift c len (set keys len key) (λ (f : bucket shift (get_or (set keys len key) len 0) ≡ c). e (sym f ∙ ap (bucket shift) put ∙ sym mine)))
      ];
      links = λ i low. elim (cases_eq i len) [
        | inl e ↦ subst (λ (k : ℕ). get_or (set before len v) k 0 ≡ latest shift (set keys len key) (bucket shift (get_or (set keys len key) k 0)) k) (sym e)
            (get_or-set_same before len v 0 linked ∙ last ∙ above b len (omega arith) ∙ ap (λ c. latest shift (set keys len key) c len) (mine ∙ ap (bucket shift) (sym put)))
        | inr e ↦ let below : i < len = omega (arith, e) in
            get_or-set_other before len i v 0 e ∙ kept.links i below ∙ ap (λ r. latest shift keys (bucket shift r) i) (same i below) ∙ above (bucket shift (get_or (set keys len key) i 0)) i (omega arith)
      ];
    })

-- a key less: its bucket has what it had before
pub one_less : (shift : ℕ) (buckets before : List ℕ) (keys : List ℕ) (len place b v : ℕ) →
    IsChained shift buckets before keys len → len ≡ place + 1 → b ≡ bucket shift (get_or keys place 0) → v ≡ get_or before place 0 → b < length buckets →
    IsChained shift (set buckets b v) before keys place
one_less shift buckets before keys len place b v kept up mine was counted =
    let up' : len ≡ suc place = omega arith in
    record {
      lasts = λ c low. elim (cases_eq c b) [
        | inl e ↦ subst (λ (k : ℕ). get_or (set buckets b v) k 0 ≡ latest shift keys k place) (sym e)
            (get_or-set_same buckets b v 0 counted ∙ was ∙ kept.links place (omega arith) ∙ ap (λ k. latest shift keys k place) (sym mine))
        | inr e ↦ get_or-set_other buckets b c v 0 e ∙ kept.lasts c (omega (arith, length-set buckets b v)) ∙ ap (latest shift keys c) up'
            ∙ further shift c place keys (λ (f : bucket shift (get_or keys place 0) ≡ c). e (sym f ∙ sym mine))
      ];
      links = λ i low. kept.links i (omega arith);
    }
