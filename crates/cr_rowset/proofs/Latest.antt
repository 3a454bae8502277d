-- The latest place of a bucket among the first keys.
use Rattle.std.proofs.Common.{◌≡◌, ◌≢◌, ℕ, zero, suc, ◌-◌, ◌<◌, ◌≤◌, cond, List, get_or, nat_eq, refl, ap, sym, ◌∙◌, subst, inl, inr, arith}
use Rattle.std.proofs.lemmas.Bool.{eq-eqb, ne_eqb, cases_eq}
use Rattle.cr_rowset.specs.Chains.{bucket, latest}

-- it is told by those keys alone
pub agrees : (shift b n : ℕ) (xs ys : List ℕ) → ((i : ℕ) → i < n → get_or xs i 0 ≡ get_or ys i 0) → latest shift xs b n ≡ latest shift ys b n
agrees shift b zero xs ys same = refl
agrees shift b (suc n) xs ys same =
    let rest : latest shift xs b n ≡ latest shift ys b n = agrees shift b n xs ys (λ i low. same i (omega arith)) in
    let here : get_or xs n 0 ≡ get_or ys n 0 = same n (omega arith) in
    ap (λ key. cond (nat_eq (bucket shift key) b) (suc n) (latest shift xs b n)) here
    ∙ ap (λ k. cond (nat_eq (bucket shift (get_or ys n 0)) b) (suc n) k) rest

-- the last key of its bucket
pub here : (shift b n : ℕ) (keys : List ℕ) → bucket shift (get_or keys n 0) ≡ b → latest shift keys b (suc n) ≡ suc n
here shift b n keys e = ap (λ t. cond t (suc n) (latest shift keys b n)) (eq-eqb (bucket shift (get_or keys n 0)) b e)

-- the last key of another bucket
pub further : (shift b n : ℕ) (keys : List ℕ) → bucket shift (get_or keys n 0) ≢ b → latest shift keys b (suc n) ≡ latest shift keys b n
further shift b n keys e = ap (λ t. cond t (suc n) (latest shift keys b n)) (ne_eqb (bucket shift (get_or keys n 0)) b e)

pub at_most : (shift b n : ℕ) (keys : List ℕ) → latest shift keys b n ≤ n
at_most shift b zero keys = omega arith
at_most shift b (suc n) keys =
    let rest : latest shift keys b n ≤ n = at_most shift b n keys in
    elim (cases_eq (bucket shift (get_or keys n 0)) b) [
      | inl e ↦ omega (arith, here shift b n keys e)
      | inr e ↦ omega (arith, further shift b n keys e)
    ]

-- no key from it on is in the bucket
pub passed : (shift b n : ℕ) (keys : List ℕ) (i : ℕ) → latest shift keys b n ≤ i → i < n → bucket shift (get_or keys i 0) ≢ b
passed shift b zero keys i high low = absurd (omega arith)
passed shift b (suc n) keys i high low =
    let rest = λ (h : latest shift keys b n ≤ i) (l : i < n). passed shift b n keys i h l in
    elim (cases_eq (bucket shift (get_or keys n 0)) b) [
      | inl e ↦ absurd (omega (arith, here shift b n keys e))
      | inr e ↦ elim (cases_eq i n) [
        | inl same ↦ subst (λ (k : ℕ). bucket shift (get_or keys k 0) ≢ b) (sym same) e
        | inr other ↦ rest (omega (arith, further shift b n keys e)) (omega (arith, other))
      ]
    ]

-- the key before it is in the bucket
pub holds : (shift b n : ℕ) (keys : List ℕ) → 0 < latest shift keys b n → bucket shift (get_or keys (latest shift keys b n - 1) 0) ≡ b
holds shift b zero keys some = absurd (omega arith)
holds shift b (suc n) keys some =
    let rest = λ (h : 0 < latest shift keys b n). holds shift b n keys h in
    elim (cases_eq (bucket shift (get_or keys n 0)) b) [
      | inl e ↦ let back : latest shift keys b (suc n) - 1 ≡ n = omega (arith, here shift b n keys e) in
          subst (λ (k : ℕ). bucket shift (get_or keys k 0) ≡ b) (sym back) e
      | inr e ↦ let same = further shift b n keys e in subst (λ (k : ℕ). bucket shift (get_or keys (k - 1) 0) ≡ b) (sym same) (rest (omega (arith, same)))
    ]
