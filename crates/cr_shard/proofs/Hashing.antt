-- Hashes of steps and of the nodes that they go through.
use Rattle.std.proofs.Common.{◌≡◌, ℕ, suc, ◌-◌, List, [], ◌∷◌, ◌++◌, length, take, zero, Some, inl, inr, refl, sym, ap, ◌∙◌, subst, arith}
use Rattle.std.specs.List.{slice_get}
use Rattle.std.proofs.lemmas.Bool.{cases_lt}
use Rattle.std.proofs.lemmas.List.{take-append-le, take_at, take-take, length-take, length-append}
use Rattle.cr_shard.specs.declared.way.Front.{Front}
use Rattle.cr_shard.specs.Hashes.{hash_after, hash_from, hash_of, IsMissing, IsClean}
use Rattle.cr_shard.specs.Ways.{steps_of, AreHashed}

-- the hash at the end of a way
abbrev last_hash : ℕ → List Front → ℕ
last_hash hash [] = hash
last_hash hash (front ∷ fronts) = last_hash front.hash fronts

ends : (hash : ℕ) (fronts : List Front) → AreHashed hash fronts → last_hash hash fronts ≡ hash_from hash (steps_of fronts)
ends hash [] are = refl
ends hash (front ∷ fronts) are = ends front.hash fronts are.1 ∙ ap (λ n. hash_from n (steps_of fronts)) are.0

last_is : (hash : ℕ) (fronts : List Front) (front : Front) → slice_get fronts (length fronts - 1) ≡ Some front → front.hash ≡ last_hash hash fronts
last_is hash [] front at = absurd (cc)
last_is hash (first ∷ []) front at = let same : first ≡ front = cc in ap (λ (f : Front). f.hash) (sym same)
last_is hash (first ∷ next ∷ fronts) front at =
    let one : length (first ∷ next ∷ fronts) - 1 ≡ suc (length (next ∷ fronts) - 1) = omega arith in
    last_is first.hash (next ∷ fronts) front (sym (ap (slice_get (first ∷ next ∷ fronts)) one) ∙ at)

-- is that of its steps
pub hash_at_end : (fronts : List Front) (front : Front) → AreHashed 0 fronts → slice_get fronts (length fronts - 1) ≡ Some front → front.hash ≡ hash_of (steps_of fronts)
hash_at_end fronts front are at = last_is 0 fronts front at ∙ ends 0 fronts are

-- one front more
pub hashed_more : (hash : ℕ) (fronts : List Front) (front : Front) → AreHashed hash fronts → front.hash ≡ hash_after (hash_from hash (steps_of fronts)) front.step
    → AreHashed hash (fronts ++ front ∷ [])
hashed_more hash [] front are is = (is, tt)
hashed_more hash (first ∷ fronts) front are is =
    (are.0, hashed_more first.hash fronts front are.1 (is ∙ ap (λ n. hash_after (hash_from n (steps_of fronts)) front.step) (sym are.0)))

pub hashed_take : (hash : ℕ) (n : ℕ) (fronts : List Front) → AreHashed hash fronts → AreHashed hash (take n fronts)
hashed_take hash zero fronts are = tt
hashed_take hash (suc n) [] are = tt
hashed_take hash (suc n) (front ∷ fronts) are = (are.0, hashed_take front.hash n fronts are.1)

-- the hash after one step more
pub hash_more : (hash : ℕ) (steps : List ℕ) (step : ℕ) → hash_from hash (steps ++ step ∷ []) ≡ hash_after (hash_from hash steps) step
hash_more hash [] step = refl
hash_more hash (first ∷ steps) step = hash_more (hash_after hash first) steps step

-- the steps of the first fronts
pub steps_taken : (n : ℕ) (fronts : List Front) → steps_of (take n fronts) ≡ take n (steps_of fronts)
steps_taken zero fronts = refl
steps_taken (suc n) [] = refl
steps_taken (suc n) (front ∷ fronts) = ap (λ l. front.step ∷ l) (steps_taken n fronts)

module _ (hashes steps : List ℕ) where
  -- a node that the way goes through is clean as well
  pub clean_take : (n : ℕ) → IsClean hashes steps → IsClean hashes (take n steps)
  clean_take n clean = λ m inside.
      let low = length-take n steps in
      subst (λ l. IsMissing hashes (hash_of l)) (sym (take-take m n steps (omega (arith, inside, low)))) (clean m (omega (arith, inside, low)))

  -- and what comes after a clean one whose hash is missing
  pub clean_more : (step : ℕ) → IsClean hashes steps → IsMissing hashes (hash_of steps) → IsClean hashes (steps ++ step ∷ [])
  clean_more step clean missing = λ n inside.
      let long = length-append steps (step ∷ []) in
      elim (cases_lt n (length steps)) [
        | inl less ↦ subst (λ l. IsMissing hashes (hash_of l)) (sym (take-append-le n steps (step ∷ []) (omega (arith, less)))) (clean n less)
        | inr past ↦ subst (λ l. IsMissing hashes (hash_of l)) (sym (take_at steps (step ∷ []) n (omega (arith, past, inside, long)))) missing
      ]
