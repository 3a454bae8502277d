-- Rows that stand among others, and rows by their numbers.
use Rattle.std.proofs.Common.{◌≡◌, ℕ, ◌<◌, Bool, true, false, cond, not, ◌&&◌, ◌||◌, nat_eq, List, [], ◌∷◌, ◌++◌, get_or, map, All, refl, sym, ap, ap₂, ◌∙◌, inl, inr, eqb-true}
use Rattle.std.specs.Cmp.Lexicographic.{pointwise}
use Rattle.std.specs.List.{list_any, list_all}
use Rattle.std.proofs.lemmas.Bool.{false≢true, or_cases, or_parts}
use Rattle.std.proofs.lemmas.Cmp.{nat_list_eq_equiv}
use Rattle.std.proofs.lemmas.List.Elements.{All-head, All-tail}
use Rattle.std.proofs.lemmas.List.Folds.{list_any-append, list_all-append}
use Rattle.cr_model.specs.Decided.{rows_differ}
use Rattle.cr_model.specs.Levels.{is_listed}
use Rattle.cr_path.specs.Marks.{some_marked}
use Rattle.cr_path.specs.Numbers.{NumberParts, numbers_of, is_seen}

not_or : (a b : Bool) → not (a || b) ≡ (not a && not b)
not_or true b = refl
not_or false b = refl

pub and_true : (a : Bool) → (a && true) ≡ a
and_true true = refl
and_true false = refl

pub or_mixed : (a b c d : Bool) → ((a || b) || (c || d)) ≡ ((a || c) || (b || d))
or_mixed true b c d = refl
or_mixed false true true d = refl
or_mixed false true false d = refl
or_mixed false false c d = refl

and_mixed : (a b d e c : Bool) → ((a && not b) && (d && (e && not c))) ≡ ((a && d) && (e && not (b || c)))
and_mixed false b d e c = refl
and_mixed true true true true c = refl
and_mixed true true true false c = refl
and_mixed true true false e c = refl
and_mixed true false true e c = refl
and_mixed true false false e c = refl

-- one of two tests
any_or : {X : Type 0} (f g : X → Bool) (xs : List X) → list_any (λ x. f x || g x) xs ≡ (list_any f xs || list_any g xs)
any_or f g [] = refl
any_or f g (x ∷ xs) = ap (λ rest. (f x || g x) || rest) (any_or f g xs) ∙ or_mixed (f x) (g x) (list_any f xs) (list_any g xs)

pub any_none : {X : Type 0} (xs : List X) → list_any (λ _. false) xs ≡ false
any_none [] = refl
any_none (x ∷ xs) = any_none xs

-- none is the row where each is another
none_like : (row : List ℕ) (rows : List (List ℕ)) → list_all (λ other. not (pointwise nat_eq row other)) rows ≡ not (list_any (pointwise nat_eq row) rows)
none_like row [] = refl
none_like row (other ∷ rows) =
    ap (λ b. not (pointwise nat_eq row other) && b) (none_like row rows) ∙ sym (not_or (pointwise nat_eq row other) (list_any (pointwise nat_eq row) rows))

any_turned : (row : List ℕ) (rows : List (List ℕ)) → list_any (pointwise nat_eq row) rows ≡ list_any (λ other. pointwise nat_eq other row) rows
any_turned row [] = refl
any_turned row (other ∷ rows) = ap₂ (λ a b. a || b) (nat_list_eq_equiv.symm row other) (any_turned row rows)

-- joined rows differ where both do, and none of the later ones stands among the earlier
pub differ_joined : (rows more : List (List ℕ)) → rows_differ (rows ++ more) ≡ (rows_differ rows && (rows_differ more && not (list_any (is_listed rows) more)))
differ_joined [] more = sym (ap (λ b. rows_differ more && not b) (any_none more) ∙ and_true (rows_differ more))
differ_joined (row ∷ rows) more =
    let front = list_all (λ other. not (pointwise nat_eq row other)) rows in
    let here = list_any (λ other. pointwise nat_eq other row) more in
    let later : list_all (λ other. not (pointwise nat_eq row other)) more ≡ not here = none_like row more ∙ ap not (any_turned row more) in
    ap₂ (λ a b. a && b) (list_all-append (λ other. not (pointwise nat_eq row other)) rows more ∙ ap (λ b. front && b) later) (differ_joined rows more)
    ∙ and_mixed front here (rows_differ rows) (rows_differ more) (list_any (is_listed rows) more)
    ∙ ap (λ b. (front && rows_differ rows) && (rows_differ more && not b)) (sym (any_or (λ other. pointwise nat_eq other row) (is_listed rows) more))

-- a row among joined rows
pub listed_joined : (rows more : List (List ℕ)) (row : List ℕ) → is_listed (rows ++ more) row ≡ (is_listed rows row || is_listed more row)
listed_joined rows more row = list_any-append (pointwise nat_eq row) rows more

-- one of some numbers is marked where one is seen that is marked
pub some_are : (rows : ℕ) (seen : ℕ → Bool) (marks : List Bool) (numbers : List ℕ) → ((number : ℕ) → number < rows → get_or marks number false ≡ seen number) → All (λ number. number < rows) numbers
    → some_marked marks numbers ≡ list_any seen numbers
some_are rows seen marks [] are within = refl
some_are rows seen marks (number ∷ numbers) are within =
    ap₂ (λ a b. a || b) (are number (All-head (λ (n : ℕ). n < rows) number numbers within))
    (some_are rows seen marks numbers are (All-tail (λ (n : ℕ). n < rows) number numbers within))

-- where none of some numbers is seen, one of them is not
not_seen : (seen : ℕ → Bool) (numbers : List ℕ) (number : ℕ) → list_any seen numbers ≡ false → list_any (nat_eq number) numbers ≡ true → seen number ≡ false
not_seen seen [] number none among = absurd (false≢true among)
not_seen seen (other ∷ numbers) number none among =
    let (first, rest) = or_parts (seen other) (list_any seen numbers) none in
    elim (or_cases (nat_eq number other) (list_any (nat_eq number) numbers) among) [
      | inl same ↦ ap seen (eqb-true number other same) ∙ first
      | inr later ↦ not_seen seen numbers number rest later
    ]

or_none : (b : Bool) → (b || false) ≡ b
or_none true = refl
or_none false = refl

-- numbers of one lead, and of one lead more
module _ (t : NumberParts) (place number : ℕ) where
  abbrev among : Bool
  among = list_any (nat_eq number) (numbers_of t place)

  pub seen_alone : is_seen t (place ∷ []) number ≡ among
  seen_alone = or_none among

  pub seen_more : (places : List ℕ) → is_seen t (places ++ place ∷ []) number ≡ (is_seen t places number || among)
  seen_more places =
      list_any-append (λ (k : ℕ). list_any (nat_eq number) (numbers_of t k)) places (place ∷ []) ∙ ap (λ b. is_seen t places number || b) seen_alone

  -- marks with those of one lead more, and without them
  pub more_marked : (places : List ℕ) → cond among true (is_seen t places number) ≡ is_seen t (places ++ place ∷ []) number
  more_marked places = by (is_seen t places number) among ∙ sym (seen_more places)
    where
      by : (a b : Bool) → cond b true a ≡ (a || b)
      by true true = refl
      by true false = refl
      by false true = refl
      by false false = refl

  pub fewer_marked : (places : List ℕ) → list_any (is_seen t places) (numbers_of t place) ≡ false → cond among false (is_seen t (places ++ place ∷ []) number) ≡ is_seen t places number
  fewer_marked places none =
      ap (λ b. cond among false b) (seen_more places)
      ∙ by (is_seen t places number) among (not_seen (is_seen t places) (numbers_of t place) number none)
    where
      by : (a b : Bool) → (b ≡ true → a ≡ false) → cond b false (a || b) ≡ a
      by a true h = sym (h refl)
      by true false h = refl
      by false false h = refl

-- numbers of joined leads
pub seen_joined : (t : NumberParts) (places more : List ℕ) (number : ℕ) → is_seen t (places ++ more) number ≡ (is_seen t places number || is_seen t more number)
seen_joined t places more number = list_any-append (λ (k : ℕ). list_any (nat_eq number) (numbers_of t k)) places more

pub any_seen : (t : NumberParts) (places more numbers : List ℕ) → list_any (is_seen t (places ++ more)) numbers ≡ (list_any (is_seen t places) numbers || list_any (is_seen t more) numbers)
any_seen t places more [] = refl
any_seen t places more (number ∷ numbers) =
    ap₂ (λ a b. a || b) (seen_joined t places more number) (any_seen t places more numbers)
    ∙ or_mixed (is_seen t places number) (is_seen t more number) (list_any (is_seen t places) numbers) (list_any (is_seen t more) numbers)

-- two tests of numbers below some number
pub any_same : (bound : ℕ) (f g : ℕ → Bool) (numbers : List ℕ) → ((number : ℕ) → number < bound → f number ≡ g number) → All (λ number. number < bound) numbers → list_any f numbers ≡ list_any g numbers
any_same bound f g [] same within = refl
any_same bound f g (number ∷ numbers) same within =
    ap₂ (λ a b. a || b) (same number (All-head (λ (n : ℕ). n < bound) number numbers within))
    (any_same bound f g numbers same (All-tail (λ (n : ℕ). n < bound) number numbers within))

pub any_mapped : {X : Type 0} (test : X → Bool) (f : ℕ → X) (numbers : List ℕ) → list_any (λ number. test (f number)) numbers ≡ list_any test (map f numbers)
any_mapped test f [] = refl
any_mapped test f (number ∷ numbers) = ap (λ b. test (f number) || b) (any_mapped test f numbers)
