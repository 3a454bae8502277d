-- The line feeds in texts.
use Rattle.std.proofs.Common.{◌≡◌, ℕ, ◌+◌, ◌<◌, false, cond, nat_eq, List, [], ◌∷◌, ◌++◌, length, get_or, take, drop, refl, sym, ap, ◌∙◌, arith}
use Rattle.std.specs.List.{list_any}
use Rattle.std.proofs.lemmas.Bool.{or_parts, eqb-false}
use Rattle.std.proofs.lemmas.List.{take_at, drop_at}
use Rattle.std.proofs.lemmas.List.Sums.{sum_by-append, sum_by-cons}
use Rattle.cr_model.proofs.Bytes.{lacks_rest}
use Rattle.cr_model.specs.Texts.{Lacks}
use Rattle.cr_store.specs.Shapes.{line_feeds}

pub feeds_joined : (a b : List ℕ) → line_feeds (a ++ b) ≡ line_feeds a + line_feeds b
feeds_joined a b = sum_by-append (λ x. cond (nat_eq 10 x) 1 0) a b

pub feeds_more : (x : ℕ) (xs : List ℕ) → line_feeds (x ∷ xs) ≡ cond {A = ℕ} (nat_eq 10 x) 1 0 + line_feeds xs
feeds_more x xs = sum_by-cons (λ y. cond (nat_eq 10 y) 1 0) x xs

-- a text without line feeds has none
pub feeds_lacking : (text : List ℕ) → Lacks 10 text → line_feeds text ≡ 0
feeds_lacking [] lacks = refl
feeds_lacking (x ∷ text) lacks =
    let (here, later) = or_parts (nat_eq 10 x) (list_any (nat_eq 10) text) lacks in
    let one : cond {A = ℕ} (nat_eq 10 x) 1 0 ≡ 0 = ap (λ b. cond {A = ℕ} b 1 0) here in
    omega (arith, feeds_more x text, feeds_lacking text later)

-- what a text has after a front, where what comes after both is known
pub record Past (front text rest others : List ℕ) : Type 0 where
  pub part : List ℕ
  pub is : text ≡ front ++ part
  pub rest_is : rest ≡ part ++ others

-- a front with more line feeds goes past one with fewer
pub goes_past : (front rest upto others : List ℕ) → front ++ rest ≡ upto ++ others → line_feeds front < line_feeds upto → Past front upto rest others
goes_past [] rest upto others same fewer = record { part = upto; is = refl; rest_is = same }
goes_past (c ∷ front) rest [] others same fewer = absurd (omega (arith, feeds_more c front))
goes_past (c ∷ front) rest (d ∷ upto) others same fewer =
    let first : c ≡ d = ap (λ l. get_or l 0 0) same in
    let one : cond {A = ℕ} (nat_eq 10 c) 1 0 ≡ cond {A = ℕ} (nat_eq 10 d) 1 0 = ap (λ n. cond {A = ℕ} (nat_eq 10 n) 1 0) first in
    let later = goes_past front rest upto others (ap (drop 1) same) (omega (arith, feeds_more c front, feeds_more d upto)) in
    record { part = later.part; is = let e : upto ≡ front ++ later.part = later.is in cc; rest_is = later.rest_is }

-- a text with a line feed that begins as a line does has the whole line
pub whole_line : (line upto more rest : List ℕ) → Lacks 10 line → upto ++ more ≡ line ++ 10 ∷ rest → 0 < line_feeds upto → (part : List ℕ) × (upto ≡ line ++ 10 ∷ part)
whole_line line [] more rest lacks same some = absurd (omega arith)
whole_line [] (d ∷ upto) more rest lacks same some =
    let first : d ≡ 10 = ap (λ l. get_or l 0 0) same in
    (upto, ap (λ n. n ∷ upto) first)
whole_line (c ∷ line) (d ∷ upto) more rest lacks same some =
    let first : d ≡ c = ap (λ l. get_or l 0 0) same in
    let (here, _) = or_parts (nat_eq 10 c) (list_any (nat_eq 10) line) lacks in
    let none : cond {A = ℕ} (nat_eq 10 d) 1 0 ≡ 0 = ap (λ n. cond {A = ℕ} (nat_eq 10 n) 1 0) first ∙ ap (λ b. cond {A = ℕ} b 1 0) here in
    let later = whole_line line upto more rest (lacks_rest 10 c line lacks) (ap (drop 1) same) (omega (arith, feeds_more d upto)) in
    (later.0, let e : upto ≡ line ++ 10 ∷ later.0 = later.1 in cc)

-- fronts of one length
pub append_parts : (a b x y : List ℕ) → length a ≡ length b → a ++ x ≡ b ++ y → (a ≡ b) × (x ≡ y)
append_parts a b x y long same = (
  sym (take_at a x (length a) refl) ∙ ap (take (length a)) same ∙ take_at b y (length a) (sym long),
  sym (drop_at a x (length a) refl) ∙ ap (drop (length a)) same ∙ drop_at b y (length a) (sym long),
)

pub some_left : (n : ℕ) → nat_eq n 0 ≡ false → 0 < n
some_left n e =
    let other : n ≡ 0 → ⊥ = eqb-false n 0 e in
    omega arith
