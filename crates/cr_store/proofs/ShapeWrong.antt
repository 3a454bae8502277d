-- Where a text of a set goes wrong first: at its first line, or after a front that all of its texts have.
use Rattle.std.proofs.Common.{◌≡◌, ℕ, zero, suc, ◌+◌, ◌-◌, ◌<◌, List, [], ◌∷◌, ◌++◌, length, flat_map, All, refl, sym, ap, ◌∙◌, subst, arith, append_assoc}
use Rattle.std.proofs.lemmas.List.Elements.{All-head, All-tail}
use Rattle.cr_store.specs.Shapes.{line_feeds}
use Rattle.cr_store.specs.ShapeStages.{Then, Lines, IsWrongAt}
use Rattle.cr_store.specs.ShapeSteps.{NoneBegins, AreRead}
use Rattle.cr_store.proofs.ShapeBytes.{feeds_joined, goes_past, whole_line}
use Rattle.cr_store.proofs.ShapeCodes.{IsCode, IsLine, line_then, code_of_line}

-- after a front that leads from one set to another
pub wrong_after : (Set Later : List ℕ → Type 0) (front rest : List ℕ) (left : ℕ) → ((t : List ℕ) → Set (front ++ t) → Later t)
    → ((t : List ℕ) → Later t → Set (front ++ t)) → IsWrongAt Later rest left → IsWrongAt Set (front ++ rest) left
wrong_after Set Later front rest left to from wrong = record {
  front = front ++ wrong.front;
  rest = wrong.rest;
  is = ap (λ l. front ++ l) wrong.is ∙ sym (append_assoc front wrong.front wrong.rest);
  left_is = wrong.left_is;
  none = λ of_set. wrong.none (to rest of_set);
  more = wrong.more;
  before = subst Set (sym (append_assoc front wrong.front wrong.more)) (from (wrong.front ++ wrong.more) wrong.before);
  here = λ upto others next same fewer of_set.
      let more_feeds : line_feeds front < line_feeds upto = omega (arith, feeds_joined front wrong.front) in
      let past = goes_past front rest upto others same more_feeds in
      let less_feeds : line_feeds wrong.front < line_feeds past.part =
      omega (arith, feeds_joined front wrong.front, feeds_joined front past.part, ap line_feeds past.is) in
      wrong.here past.part others next past.rest_is less_feeds
      (to (past.part ++ next) (subst Set (ap (λ l. l ++ next) past.is ∙ append_assoc front past.part next) of_set));
}

module _ {V : Type 0} (text : V → List ℕ) (Known : V → Type 0) where
  -- after a value's text
  then_to : (Next : V → List ℕ → Type 0) → IsCode text Known → (v : V) → Known v → (t : List ℕ) → Then text Known Next (text v ++ t) → Next v t
  then_to Next code v known t of_set =
      let both = code.one of_set.value v of_set.rest t of_set.known known (sym of_set.is) in
      subst (λ w. Next w t) both.0 (subst (Next of_set.value) both.1 of_set.next)

  pub then_after : (Next : V → List ℕ → Type 0) → IsCode text Known → (v : V) → Known v → (rest : List ℕ) (left : ℕ)
      → IsWrongAt (Next v) rest left → IsWrongAt (Then text Known Next) (text v ++ rest) left
  then_after Next code v known rest left wrong =
      wrong_after (Then text Known Next) (Next v) (text v) rest left (then_to Next code v known)
      (λ t next. record { value = v; rest = t; known = known; is = refl; next = next }) wrong

  -- at a value's line
  pub then_wrong : (Next : V → List ℕ → Type 0) (body : V → List ℕ) → IsLine body text Known → (all : List ℕ) → NoneBegins text Known all
      → (more : List ℕ) → Then text Known Next more → IsWrongAt (Then text Known Next) all (length all)
  then_wrong Next body line all none more some = record {
    front = [];
    rest = all;
    is = refl;
    left_is = refl;
    none = λ of_set. none of_set.value of_set.rest of_set.known of_set.is;
    more = more;
    before = some;
    here = λ upto others next same fewer of_set.
        let begins : upto ++ next ≡ body of_set.value ++ 10 ∷ of_set.rest = of_set.is ∙ line_then body text Known line of_set.value of_set.rest in
        let whole = whole_line (body of_set.value) upto next of_set.rest (line.lacks of_set.value of_set.known) begins fewer in
        none of_set.value (whole.0 ++ others) of_set.known
        (same
        ∙ ap (λ l. l ++ others) whole.1
        ∙ append_assoc (body of_set.value) (10 ∷ whole.0) others
        ∙ sym (line_then body text Known line of_set.value (whole.0 ++ others)));
  }

  -- there are as many lines as wanted
  pub some_lines : (Next : List ℕ → Type 0) (v : V) → Known v → (t : List ℕ) → Next t → (n : ℕ) → (all : List ℕ) × Lines text Known Next n all
  some_lines Next v known t next zero = (t, next)
  some_lines Next v known t next (suc n) =
      let fewer = some_lines Next v known t next n in
      (text v ++ fewer.0, record { value = v; rest = fewer.0; known = known; is = refl; next = fewer.1 })

  -- after some lines of more
  pub lines_after : (Next : List ℕ → Type 0) → IsCode text Known → (values : List V) → All Known values → (n m : ℕ) → m ≡ length values + n
      → (rest : List ℕ) (left : ℕ) → IsWrongAt (Lines text Known Next n) rest left → IsWrongAt (Lines text Known Next m) (flat_map text values ++ rest) left
  lines_after Next code [] known n m many rest left wrong =
      let same : n ≡ m = omega (arith, many) in
      subst (λ k. IsWrongAt (Lines text Known Next k) rest left) same wrong
  lines_after Next code (v ∷ values) known n zero many rest left wrong = absurd (omega arith)
  lines_after Next code (v ∷ values) known n (suc m) many rest left wrong =
      let later = lines_after Next code values (All-tail Known v values known) n m (omega arith) rest left wrong in
      subst (λ l. IsWrongAt (Then text Known (λ _. Lines text Known Next m)) l left) (sym (append_assoc (text v) (flat_map text values) rest))
      (then_after (λ _. Lines text Known Next m) code v (All-head Known v values known) (flat_map text values ++ rest) left later)

  -- at the line after those that were read, where fewer were read than there are
  pub lines_wrong : (Next : List ℕ → Type 0) (body : V → List ℕ) → IsLine body text Known → (first : V) → Known first → (t : List ℕ) → Next t
      → (done count : ℕ) (all : List ℕ) (values : List V) (rest : List ℕ) → AreRead text Known done all values rest → done < count → NoneBegins text Known rest
      → IsWrongAt (Lines text Known Next count) all (length rest)
  lines_wrong Next body line first of_first t next done zero all values rest so_far few none = absurd (omega arith)
  lines_wrong Next body line first of_first t next done (suc count) all values rest so_far few none =
      let some = some_lines Next first of_first t next (suc (count - done)) in
      let here = then_wrong (λ _. Lines text Known Next (count - done)) body line rest none some.0 some.1 in
      subst (λ l. IsWrongAt (Lines text Known Next (suc count)) l (length rest)) (sym so_far.is)
      (lines_after Next (code_of_line body text Known line) values so_far.known (suc (count - done)) (suc count) (omega (arith, so_far.many)) rest (length rest) here)
