-- A list begins another where the other is it and some more.
use Rattle.std.proofs.Common.{◌≡◌, ℕ, ◌↔◌, ◌⊎◌, true, nat_eq, List, [], ◌∷◌, ◌++◌, inl, inr, refl, sym, ap, ap₂, ◌∙◌, eqb-true, eq-eqb, append-nil, append_assoc}
use Rattle.std.proofs.lemmas.Bool.{false≢true, and_parts, and_from}
use Rattle.cr_model.specs.Nodes.{is_prefix}

-- what follows a node that begins some steps
rest_of : (node steps : List ℕ) → is_prefix node steps ≡ true → (rest : List ℕ) × (steps ≡ node ++ rest)
rest_of [] steps h = (steps, refl)
rest_of (x ∷ node) [] h = absurd (false≢true h)
rest_of (x ∷ node) (y ∷ steps) h =
    let both = and_parts (nat_eq x y) (is_prefix node steps) h in
    let (rest, is) = rest_of node steps both.1 in
    (rest, ap₂ ◌∷◌ (sym (eqb-true x y both.0)) is)

-- a node begins itself and some more
begins : (node rest : List ℕ) → is_prefix node (node ++ rest) ≡ true
begins [] rest = refl
begins (x ∷ node) rest = and_from (nat_eq x x) (is_prefix node (node ++ rest)) (eq-eqb x x refl) (begins node rest)

-- both ways
pub prefix_iff : (node steps : List ℕ) → (is_prefix node steps ≡ true) ↔ ((rest : List ℕ) × (steps ≡ node ++ rest))
prefix_iff node steps = (rest_of node steps, λ more. ap (is_prefix node) more.1 ∙ begins node more.0)

-- a node begins itself
pub begins_itself : (node : List ℕ) → is_prefix node node ≡ true
begins_itself node = (prefix_iff node node).1 ([], sym (append-nil node))

-- and what is begun by what it begins
pub begins_onward : (node other steps : List ℕ) → is_prefix node other ≡ true → is_prefix other steps ≡ true → is_prefix node steps ≡ true
begins_onward node other steps one two =
    let (rest, is) = rest_of node other one in
    let (more, are) = rest_of other steps two in
    (prefix_iff node steps).1 (rest ++ more, are ∙ ap (λ l. l ++ more) is ∙ append_assoc node rest more)

-- of two lists that begin a third one begins the other
pub one_begins : (node other steps : List ℕ) → is_prefix node steps ≡ true → is_prefix other steps ≡ true → (is_prefix node other ≡ true) ⊎ (is_prefix other node ≡ true)
one_begins [] other steps one two = inl refl
one_begins (x ∷ node) [] steps one two = inr refl
one_begins (x ∷ node) (y ∷ other) [] one two = absurd (false≢true one)
one_begins (x ∷ node) (y ∷ other) (z ∷ steps) one two =
    let first = and_parts (nat_eq x z) (is_prefix node steps) one in
    let second = and_parts (nat_eq y z) (is_prefix other steps) two in
    let same : x ≡ y = eqb-true x z first.0 ∙ sym (eqb-true y z second.0) in
    elim (one_begins node other steps first.1 second.1) [
      | inl h ↦ inl (and_from (nat_eq x y) (is_prefix node other) (eq-eqb x y same) h)
      | inr h ↦ inr (and_from (nat_eq y x) (is_prefix other node) (eq-eqb y x (sym same)) h)
    ]
