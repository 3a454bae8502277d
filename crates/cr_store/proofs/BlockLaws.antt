-- Texts of blocks are read in one way.
use Rattle.std.proofs.Common.{◌≡◌, ℕ, suc, ◌+◌, ◌-◌, ◌<◌, ◌≤◌, inl, inr, List, [], ◌∷◌, ◌++◌, length, take, drop, decimal, refl, sym, ap, ap₂, ◌∙◌, subst, arith}
use Rattle.std.proofs.Common.{length-append, append_assoc, append-nil}
use Rattle.std.specs.Prelude.{codes, All}
use Rattle.std.proofs.lemmas.Bool.{cases_lt}
use Rattle.std.proofs.lemmas.List.{take-append-drop, take-append-le, length-take-le, length-drop, append_cancel_left, take-take}
use Rattle.std.proofs.lemmas.Fmt.{decimal_injective}
use Rattle.std.proofs.Math.Seq.{take-append_seam, take-append-add, take-nil}
use Rattle.cr_model.specs.Checkpoints.{number_line}
use Rattle.cr_model.proofs.Bytes.{cut}
use Rattle.cr_model.proofs.Lacking.{number_lacks}
use Rattle.cr_store.specs.Blocks.{block, blocks, IsBody, IsFront, IsTorn, Begins, IsNext, IsCutAt}
use Rattle.cr_store.specs.declared.blocks.Next.{Next}
use Rattle.cr_store.specs.declared.blocks.Next.TheVariants as next
use Rattle.cr_store.proofs.BlockSizes.{word, block_is, cut_torn}

-- two texts that begin with blocks have one body, and one rest
pub one_body : (b c x y : List ℕ) → IsBody b → IsBody c → block b ++ x ≡ block c ++ y → (b ≡ c) × (x ≡ y)
one_body b c x y b_size c_size same = (bodies, rests)
  where
    parts : (d z : List ℕ) → block d ++ z ≡ word ++ (decimal (length d) ++ 10 ∷ (d ++ z))
    parts d z = ap (λ t. t ++ z) (block_is d) ∙ append_assoc word (decimal (length d) ++ 10 ∷ d) z
        ∙ ap (λ t. word ++ t) (append_assoc (decimal (length d)) (10 ∷ d) z)

    split : (decimal (length b) ≡ decimal (length c)) × (b ++ x ≡ c ++ y)
    split = cut 10 (decimal (length b)) (decimal (length c)) (b ++ x) (c ++ y) (number_lacks 10 (length b) refl b_size.1) (number_lacks 10 (length c) refl c_size.1)
        (append_cancel_left word (decimal (length b) ++ 10 ∷ (b ++ x)) (decimal (length c) ++ 10 ∷ (c ++ y)) (sym (parts b x) ∙ same ∙ parts c y))

    many : length b ≡ length c
    many = decimal_injective (length b) (length c) (omega (arith, b_size.1)) (omega (arith, c_size.1)) split.0

    bodies : b ≡ c
    bodies = sym (take-append_seam b x) ∙ ap (take (length b)) split.1 ∙ ap (λ n. take n (c ++ y)) many ∙ take-append_seam c y

    rests : x ≡ y
    rests = append_cancel_left b x y (split.1 ∙ ap (λ d. d ++ y) (sym bodies))

-- a text that begins with a block is no front of one that is not whole
pub begins_untorn : (text body : List ℕ) → Begins text body → IsTorn text → ⊥
begins_untorn text body whole torn =
    let same : block body ++ (whole.rest ++ torn.rest) ≡ block torn.body ++ [] =
    sym (append_assoc (block body) whole.rest torn.rest) ∙ ap (λ t. t ++ torn.rest) (sym whole.is) ∙ sym torn.is ∙ sym (append-nil (block torn.body)) in
    let none : whole.rest ++ torn.rest ≡ [] = (one_body body torn.body (whole.rest ++ torn.rest) [] whole.size torn.size same).1 in
    omega (arith, ap length none, length-append whole.rest torn.rest, torn.some)

-- a front of a front is one
front_of_front : (text : List ℕ) (k : ℕ) → IsFront text → IsFront (take k text)
front_of_front text k front = record {
  body = front.body;
  size = front.size;
  rest = drop k text ++ front.rest;
  is = front.is ∙ ap (λ t. t ++ front.rest) (sym (take-append-drop k text)) ∙ append_assoc (take k text) (drop k text) front.rest;
}

torn_is_front : (text : List ℕ) → IsTorn text → IsFront text
torn_is_front text torn = record { body = torn.body; size = torn.size; rest = torn.rest; is = torn.is }

-- the first bytes of a text, more than the first ones of two
take_more_of : (xs ys : List ℕ) (n : ℕ) → length xs ≤ n → take n (xs ++ ys) ≡ xs ++ take (n - length xs) ys
take_more_of xs ys n many =
    let split : n ≡ length xs + (n - length xs) = omega (arith, many) in
    ap (λ k. take k (xs ++ ys)) split ∙ take-append-add xs ys (n - length xs)

module _ (bytes : List ℕ) (at : ℕ) where
  abbrev text : List ℕ
  text = drop at bytes

  -- where a block begins no first byte is wrong
  block_unformed : (body : List ℕ) (place : ℕ) → Begins text body → IsNext bytes at (next.Form place) → ⊥
  block_unformed body place whole wrong = elim (cases_lt (place - at) (length (block body))) [
    | inl inside ↦
        let front : take (place + 1 - at) text ≡ take (place + 1 - at) (block body) =
        ap (take (place + 1 - at)) whole.is ∙ take-append-le (place + 1 - at) (block body) whole.rest (omega (arith, inside, wrong.0)) in
        wrong.3 (record {
          body = body;
          size = whole.size;
          rest = drop (place + 1 - at) (block body);
          is = sym (take-append-drop (place + 1 - at) (block body)) ∙ ap (λ t. t ++ drop (place + 1 - at) (block body)) (sym front);
        })
    | inr beyond ↦ begins_untorn (take (place - at) text) body (record {
      size = whole.size;
      rest = take (place - at - length (block body)) whole.rest;
      is = ap (take (place - at)) whole.is ∙ take_more_of (block body) whole.rest (place - at) (omega (arith, beyond));
    }) wrong.2
  ]

  torn_unformed : (place : ℕ) → IsTorn text → IsNext bytes at (next.Form place) → ⊥
  torn_unformed place torn wrong = wrong.3 (front_of_front text (place + 1 - at) (torn_is_front text torn))

  form_first : (one other : ℕ) → IsNext bytes at (next.Form one) → IsNext bytes at (next.Form other) → one < other → ⊥
  form_first one other first second less =
      let cut : take (one + 1 - at) (take (other - at) text) ≡ take (one + 1 - at) text = take-take (one + 1 - at) (other - at) text (omega (arith, less, first.0)) in
      first.3 (subst IsFront cut (front_of_front (take (other - at) text) (one + 1 - at) (torn_is_front (take (other - at) text) second.2)))

  one_form : (one other : ℕ) → IsNext bytes at (next.Form one) → IsNext bytes at (next.Form other) → one ≡ other
  one_form one other first second = elim (cases_lt one other) [
    | inl less ↦ absurd (form_first one other first second less)
    | inr not ↦ elim (cases_lt other one) [
      | inl more ↦ absurd (form_first other one second first more)
      | inr nor ↦ omega (arith, not, nor)
    ]
  ]

  -- at the end stands nothing
  ended_unbegun : (body : List ℕ) → at ≡ length bytes → Begins text body → ⊥
  ended_unbegun body ended whole =
      omega (arith, ended, length-drop at bytes, ap length whole.is, length-append (block body) whole.rest)

  one_block : (place size other most : ℕ) → IsNext bytes at (next.Block place size) → IsNext bytes at (next.Block other most)
      → next.Block place size ≡ next.Block other most
  one_block place size other most one two =
      let same : one.0 ≡ two.0 = (one_body one.0 two.0 one.1.rest two.1.rest one.1.size two.1.size (sym one.1.is ∙ two.1.is)).0 in
      ap₂ next.Block (one.2 ∙ ap (λ b. at + length (number_line (codes "block") (length b))) same ∙ sym two.2) (one.3 ∙ ap length same ∙ sym two.3)

  pub one_next : (one other : Next) → IsNext bytes at one → IsNext bytes at other → one ≡ other
  one_next next.End next.End a b = refl
  one_next next.End (next.Block place size) a b = absurd (ended_unbegun b.0 a b.1)
  one_next next.End next.Torn a b = absurd (omega (arith, a, b.0))
  one_next next.End (next.Form place) a b = absurd (omega (arith, a, b.0, b.1))
  one_next (next.Block place size) next.End a b = absurd (ended_unbegun a.0 b a.1)
  one_next (next.Block place size) (next.Block other most) a b = one_block place size other most a b
  one_next (next.Block place size) next.Torn a b = absurd (begins_untorn text a.0 a.1 b.1)
  one_next (next.Block place size) (next.Form other) a b = absurd (block_unformed a.0 other a.1 b)
  one_next next.Torn next.End a b = absurd (omega (arith, b, a.0))
  one_next next.Torn (next.Block place size) a b = absurd (begins_untorn text b.0 b.1 a.1)
  one_next next.Torn next.Torn a b = refl
  one_next next.Torn (next.Form place) a b = absurd (torn_unformed place a.1 b)
  one_next (next.Form place) next.End a b = absurd (omega (arith, b, a.0, a.1))
  one_next (next.Form place) (next.Block other most) a b = absurd (block_unformed b.0 place b.1 a)
  one_next (next.Form place) next.Torn a b = absurd (torn_unformed place b.1 a)
  one_next (next.Form place) (next.Form other) a b = ap next.Form (one_form place other a b)

-- of a list all of whose bodies may stand in blocks
all_head : (body : List ℕ) (bodies : List (List ℕ)) → All IsBody (body ∷ bodies) → IsBody body
all_head body bodies all = all 0 [] (omega arith)

all_tail : (body : List ℕ) (bodies : List (List ℕ)) → All IsBody (body ∷ bodies) → All IsBody bodies
all_tail body bodies all = λ k d within. all (suc k) d (omega (arith, within))

pub blocks_injective : (one other : List (List ℕ)) → All IsBody one → All IsBody other → blocks one ≡ blocks other → one ≡ other
blocks_injective [] [] ones others same = refl
blocks_injective [] (c ∷ cs) ones others same = absurd (omega (arith, ap length same, length-append (block c) (blocks cs)))
blocks_injective (b ∷ bs) [] ones others same = absurd (omega (arith, ap length same, length-append (block b) (blocks bs)))
blocks_injective (b ∷ bs) (c ∷ cs) ones others same =
    let both = one_body b c (blocks bs) (blocks cs) (all_head b bs ones) (all_head c cs others) same in
    ap₂ (λ x xs. x ∷ xs) both.0 (blocks_injective bs cs (all_tail b bs ones) (all_tail c cs others) both.1)

pub cut_blocks : (bodies : List (List ℕ)) (place : ℕ) → All IsBody bodies → IsCutAt bodies (take place (blocks bodies))
cut_blocks [] place all = record { whole = 0; among = omega arith; rest = []; is = take-nil place; ends = inl refl }
cut_blocks (body ∷ bodies) place all = elim (cases_lt place (length (block body))) [
  | inl inside ↦ record {
    whole = 0;
    among = omega arith;
    rest = take place (block body);
    is = take-append-le place (block body) (blocks bodies) (omega (arith, inside));
    ends = elim (cases_lt 0 place) [
      | inl some ↦ inr (omega (arith, length-take-le place (block body) (omega (arith, inside)), some), cut_torn place body (all_head body bodies all) inside)
      | inr none ↦ let nought : place ≡ 0 = omega (arith, none) in inl (ap (λ n. take n (block body)) nought)
    ];
  }
  | inr beyond ↦
      let rest = cut_blocks bodies (place - length (block body)) (all_tail body bodies all) in
      record {
        whole = suc rest.whole;
        among = omega (arith, rest.among);
        rest = rest.rest;
        is = take_more_of (block body) (blocks bodies) place (omega (arith, beyond)) ∙ ap (λ t. block body ++ t) rest.is
            ∙ sym (append_assoc (block body) (blocks (take rest.whole bodies)) rest.rest);
        ends = rest.ends;
      }
]
