-- How the line before a body is read.
use Rattle.std.proofs.Common.{◌≡◌, ℕ, ◌+◌, ◌-◌, ◌<◌, ◌≤◌, ◌⊎◌, inl, inr, List, [], ◌∷◌, ◌++◌, length, get_or, take, drop, replicate, decimal, refl, sym, ap, ap₂, ◌∙◌, subst, arith}
use Rattle.std.proofs.Common.{length-append, append_assoc}
use Rattle.std.proofs.lemmas.Bool.{cases_lt}
use Rattle.std.proofs.lemmas.List.{take-append-le, length-take-le, length-drop, get_or-take, append_cancel_left, length-replicate, get_or_append_left, get_or-drop, take_more, take_all}
use Rattle.std.proofs.Math.Seq.{get_or-append_seam, take-add}
use Rattle.std.proofs.lemmas.Str.Parse.{digit_at}
use Rattle.std.proofs.lemmas.Fmt.{decimal_nonempty, digits_decimal}
use Rattle.cr_model.specs.Texts.{NoneTells}
use Rattle.cr_model.proofs.Numerals.{own}
use Rattle.cr_store.specs.Blocks.{block, IsSize, IsFront, IsTorn, IsHead, Sizing}
use Rattle.cr_store.specs.declared.blocks.Head.TheVariants as head
use Rattle.cr_store.proofs.BlockSizes.{word, block_is, cut_torn, front_of_size}

abbrev one : List ℕ
one = 0 ∷ []

one_size : IsSize (length one)
one_size = (omega arith, omega arith)

one_long : 6 < length (block one)
one_long =
    let long : length (block one) ≡ length word + length (decimal 1 ++ 10 ∷ one) = ap length (block_is one) ∙ length-append word (decimal 1 ++ 10 ∷ one) in
    let some : length (decimal 1 ++ 10 ∷ one) ≡ length (decimal 1) + 2 = length-append (decimal 1) (10 ∷ one) in
    let six : length word ≡ 6 = refl in
    omega (arith, long, some, six)

-- a front of the word
pub word_torn : (text : List ℕ) (k : ℕ) → k ≤ 6 → take k text ≡ take k word → IsTorn (take k text)
word_torn text k few same = subst IsTorn (take-append-le k word (decimal 1 ++ 10 ∷ one) (omega (arith, few)) ∙ sym same)
    (subst (λ b. IsTorn (take k b)) (block_is one)
    (cut_torn k one one_size (omega (arith, few, one_long))))

-- text that differs from the word in it begins no block
pub word_wrong : (text : List ℕ) (k : ℕ) → k < 6 → k < length text → (get_or text k 0 ≡ get_or word k 0 → ⊥) → IsFront (take (k + 1) text) → ⊥
word_wrong text k few inside differs front = differs (ours ∙ theirs)
  where
    ours : get_or text k 0 ≡ get_or (block front.body) k 0
    ours = sym (get_or-take (k + 1) text k 0 (omega arith)) ∙ sym (get_or_append_left (take (k + 1) text) front.rest 0 k (omega (arith, length-take-le (k + 1) text (omega (arith, inside)))))
        ∙ ap (λ b. get_or b k 0) (sym front.is)

    theirs : get_or (block front.body) k 0 ≡ get_or word k 0
    theirs = ap (λ b. get_or b k 0) (block_is front.body) ∙ get_or_append_left word (decimal (length front.body) ++ 10 ∷ front.body) 0 k (omega (arith, few))

module _ (text : List ℕ) (begins : take 6 text ≡ word) (place size : ℕ) (sizing : Sizing text place size) where
  -- the text up to the place
  up_to : take place text ≡ word ++ take (place - 6) (drop 6 text)
  up_to =
      let more : place ≡ 6 + (place - 6) = omega (arith, sizing.from) in
      ap (λ n. take n text) more ∙ take-add 6 (place - 6) text ∙ ap (λ w. w ++ take (place - 6) (drop 6 text)) begins

  pub sizing_torn : IsTorn (take place text)
  sizing_torn = elim sizing.begun [
    | inl is ↦ subst (λ n. IsTorn (take n text)) (sym is.0) (word_torn text 6 (omega arith) begins)
    | inr is ↦ record {
      body = replicate size 0;
      size = subst IsSize (sym (length-replicate size 0)) is.1;
      rest = 10 ∷ replicate size 0;
      some = omega arith;
      is = block_is (replicate size 0) ∙ ap (λ n. word ++ (decimal n ++ 10 ∷ replicate size 0)) (length-replicate size 0)
          ∙ sym (append_assoc word (decimal size) (10 ∷ replicate size 0))
          ∙ ap (λ w. w ++ 10 ∷ replicate size 0) (ap (λ ds. word ++ ds) (sym is.2) ∙ sym up_to);
    }
  ]

  -- what can't be up to the place and the byte at it
  module _ (inside : place < length text) (none : NoneTells decimal IsSize (take (place + 1 - 6) (drop 6 text)))
      (unended : get_or text place 0 ≡ 10 → size ≡ 0) (front : IsFront (take (place + 1) text)) where
    abbrev digits : List ℕ
    digits = take (place + 1 - 6) (drop 6 text)

    abbrev number : List ℕ
    number = decimal (length front.body)

    many : length digits ≡ place + 1 - 6
    many = length-take-le (place + 1 - 6) (drop 6 text) (omega (arith, length-drop 6 text, inside))

    -- the digits and what may follow are a number, a line feed and a body
    same : digits ++ front.rest ≡ number ++ 10 ∷ front.body
    same =
        let more : place + 1 ≡ 6 + (place + 1 - 6) = omega (arith, sizing.from) in
        let split : take (place + 1) text ≡ word ++ digits =
        ap (λ n. take n text) more ∙ take-add 6 (place + 1 - 6) text ∙ ap (λ w. w ++ digits) begins in
        append_cancel_left word (digits ++ front.rest) (number ++ 10 ∷ front.body)
        (sym (append_assoc word digits front.rest) ∙ ap (λ x. x ++ front.rest) (sym split) ∙ sym front.is ∙ block_is front.body)

    -- they are no more than the number
    within : length digits ≤ length number → ⊥
    within few =
        let cut : digits ≡ take (length digits) number =
        sym (take-append-le (length digits) digits front.rest (omega arith) ∙ take_all (length digits) digits (omega arith))
        ∙ ap (take (length digits)) same ∙ take-append-le (length digits) number (10 ∷ front.body) few in
        let size : (n : ℕ) × IsSize n × (take (length digits) number ≡ decimal n) =
        front_of_size (length front.body) (length digits) front.size (omega (arith, many, sizing.from)) few in
        none size.0 size.1 (cut ∙ size.2)

    -- nor more than it: the byte behind it is the line feed
    feed : length number < length digits → get_or digits (length number) 0 ≡ 10
    feed more = sym (get_or_append_left digits front.rest 0 (length number) more) ∙ ap (λ x. get_or x (length number) 0) same
        ∙ get_or-append_seam number 10 front.body 0

    begun : length number < length digits → ((place ≡ 6) × (size ≡ 0)) ⊎ ((6 < place) × IsSize size × (take (place - 6) (drop 6 text) ≡ decimal size)) → ⊥
    begun more (inl is) = omega (arith, more, many, is.0, decimal_nonempty (length front.body) (omega (arith, front.size.1)))
    begun more (inr is) = elim (cases_lt (length number) (place - 6)) [
      | inl less ↦
          let long : length (take (place - 6) (drop 6 text)) ≡ place - 6 = length-take-le (place - 6) (drop 6 text) (omega (arith, length-drop 6 text, inside)) in
          let same_byte : get_or digits (length number) 0 ≡ get_or (decimal size) (length number) 0 =
          get_or-take (place + 1 - 6) (drop 6 text) (length number) 0 (omega (arith, less, sizing.from))
          ∙ sym (get_or-take (place - 6) (drop 6 text) (length number) 0 less) ∙ ap (λ x. get_or x (length number) 0) is.2 in
          let digit = digit_at (decimal size) (length number) (own.to (decimal size) (digits_decimal own size (omega (arith, is.1.1)))) (omega (arith, less, long, ap length is.2)) in
          omega (arith, digit.0, same_byte, feed more)
      | inr not ↦
          let last : length number ≡ place - 6 = omega (arith, not, more, many, sizing.from) in
          let byte : get_or digits (length number) 0 ≡ get_or text place 0 =
          get_or-take (place + 1 - 6) (drop 6 text) (length number) 0 (omega (arith, last, sizing.from))
          ∙ get_or-drop 6 text (length number) 0 ∙ ap (λ n. get_or text n 0) (omega (arith, last, sizing.from)) in
          let nothing : size ≡ 0 = unended (sym byte ∙ feed more) in
          omega (arith, nothing, is.1.0)
    ]

    pub no_front : ⊥
    no_front = elim (cases_lt (length number) (length digits)) [
      | inl more ↦ begun more sizing.begun
      | inr not ↦ within (omega (arith, not))
    ]

  pub sizing_wrong : place < length text → NoneTells decimal IsSize (take (place + 1 - 6) (drop 6 text)) → (get_or text place 0 ≡ 10 → size ≡ 0)
      → IsHead text (head.Wrong place)
  sizing_wrong inside none unended = (inside, sizing_torn, no_front inside none unended)

  -- the line is whole
  pub sizing_whole : place < length text → get_or text place 0 ≡ 10 → 0 < size → IsHead text (head.Whole (place + 1) size)
  sizing_whole inside feed some = elim sizing.begun [
    | inl is ↦ absurd (omega (arith, is.1, some))
    | inr is ↦ (
      is.1,
      omega (arith, inside),
      take_more text place 0 inside ∙ ap₂ (λ x b. x ++ b ∷ []) (up_to ∙ ap (λ ds. word ++ ds) is.2) feed
          ∙ append_assoc word (decimal size) (10 ∷ []),
    )
  ]

  -- one digit more
  pub sizing_more : place < length text → (more : ℕ) → IsSize more → take (place + 1 - 6) (drop 6 text) ≡ decimal more → Sizing text (place + 1) more
  sizing_more inside more is digits = record {
    from = omega (arith, sizing.from);
    to = omega (arith, inside);
    begun = inr (omega (arith, sizing.from), is, digits);
  }

pub sizing_begun : (text : List ℕ) → 6 ≤ length text → Sizing text 6 0
sizing_begun text some = record { from = omega arith; to = some; begun = inl (refl, refl) }
