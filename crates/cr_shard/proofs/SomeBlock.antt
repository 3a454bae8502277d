-- At each place of a text something stands: a block, the front of one, the end, or a first byte that cannot be.
use Rattle.std.proofs.Common.{◌≡◌, ℕ, zero, suc, ◌+◌, ◌-◌, ◌^◌, ◌<◌, ◌≤◌, ◌⊎◌, inl, inr, true, false, List, [], ◌∷◌, ◌++◌, length, get_or, take, drop, decimal, refl, sym, ap, ap₂, ◌∙◌, subst, arith}
use Rattle.std.specs.Prelude.{codes}
use Rattle.std.specs.Str.{bytes_eq}
use Rattle.std.specs.Str.Parse.{digits_value}
use Rattle.std.proofs.lemmas.Bool.{cases_lt, cases_eq, cases_Bool, both_ways}
use Rattle.std.proofs.lemmas.List.{take_all, take_more, length-drop}
use Rattle.std.proofs.lemmas.Slice.Eq.{bytes_eq-Decides}
use Rattle.cr_model.specs.Texts.{NoneTells}
use Rattle.cr_model.specs.Checkpoints.{number_line}
use Rattle.cr_store.specs.Blocks.{IsSize, IsFront, IsTorn, IsNext, Sizing}
use Rattle.cr_store.specs.declared.blocks.Next.{Next}
use Rattle.cr_store.specs.declared.blocks.Next.TheVariants as next
use Rattle.cr_model.proofs.Numerals.{value_of_number}
use Rattle.cr_store.proofs.BlockHeads.{word_torn, word_wrong, sizing_torn, sizing_wrong, sizing_whole, sizing_more, sizing_begun}
use Rattle.cr_store.proofs.BlockPlaces.{next_whole, next_short}

abbrev word : List ℕ
word = codes "block "

-- the line before a body is whole: it ends at a place, and tells so many bytes
record IsWholeLine (text : List ℕ) : Type 0 where
  start : ℕ
  size : ℕ
  is : IsSize size × (start ≤ length text) × (take start text ≡ number_line (codes "block") size)

-- it is wrong at a place
record IsWrongLine (text : List ℕ) : Type 0 where
  place : ℕ
  is : (place < length text) × IsTorn (take place text) × (IsFront (take (place + 1) text) → ⊥)

-- it is whole, torn, or wrong
abbrev Line : List ℕ → Type 0
Line text = IsWholeLine text ⊎ (IsTorn text ⊎ IsWrongLine text)

-- the size that digits write, or none
size_told : (digits : List ℕ) → ((n : ℕ) × IsSize n × (digits ≡ decimal n)) ⊎ NoneTells decimal IsSize digits
size_told digits = by (cases_lt 0 value) (cases_lt value (2 ^ 63)) (cases_Bool (bytes_eq digits (decimal value)))
  where
    value : ℕ
    value = digits_value 10 digits

    one : (n : ℕ) → IsSize n → digits ≡ decimal n → value ≡ n
    one n size is = ap (digits_value 10) is ∙ value_of_number n size.1

    by : (0 < value) ⊎ (value ≤ 0) → (value < 2 ^ 63) ⊎ (2 ^ 63 ≤ value) → (bytes_eq digits (decimal value) ≡ true) ⊎ (bytes_eq digits (decimal value) ≡ false)
        → ((n : ℕ) × IsSize n × (digits ≡ decimal n)) ⊎ NoneTells decimal IsSize digits
    by (inr none) small same = inr (λ n size is. omega (arith, none, one n size is, size.0))
    by (inl some) (inr great) same = inr (λ n size is. omega (arith, great, one n size is, size.1))
    by (inl some) (inl small) (inl same) = inl (value, (some, small), (bytes_eq-Decides digits (decimal value)).0 same)
    by (inl some) (inl small) (inr differs) =
        inr (λ n size is. both_ways _ differs ((bytes_eq-Decides digits (decimal value)).1 (is ∙ ap decimal (sym (one n size is)))))

module _ (text : List ℕ) where
  -- behind the word, from a place on
  module _ (begins : take 6 text ≡ word) where
    none_so_far : (place size : ℕ) → Sizing text place size → place < length text → (get_or text place 0 ≡ 10 → size ≡ 0)
        → ((n : ℕ) × IsSize n × (take (place + 1 - 6) (drop 6 text) ≡ decimal n)) ⊎ NoneTells decimal IsSize (take (place + 1 - 6) (drop 6 text))
        → Line text ⊎ ((n : ℕ) × Sizing text (place + 1) n)
    none_so_far place size sizing inside unended (inl more) = inr (more.0, sizing_more text begins place size sizing inside more.0 more.1 more.2)
    none_so_far place size sizing inside unended (inr none) = inl (inr (inr (record { place = place; is = sizing_wrong text begins place size sizing inside none unended })))

    one_step : (place size : ℕ) → Sizing text place size → place < length text → (get_or text place 0 ≡ 10) ⊎ (get_or text place 0 ≡ 10 → ⊥)
        → (0 < size) ⊎ (size ≤ 0) → Line text ⊎ ((n : ℕ) × Sizing text (place + 1) n)
    one_step place size sizing inside (inl feed) (inl some) = inl (inl (record { start = place + 1; size = size; is = sizing_whole text begins place size sizing inside feed some }))
    one_step place size sizing inside (inl feed) (inr none) =
        none_so_far place size sizing inside (λ _. omega (arith, none)) (size_told (take (place + 1 - 6) (drop 6 text)))
    one_step place size sizing inside (inr other) some =
        none_so_far place size sizing inside (λ feed. absurd (other feed)) (size_told (take (place + 1 - 6) (drop 6 text)))

    steps : (left place size : ℕ) → place + left ≡ length text → Sizing text place size → Line text
    steps zero place size all sizing =
        inr (inl (subst IsTorn (take_all place text (omega (arith, all))) (sizing_torn text begins place size sizing)))
    steps (suc left) place size all sizing =
        elim (one_step place size sizing (omega (arith, all)) (cases_eq (get_or text place 0) 10) (cases_lt 0 size)) [
          | inl told ↦ told
          | inr more ↦ steps left (place + 1) more.0 (omega (arith, all)) more.1
        ]

    behind_word : 6 ≤ length text → Line text
    behind_word some = steps (length text - 6) 6 0 (omega (arith, some)) (sizing_begun text some)

  -- in the word, from a place on
  in_word : (left k : ℕ) → k + left ≡ 6 → k ≤ length text → take k text ≡ take k word → Line text
  in_word zero k all inside same =
      let six : k ≡ 6 = omega (arith, all) in
      behind_word (subst (λ n. take n text ≡ take n word) six same) (omega (arith, inside, six))
  in_word (suc left) k all inside same =
      by (cases_lt k (length text)) (cases_eq (get_or text k 0) (get_or word k 0)) (λ more. in_word left (k + 1) (omega (arith, all)) (omega (arith, more)))
    where
      few : k < 6
      few = omega (arith, all)

      by : (k < length text) ⊎ (length text ≤ k) → (get_or text k 0 ≡ get_or word k 0) ⊎ (get_or text k 0 ≡ get_or word k 0 → ⊥)
          → (k < length text → take (k + 1) text ≡ take (k + 1) word → Line text) → Line text
      by (inr over) next later = inr (inl (subst IsTorn (take_all k text over) (word_torn text k (omega (arith, few)) same)))
      by (inl more) (inl next) later = later more
          (take_more text k 0 more ∙ ap₂ (λ x b. x ++ b ∷ []) same next ∙ sym (take_more word k 0 few))
      by (inl more) (inr differs) later = inr (inr (record { place = k; is = (more, word_torn text k (omega (arith, few)) same, word_wrong text k few more differs) }))

  some_head : Line text
  some_head = in_word 6 0 refl (omega arith) refl

-- what stands at a place
at_place : (bytes : List ℕ) (at : ℕ) → at < length bytes → Line (drop at bytes) → (n : Next) × IsNext bytes at n
at_place bytes at inside (inl whole) = elim (cases_lt (length (drop at bytes) - whole.start) whole.size) [
  | inl short ↦ (next.Torn, next_short bytes at whole.start whole.size whole.is short)
  | inr fits ↦ (next.Block (at + whole.start) whole.size, next_whole bytes at whole.start whole.size whole.is fits)
]
at_place bytes at inside (inr (inl torn)) = (next.Torn, (inside, torn))
at_place bytes at inside (inr (inr wrong)) =
    (next.Form (at + wrong.place), (omega arith, omega (arith, wrong.is.0, length-drop at bytes), moved (at + wrong.place - at) wrong.place (omega arith) wrong.is.1, λ front. wrong.is.2 (back front)))
  where
    moved : (a b : ℕ) → a ≡ b → IsTorn (take b (drop at bytes)) → IsTorn (take a (drop at bytes))
    moved a b same torn = subst (λ n. IsTorn (take n (drop at bytes))) (sym same) torn

    back : IsFront (take (at + wrong.place + 1 - at) (drop at bytes)) → IsFront (take (wrong.place + 1) (drop at bytes))
    back front = let same : at + wrong.place + 1 - at ≡ wrong.place + 1 = omega arith in subst (λ n. IsFront (take n (drop at bytes))) same front

pub next_told : (bytes : List ℕ) (at : ℕ) → at ≤ length bytes → (n : Next) × IsNext bytes at n
next_told bytes at inside = elim (cases_lt at (length bytes)) [
  | inl more ↦ at_place bytes at more (some_head (drop at bytes))
  | inr over ↦ (next.End, omega (arith, inside, over))
]
