-- A calling of equal words is its first word, so often.
use Rattle.std.proofs.Common.{◌≡◌, ℕ, zero, suc, ◌+◌, ◌*◌, ◌/◌, List, length, take, flat_map, nat_abs, refl, sym, ap, ◌∙◌, arith, length-append, take_at, mul-div_cancel}
use Rattle.std.specs.List.{range_with_len}
use Rattle.cr_model.specs.Problems.{ProblemParts}
use Rattle.cr_model.specs.Queries.{repeated, Meets}
use Rattle.cr_model.specs.Nodes.{part_of}

-- the length of equal words
words_length : (a number : ℕ) (word : List ℕ) → length (flat_map (λ _. word) (range_with_len a number)) ≡ number * length word
words_length a zero word = omega arith
words_length a (suc number) word = omega (arith, length-append word (flat_map (λ _. word) (range_with_len (a + 1) number)), words_length (a + 1) number word)

-- a calling of equal words begins with the word, and that is its share of the length
pub first_word : (number : ℕ) (calling word : List ℕ) → calling ≡ repeated (suc number) word → take (length calling / suc number) calling ≡ word
first_word number calling word e =
    let long : length calling ≡ length word * suc number = ap length e ∙ words_length 0 (suc number) word ∙ omega arith in
    let part : length calling / suc number ≡ length word = ap (λ n. n / suc number) long ∙ mul-div_cancel (length word) (omega arith) in
    ap (λ n. take n calling) part ∙ ap (take (length word)) e ∙ take_at word (flat_map (λ _. word) (range_with_len 1 number)) (length word) refl

-- equal words are the first of them, so often
pub repeats_first : (number : ℕ) (calling word : List ℕ) → calling ≡ repeated number word → calling ≡ repeated number (take (length calling / number) calling)
repeats_first zero calling word e = e
repeats_first (suc number) calling word e = e ∙ ap (repeated (suc number)) (sym (first_word number calling word e))

-- a calling that meets the query is its part, so often
pub part_repeated : (p : ProblemParts) (calling : List ℕ) → Meets p calling → calling ≡ repeated (nat_abs p.query.parts) (part_of p calling)
part_repeated p calling meets = repeats_first (nat_abs p.query.parts) calling meets.parts.0 meets.parts.1
