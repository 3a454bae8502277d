-- Equal words, one after another.
use Rattle.std.proofs.Common.{◌≡◌, ℕ, zero, suc, ◌+◌, ◌*◌, List, ◌++◌, length, sym, ap, ◌∙◌, arith, append-nil, append_assoc, length-append}
use Rattle.cr_model.specs.Queries.{repeated}
use Rattle.cr_model.proofs.Below.{words}

words_steps : (a number : ℕ) (word : List ℕ) → length (words a number word) ≡ number * length word
words_steps a zero word = omega arith
words_steps a (suc number) word = omega (arith, length-append word (words (a + 1) number word), words_steps (a + 1) number word)

-- so many equal words have so many times the steps
pub repeated_steps : (number : ℕ) (word : List ℕ) → length (repeated number word) ≡ number * length word
repeated_steps number word = words_steps 0 number word

words_more : (a number : ℕ) (word : List ℕ) → words a number word ++ word ≡ words a (suc number) word
words_more a zero word = sym (append-nil word)
words_more a (suc number) word = append_assoc word (words (a + 1) number word) word ∙ ap (λ rest. word ++ rest) (words_more (a + 1) number word)

-- one more
pub repeated_more : (number : ℕ) (word : List ℕ) → repeated (number + 1) word ≡ repeated number word ++ word
repeated_more number word = let one : number + 1 ≡ suc number = omega arith in ap (λ n. repeated n word) one ∙ sym (words_more 0 number word)
