-- Powers of rows, and heads of equal words.
use Rattle.std.proofs.Common.{◌≡◌, ◌≢◌, ℕ, zero, suc, ◌+◌, ◌-◌, ◌*◌, ◌<◌, ◌≤◌, ◌↔◌, List, [], ◌∷◌, ◌++◌, length, get_or, refl, sym, ap, ◌∙◌, arith, append_assoc}
use Rattle.std.proofs.lemmas.Nat.{mul-lt, row_fits}
use Rattle.std.proofs.lemmas.List.{get_or_append_left}
use Rattle.cr_row.specs.Rows.{rounds, product}
use Rattle.cr_model.specs.Problems.{ProblemParts}
use Rattle.cr_model.specs.Callings.{changes_of_all, rows_from, last_of, rows_of, length_of, head_of, AllDiffer}
use Rattle.cr_model.specs.Queries.{repeated}
use Rattle.cr_model.specs.Dead.{parts_of}
use Rattle.cr_model.specs.OneTurn.{touch_of}
use Rattle.cr_model.proofs.Below.{words, words_length, rows_counted}
use Rattle.cr_model.proofs.Ringing.{rows_on}
use Rattle.cr_ahead.specs.Home.{power, IsPartEnd}

-- heads of joined callings are products
abbrev pub HeadsMultiply : Type 0
HeadsMultiply = (p : ProblemParts) (calling more : List ℕ) → head_of p (calling ++ more) ≡ product (head_of p calling) (head_of p more)

pub words_head : HeadsMultiply → (p : ProblemParts) (a number : ℕ) (word : List ℕ) → head_of p (words a number word) ≡ power p.stage (head_of p word) number
unfolding power
words_head joined p a zero word = refl
words_head joined p a (suc number) word =
    joined p word (words (a + 1) number word) ∙ ap (product (head_of p word)) (words_head joined p (a + 1) number word)

pub repeated_head : HeadsMultiply → (p : ProblemParts) (calling : List ℕ) (number : ℕ) → head_of p (repeated number calling) ≡ power p.stage (head_of p calling) number
repeated_head joined p calling number = words_head joined p 0 number calling

-- the end of a part, by the heads of equal words
pub ends_by_heads : HeadsMultiply → (p : ProblemParts) (calling : List ℕ) → IsPartEnd p (head_of p calling)
    ↔ ((head_of p (touch_of p calling) ≡ rounds p.stage)
    × ((fewer : ℕ) → 0 < fewer → fewer < parts_of p → head_of p (repeated fewer calling) ≢ rounds p.stage))
ends_by_heads joined p calling = (
  λ end. (
    repeated_head joined p calling (parts_of p) ∙ end.round,
    λ fewer some less round. end.not_before fewer some less (sym (repeated_head joined p calling fewer) ∙ round),
  ),
  λ heads. record {
    round = sym (repeated_head joined p calling (parts_of p)) ∙ heads.0;
    not_before = λ fewer some less round. heads.1 fewer some less (repeated_head joined p calling fewer ∙ round);
  },
)

-- equal words are some of them, and the others
pub words_split : (a one other all : ℕ) (word : List ℕ) → one + other ≡ all → words a all word ≡ words a one word ++ words (a + one) other word
words_split a zero other all word sum =
    let same : all ≡ other = omega arith in
    let at : a ≡ a + zero = omega arith in
    ap (λ (n : ℕ). words a n word) same ∙ ap (λ (b : ℕ). words b other word) at
words_split a (suc one) other zero word sum = absurd (omega arith)
words_split a (suc one) other (suc all) word sum =
    let at : a + 1 + one ≡ a + suc one = omega arith in
    ap (λ (l : List ℕ). word ++ l) (words_split (a + 1) one other all word (omega arith))
    ∙ ap (λ (b : ℕ). word ++ (words (a + 1) one word ++ words b other word)) at
    ∙ sym (append_assoc word (words (a + 1) one word) (words (a + suc one) other word))

-- the last of some rows stands at the last place
pub last_at : (row : List ℕ) (rows : List (List ℕ)) → 1 ≤ length rows → get_or rows (length rows - 1) [] ≡ last_of row rows
last_at row [] some = absurd (omega arith)
last_at row (next ∷ []) some = refl
last_at row (next ∷ more ∷ rows) some =
    let at : length (next ∷ more ∷ rows) - 1 ≡ suc (length (more ∷ rows) - 1) = omega arith in
    ap (λ (n : ℕ). get_or (next ∷ more ∷ rows) n []) at ∙ last_at next (more ∷ rows) (omega arith)

-- equal words whose rows differ come round at their end alone
module _ (joined : HeadsMultiply) (p : ProblemParts) (word : List ℕ) (number : ℕ) (some : 1 ≤ length_of p word)
    (round : head_of p (repeated number word) ≡ rounds p.stage) (differ : AllDiffer (rows_of p (repeated number word))) where
  pub round_at_end : (fewer : ℕ) → 0 < fewer → fewer < number → power p.stage (head_of p word) fewer ≢ rounds p.stage
  round_at_end fewer several less early =
      let front : List ℕ = words 0 fewer word in
      let back : List ℕ = words (0 + fewer) (number - fewer) word in
      let cut : words 0 number word ≡ front ++ back = words_split 0 fewer (number - fewer) number word (omega arith) in
      let rows : rows_of p (words 0 number word) ≡ rows_of p front ++ rows_from (head_of p front) (changes_of_all p back) = ap (rows_of p) cut ∙ rows_on p front back in
      let front_long : length (rows_of p front) ≡ fewer * length_of p word = rows_counted (rounds p.stage) (changes_of_all p front) ∙ words_length p 0 fewer word in
      let all_long : length (rows_of p (words 0 number word)) ≡ number * length_of p word = rows_counted (rounds p.stage) (changes_of_all p (words 0 number word)) ∙ words_length p 0 number word in
      let one : 0 * 0 < fewer * length_of p word = mul-lt 0 0 fewer (length_of p word) several (omega arith) in
      let more : fewer * length_of p word + length_of p word ≤ number * length_of p word = row_fits fewer (length_of p word) number (length_of p word) less (omega arith) in
      let here : get_or (rows_of p (words 0 number word)) (length (rows_of p front) - 1) [] ≡ rounds p.stage =
      ap (λ (l : List (List ℕ)). get_or l (length (rows_of p front) - 1) []) rows
      ∙ get_or_append_left (rows_of p front) (rows_from (head_of p front) (changes_of_all p back)) [] (length (rows_of p front) - 1) (omega arith)
      ∙ last_at (rounds p.stage) (rows_of p front) (omega arith)
      ∙ words_head joined p 0 fewer word ∙ early in
      let there : get_or (rows_of p (words 0 number word)) (length (rows_of p (words 0 number word)) - 1) [] ≡ rounds p.stage =
      last_at (rounds p.stage) (rows_of p (words 0 number word)) (omega arith) ∙ round in
      differ (length (rows_of p front) - 1) (length (rows_of p (words 0 number word)) - 1) (omega arith) (omega arith) (here ∙ sym there)
