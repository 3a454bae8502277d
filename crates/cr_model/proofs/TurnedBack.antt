-- Words that turn back, and rotations of wanted touches.
use Rattle.std.proofs.Common.{◌≡◌, ◌≢◌, ℕ, zero, suc, ◌+◌, ◌-◌, ◌<◌, ◌≤◌, Bool, true, cond, nat_eq, List, [], ◌∷◌, ◌++◌, length, get_or, take, drop, count_by, Decides, Option, Some, None, is_none, Ordering, Less, Equal, Greater, is_lt, nat_cmp, refl, sym, ap, ◌∙◌, subst, arith, append_assoc, append-nil, length-append, length-drop, take-append-drop, take_at, drop_at, eqb-true}
use Rattle.std.specs.Cmp.Lexicographic.{slice_cmp}
use Rattle.std.specs.List.{range_with_len}
use Rattle.std.specs.Ordering.{ordering_then}
use Rattle.std.proofs.lemmas.Bool.{false≢true, and_parts}
use Rattle.std.proofs.lemmas.List.{length-take-le}
use Rattle.std.proofs.lemmas.List.Elements.{All-append, All-take, All-drop}
use Rattle.std.proofs.lemmas.List.Folds.{Any-from_list_any, list_any-from_Any}
use Rattle.std.proofs.lemmas.List.FromFn.{get_or-range_with_len, length-range_with_len}
use Rattle.std.proofs.lemmas.List.Sums.{sum_by-append}
use Rattle.cr_model.specs.declared.query.Com.{Com}
use Rattle.cr_model.specs.Problems.{ProblemParts}
use Rattle.cr_model.specs.Callings.{HasSteps, mark_of, letter_of}
use Rattle.cr_model.specs.Queries.{changes_of_method, MeetsCom}
use Rattle.cr_model.specs.Touches.{Wanted, IsRotation, IsLess}
use Rattle.cr_model.specs.LeastRotations.{TurnsBack}
use Rattle.cr_model.specs.Dead.{parts_of, turns_back, turn_free}
use Rattle.cr_model.proofs.Bells.{RowLaws}
use Rattle.cr_model.proofs.Below.{words}
use Rattle.cr_model.proofs.LeastRotation.{less_from_test}
use Rattle.cr_model.proofs.Turned.{touch_turned}

-- lists of one length, of which the first is less, stay so with more behind
less_onward : (xs ys more others : List ℕ) → length xs ≡ length ys → IsLess xs ys → IsLess (xs ++ more) (ys ++ others)
less_onward [] [] more others long h = absurd (cc)
less_onward [] (y ∷ ys) more others long h = absurd (omega arith)
less_onward (x ∷ xs) [] more others long h = absurd (omega arith)
less_onward (x ∷ xs) (y ∷ ys) more others long h = by (nat_cmp x y) (less_onward xs ys more others (omega arith)) h
  where
    by : (first : Ordering) → (IsLess xs ys → IsLess (xs ++ more) (ys ++ others)) → ordering_then first (slice_cmp nat_cmp xs ys) ≡ Less → ordering_then first (slice_cmp nat_cmp (xs ++ more) (ys ++ others)) ≡ Less
    by Less rest h' = refl
    by Equal rest h' = rest h'
    by Greater rest h' = absurd (cc)

-- a word that turns back makes a rotation of what it begins less
pub lesser_rotation : (word more : List ℕ) → TurnsBack word → (other : List ℕ) × IsRotation (word ++ more) other × IsLess other (word ++ more)
lesser_rotation word more turns =
    let front : List ℕ = turns.front in
    let back : List ℕ = turns.back in
    let k : ℕ = length turns.back in
    let whole : length word ≡ length front + k = ap length turns.is ∙ length-append front back in
    let cut : word ++ more ≡ take k word ++ (drop k word ++ more) = ap (λ l. l ++ more) (sym (take-append-drop k word)) ∙ append_assoc (take k word) (drop k word) more in
    let less : IsLess (back ++ (more ++ front)) (take k word ++ (drop k word ++ more)) = less_onward back (take k word) (more ++ front) (drop k word ++ more) (sym (length-take-le k word (omega arith))) turns.less in (
      (back ++ more) ++ front,
      (front, back ++ more, ap (λ l. l ++ more) turns.is ∙ append_assoc front back more, refl),
      ap (λ c. slice_cmp nat_cmp c (word ++ more)) (append_assoc back more front) ∙ ap (slice_cmp nat_cmp (back ++ (more ++ front))) cut ∙ less,
    )

-- the test of an end of a word
abbrev ends_less : List ℕ → ℕ → Bool
ends_less word k = is_lt (slice_cmp nat_cmp (drop k word) (take (length word - k) word))

from_test : (word : List ℕ) → turns_back word ≡ true → TurnsBack word
from_test word h =
    let (i, k, inside, at, passes) = Any-from_list_any (ends_less word) (range_with_len 1 (length word - 1)) h in
    let long : length (range_with_len 1 (length word - 1)) ≡ length word - 1 = length-range_with_len 1 (length word - 1) in
    let place : get_or (range_with_len 1 (length word - 1)) i k ≡ 1 + i = get_or-range_with_len 1 (length word - 1) i k (omega arith) in
    let front : length (take k word) ≡ k = length-take-le k word (omega arith) in
    let back : length (drop k word) ≡ length word - k = length-drop k word in
    record {
      front = take k word;
      back = drop k word;
      is = sym (take-append-drop k word);
      proper = λ e. let none : length (take k word) ≡ 0 = ap length e in absurd (omega arith);
      some = λ e. let none : length (drop k word) ≡ 0 = ap length e in absurd (omega arith);
      less = ap (λ n. slice_cmp nat_cmp (drop k word) (take n word)) back ∙ less_from_test (slice_cmp nat_cmp (drop k word) (take (length word - k) word)) passes;
    }

to_test : (word : List ℕ) → TurnsBack word → turns_back word ≡ true
to_test word turns =
    let k : ℕ = length turns.front in
    let whole : length word ≡ k + length turns.back = ap length turns.is ∙ length-append turns.front turns.back in
    let some : 1 ≤ k = not_empty turns.front turns.proper in
    let more : 1 ≤ length turns.back = not_empty turns.back turns.some in
    let long : length (range_with_len 1 (length word - 1)) ≡ length word - 1 = length-range_with_len 1 (length word - 1) in
    let place : get_or (range_with_len 1 (length word - 1)) (k - 1) k ≡ 1 + (k - 1) = get_or-range_with_len 1 (length word - 1) (k - 1) k (omega arith) in
    let end : drop k word ≡ turns.back = ap (drop k) turns.is ∙ drop_at turns.front turns.back k refl in
    let rest : length word - k ≡ length turns.back = omega arith in
    let passes : ends_less word k ≡ true = ap is_lt (ap (λ c. slice_cmp nat_cmp c (take (length word - k) word)) end ∙ ap (λ n. slice_cmp nat_cmp turns.back (take n word)) rest ∙ turns.less) in
    list_any-from_Any (ends_less word) (range_with_len 1 (length word - 1)) (k - 1, k, omega arith, omega arith, passes)
  where
    not_empty : (xs : List ℕ) → xs ≢ [] → 1 ≤ length xs
    not_empty [] some = absurd (some refl)
    not_empty (x ∷ xs) some = omega arith

-- the test decides
pub turns_back_decided : (word : List ℕ) → Decides (turns_back word) (TurnsBack word)
turns_back_decided word = (from_test word, to_test word)

-- equal words of which the first step goes behind
push_words : (a number step : ℕ) (word : List ℕ) → step ∷ words a number (word ++ step ∷ []) ≡ words a number (step ∷ word) ++ step ∷ []
push_words a zero step word = refl
push_words a (suc number) step word =
    ap (λ l. step ∷ l) (append_assoc word (step ∷ []) (words (a + 1) number (word ++ step ∷ []))
    ∙ ap (λ l. word ++ l) (push_words (a + 1) number step word)
    ∙ sym (append_assoc word (words (a + 1) number (step ∷ word)) (step ∷ [])))

-- empty words
no_words : (a number : ℕ) → words a number [] ≡ []
no_words a zero = refl
no_words a (suc number) = no_words (a + 1) number

-- a rotation of equal words is equal words
pub words_turned : (front back : List ℕ) (number : ℕ) (word : List ℕ) → front ++ back ≡ words 0 number word → (other : List ℕ) × (back ++ front ≡ words 0 number other)
words_turned [] back number word e = (word, append-nil back ∙ e)
words_turned (x ∷ front) back zero word e = absurd (cc)
words_turned (x ∷ front) back (suc number) [] e = let none : words 1 number [] ≡ [] = no_words 1 number in absurd (cc)
words_turned (x ∷ front) back (suc number) (y ∷ word) e =
    let first : x ≡ y = cc in
    let pushed : y ∷ words 0 (suc number) (word ++ y ∷ []) ≡ (x ∷ (front ++ back)) ++ y ∷ [] = push_words 0 (suc number) y word ∙ ap (λ l. l ++ y ∷ []) (sym e) in
    let rest : words 0 (suc number) (word ++ y ∷ []) ≡ (front ++ back) ++ y ∷ [] = cc in
    let (other, is) = words_turned front (back ++ y ∷ []) (suc number) (word ++ y ∷ []) (sym (append_assoc front back (y ∷ [])) ∙ sym rest) in
    (other, ap (λ s. back ++ s ∷ front) first ∙ sym (append_assoc back (y ∷ []) front) ∙ is)

-- what is counted stays
counted_turned : (test : ℕ → Bool) (calling other : List ℕ) → IsRotation calling other → count_by test calling ≡ count_by test other
counted_turned test calling other turned =
    let one : count_by test (turned.0 ++ turned.1) ≡ count_by test turned.0 + count_by test turned.1 = sum_by-append (λ s. cond (test s) 1 0) turned.0 turned.1 in
    let two : count_by test (turned.1 ++ turned.0) ≡ count_by test turned.1 + count_by test turned.0 = sum_by-append (λ s. cond (test s) 1 0) turned.1 turned.0 in
    ap (count_by test) turned.2 ∙ one ∙ omega arith ∙ sym two ∙ sym (ap (count_by test) turned.3)

-- the steps too
steps_turned : (p : ProblemParts) (calling other : List ℕ) → IsRotation calling other → HasSteps p calling → HasSteps p other
steps_turned p calling other turned steps =
    let front : HasSteps p turned.0 = subst (HasSteps p) (ap (take (length turned.0)) turned.2 ∙ take_at turned.0 turned.1 (length turned.0) refl) (All-take (λ s. s < length p.leads) (length turned.0) calling steps) in
    let back : HasSteps p turned.1 = subst (HasSteps p) (ap (drop (length turned.0)) turned.2 ∙ drop_at turned.0 turned.1 (length turned.0) refl) (All-drop (λ s. s < length p.leads) (length turned.0) calling steps) in
    subst (HasSteps p) (sym turned.3) (All-append (λ s. s < length p.leads) turned.1 turned.0 back front)

-- no limits on changes of method
no_com : (limits : Option Com) (number : ℕ) → is_none limits ≡ true → MeetsCom limits number
no_com None number h = tt
no_com (Some limits) number h = absurd (false≢true h)

-- a rotation of a wanted touch is wanted, where the query is the same for all rotations
pub wanted_turned : RowLaws → (p : ProblemParts) (calling other : List ℕ) → turn_free p.query ≡ true → Wanted p calling → IsRotation calling other → Wanted p other
wanted_turned laws p calling other free wanted turned =
    let (touch, long) = touch_turned laws p calling other wanted.touch turned in
    let meets = wanted.meets in
    let both = and_parts (nat_eq (length p.query.patterns) 0) (is_none p.query.com) free in
    let none : length p.query.patterns ≡ 0 = eqb-true (length p.query.patterns) 0 both.0 in
    let (word, are) = words_turned turned.0 turned.1 (parts_of p) meets.parts.0 (sym turned.2 ∙ meets.parts.1) in
    record {
      steps = steps_turned p calling other turned wanted.steps;
      touch = touch;
      meets = record {
        long = rw long meets.long;
        short = rw long meets.short;
        parts = (word, turned.3 ∙ are);
        counts = λ k d inside. rw (← counted_turned (λ step. nat_eq (mark_of p step) (get_or p.query.counts k d).mark) calling other turned) (meets.counts k d inside);
        method_counts = λ k d inside. rw (← counted_turned (λ step. nat_eq (letter_of p step) (get_or p.query.method_counts k d).letter) calling other turned) (meets.method_counts k d inside);
        patterns = λ k d inside. absurd (omega arith);
        «com» = no_com p.query.com (changes_of_method p other) both.1;
      };
    }
