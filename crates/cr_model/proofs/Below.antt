-- A kept touch and a node above it.
use Rattle.std.proofs.Common.{◌≡◌, ℕ, zero, suc, ◌+◌, ◌*◌, ◌/◌, ◌<◌, ◌≤◌, Bool, true, false, cond, ℤ, pos, ◌≤ℤ◌, nat_abs, nat_eq, List, [], ◌∷◌, ◌++◌, length, get_or, map, take, flat_map, count_by, refl, ap, ◌∙◌, subst, arith, append_assoc, append-nil, length-append}
use Rattle.std.specs.List.{range_with_len}
use Rattle.std.proofs.Math.Nat.{mul_comm}
use Rattle.std.proofs.lemmas.Int.{ints}
use Rattle.std.proofs.lemmas.Nat.{le-div}
use Rattle.std.proofs.lemmas.List.{length-map}
use Rattle.std.proofs.lemmas.List.Elements.{All-head, All-tail, All-take, All-drop}
use Rattle.std.proofs.Common.{drop, take_at, drop_at}
use Rattle.std.proofs.lemmas.List.Sums.{sum_by-append}
use Rattle.cr_row.specs.Rows.{Places, after}
use Rattle.cr_model.specs.Problems.{ProblemParts}
use Rattle.cr_model.specs.Callings.{HasSteps, changes_of, changes_of_all, lead_length, method_of, least, shortest, rows_from, rows_of, length_of, head_of}
use Rattle.cr_model.specs.Queries.{cap, part_cap, repeated, changes_of_method}
use Rattle.cr_model.specs.Nodes.{part_of, IsAbove}
use Rattle.cr_model.specs.Touches.{Kept}
use Rattle.cr_model.specs.Sound.{IsSound, sound_leads, sound_parts}
use Rattle.cr_model.specs.Dead.{parts_of, remaining_of, leads_left}
use Rattle.cr_model.proofs.Measured.{change_count_is, shortest_some}
use Rattle.cr_model.proofs.Parts.{part_repeated}
use Rattle.cr_model.proofs.Prefixes.{prefix_iff}
use Rattle.cr_model.proofs.Ringing.{lengths_on, rows_on}

-- equal words, numbered from any number
abbrev pub words : ℕ → ℕ → List ℕ → List ℕ
words a number word = flat_map (λ _. word) (range_with_len a number)

-- their length, and what is counted in them
pub words_length : (p : ProblemParts) (a number : ℕ) (word : List ℕ) → length_of p (words a number word) ≡ number * length_of p word
words_length p a zero word = omega arith
words_length p a (suc number) word = omega (arith, lengths_on p word (words (a + 1) number word), words_length p (a + 1) number word)

pub words_counted : (test : ℕ → Bool) (a number : ℕ) (word : List ℕ) → count_by test (words a number word) ≡ number * count_by test word
words_counted test a zero word = omega arith
words_counted test a (suc number) word = omega (arith, sum_by-append (λ s. cond (test s) 1 0) word (words (a + 1) number word), words_counted test (a + 1) number word)

-- changes of method: in further leads there are no more than leads
module _ (p : ProblemParts) where
  com_below_leads : (step : ℕ) (more : List ℕ) → changes_of_method p (step ∷ more) ≤ length more
  com_below_leads step [] = omega arith
  com_below_leads step (next ∷ more) = by (nat_eq (method_of p step) (method_of p next)) (com_below_leads next more)
    where
      by : (b : Bool) → changes_of_method p (next ∷ more) ≤ length more → cond b 0 1 + changes_of_method p (next ∷ more) ≤ suc (length more)
      by true h = omega arith
      by false h = omega arith

  -- a calling that goes on has its own, those of what follows, and at most one between
  pub com_joined_most : (calling more : List ℕ) → changes_of_method p (calling ++ more) ≤ changes_of_method p calling + changes_of_method p more + 1
  com_joined_most [] more = omega arith
  com_joined_most (step ∷ []) [] = omega arith
  com_joined_most (step ∷ []) (next ∷ more) = by (nat_eq (method_of p step) (method_of p next))
    where
      by : (b : Bool) → cond b 0 1 + changes_of_method p (next ∷ more) ≤ 0 + changes_of_method p (next ∷ more) + 1
      by true = omega arith
      by false = omega arith
  com_joined_most (step ∷ next ∷ calling) more = omega (arith, com_joined_most (next ∷ calling) more)

  pub com_joined_least : (calling more : List ℕ) → changes_of_method p calling + changes_of_method p more ≤ changes_of_method p (calling ++ more)
  com_joined_least [] more = omega arith
  com_joined_least (step ∷ []) [] = omega arith
  com_joined_least (step ∷ []) (next ∷ more) = omega arith
  com_joined_least (step ∷ next ∷ calling) more = omega (arith, com_joined_least (next ∷ calling) more)

  -- no more than leads follow
  pub com_onward : (calling more : List ℕ) → changes_of_method p (calling ++ more) ≤ changes_of_method p calling + length more
  com_onward [] [] = omega arith
  com_onward [] (step ∷ more) = omega (arith, com_below_leads step more)
  com_onward (step ∷ []) more = omega (arith, com_below_leads step more)
  com_onward (step ∷ next ∷ calling) more = omega (arith, com_onward (next ∷ calling) more)

  -- in equal words
  pub words_com_least : (a number : ℕ) (word : List ℕ) → number * changes_of_method p word ≤ changes_of_method p (words a number word)
  words_com_least a zero word = omega arith
  words_com_least a (suc number) word = omega (arith, com_joined_least word (words (a + 1) number word), words_com_least (a + 1) number word)

  pub words_com_most : (a number : ℕ) (word : List ℕ) → changes_of_method p (words a (suc number) word) ≤ suc number * changes_of_method p word + number
  words_com_most a zero word = omega (arith, ap (changes_of_method p) (append-nil word))
  words_com_most a (suc number) word = omega (arith, com_joined_most word (words (a + 1) (suc number) word), words_com_most (a + 1) number word)

-- a problem has some parts
pub some_parts : (p : ProblemParts) → IsSound p → 1 ≤ parts_of p
some_parts p sound = by p.query.parts (sound_parts p sound).0
  where
    by : (z : ℤ) → pos 1 ≤ℤ z → 1 ≤ nat_abs z
    by z h = omega (arith, ints)

-- the shortest lead is no longer than any other, and has some changes
least_is : (xs : List ℕ) (i : ℕ) → i < length xs → least xs ≤ get_or xs i 0
least_is [] i inside = absurd (omega arith)
least_is (x ∷ []) zero inside = omega arith
least_is (x ∷ []) (suc i) inside = absurd (omega arith)
least_is (x ∷ y ∷ xs) zero inside = omega arith
least_is (x ∷ y ∷ xs) (suc i) inside = omega (arith, least_is (y ∷ xs) i (omega arith))

-- what is known of a kept touch below a node
pub record Below (p : ProblemParts) (node calling : List ℕ) : Type 0 where
  pub kept : Kept p calling
  pub rest : List ℕ
  pub part : part_of p calling ≡ node ++ rest
  pub whole : calling ≡ words 0 (parts_of p) (node ++ rest)
  pub more : List ℕ
  pub onward : calling ≡ node ++ more

-- some words are one and more
one_word : (number : ℕ) (word : List ℕ) → 1 ≤ number → (more : List ℕ) × (words 0 number word ≡ word ++ more)
one_word zero word some = absurd (omega arith)
one_word (suc number) word some = (words 1 number word, refl)

pub below : (p : ProblemParts) (node calling : List ℕ) → IsSound p → Kept p calling → IsAbove p node calling → Below p node calling
below p node calling sound kept above =
    let (rest, part) = (prefix_iff node (part_of p calling)).0 above in
    let whole : calling ≡ words 0 (parts_of p) (node ++ rest) = part_repeated p calling kept.wanted.meets ∙ ap (repeated (parts_of p)) part in
    let (others, one) = one_word (parts_of p) (node ++ rest) (some_parts p sound) in
    record { kept = kept; rest = rest; part = part; whole = whole; more = rest ++ others; onward = whole ∙ one ∙ append_assoc node rest others }

-- the shortest lead
pub some_shortest : (p : ProblemParts) → IsSound p → 1 ≤ shortest p
some_shortest p sound = shortest_some p.stage (length p.letters) p.leads (sound_leads p sound)

shortest_is : (p : ProblemParts) (step : ℕ) → step < length p.leads → shortest p ≤ lead_length p step
shortest_is p step inside = omega (arith, least_is (map (λ lead. length lead.changes) p.leads) step (omega (arith, length-map p.leads (λ lead. length lead.changes))), change_count_is p.leads step)

-- so many leads have at least so many changes
pub shortest_leads : (p : ProblemParts) (calling : List ℕ) → HasSteps p calling → length calling * shortest p ≤ length_of p calling
shortest_leads p [] steps = omega arith
shortest_leads p (step ∷ calling) steps =
    let inside : step < length p.leads = All-head (λ s. s < length p.leads) step calling steps in
    omega (arith, shortest_is p step inside, length-append (changes_of p step) (changes_of_all p calling), shortest_leads p calling (All-tail (λ s. s < length p.leads) step calling steps))

-- the rows of a calling are as many as its changes
pub rows_counted : (row : List ℕ) (changes : List Places) → length (rows_from row changes) ≡ length changes
rows_counted row [] = refl
rows_counted row (change ∷ changes) = omega (arith, rows_counted (after change row) changes)

-- what follows has the problem's steps
steps_after : (p : ProblemParts) (node more calling : List ℕ) → calling ≡ node ++ more → HasSteps p calling → HasSteps p more
steps_after p node more calling e steps =
    subst (HasSteps p) (ap (drop (length node)) e ∙ drop_at node more (length node) refl) (All-drop (λ s. s < length p.leads) (length node) calling steps)

steps_before : (p : ProblemParts) (node more calling : List ℕ) → calling ≡ node ++ more → HasSteps p calling → HasSteps p node
steps_before p node more calling e steps =
    subst (HasSteps p) (ap (take (length node)) e ∙ take_at node more (length node) refl) (All-take (λ s. s < length p.leads) (length node) calling steps)

module _ (p : ProblemParts) (node calling : List ℕ) (sound : IsSound p) (is : Below p node calling) where
  -- the part's length
  pub part_length : parts_of p * length_of p (node ++ is.rest) ≤ cap p
  part_length =
      let short : length_of p calling ≤ cap p = is.kept.wanted.meets.short in
      omega (arith, ap (length_of p) is.whole, words_length p 0 (parts_of p) (node ++ is.rest))

  pub part_short : length_of p (node ++ is.rest) ≤ part_cap p
  part_short = le-div (length_of p (node ++ is.rest)) (cap p) (parts_of p) (some_parts p sound) (let long = part_length in omega (arith, mul_comm (length_of p (node ++ is.rest)) (parts_of p)))

  -- the leads that follow in the part
  pub rest_steps : HasSteps p is.rest
  rest_steps = steps_after p node is.rest (part_of p calling) is.part (All-take (λ s. s < length p.leads) (length calling / parts_of p) calling is.kept.wanted.steps)

  pub rest_few : length is.rest ≤ leads_left p node
  rest_few =
      le-div (length is.rest) (remaining_of p node) (shortest p) (some_shortest p sound)
      (omega (arith, shortest_leads p is.rest rest_steps, part_short, lengths_on p node is.rest))

  -- and in the whole
  pub more_steps : HasSteps p is.more
  more_steps = steps_after p node is.more calling is.onward is.kept.wanted.steps

  pub more_rows : rows_of p calling ≡ rows_of p node ++ rows_from (head_of p node) (changes_of_all p is.more)
  more_rows = ap (rows_of p) is.onward ∙ rows_on p node is.more

  pub more_length : length_of p calling ≡ length_of p node + length_of p is.more
  more_length = ap (length_of p) is.onward ∙ lengths_on p node is.more
