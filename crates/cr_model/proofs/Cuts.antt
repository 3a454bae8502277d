-- Where a reason holds of a node, no kept touch has the node above it.
use Rattle.std.proofs.Common.{◌≡◌, ◌≢◌, ℕ, zero, suc, ◌+◌, ◌-◌, ◌*◌, ◌<◌, ◌≤◌, ◌⊎◌, Bool, true, false, cond, not, ◌&&◌, ◌||◌, ℤ, pos, ◌≤ℤ◌, ◌<ℤ◌, int_lt, nat_eq, nat_lt, List, [], ◌∷◌, ◌++◌, length, map, take, drop, count_by, All, Contains, Option, Some, None, inl, inr, refl, sym, ap, ◌∙◌, subst, arith, append_assoc, length-append, length-drop, take-append-drop, ltb-true}
use Rattle.std.specs.List.{list_any}
use Rattle.std.specs.Int.Signed.{lt_z_yes}
use Rattle.std.proofs.Math.Nat.{mul_comm, mul-le-mul_left}
use Rattle.std.proofs.lemmas.Bool.{false≢true, and_parts}
use Rattle.std.proofs.lemmas.Float.{T_from_true}
use Rattle.std.proofs.lemmas.Int.{ints}
use Rattle.std.proofs.lemmas.List.{get_or-map, length-map, get_or_append_left, length-take-le}
use Rattle.std.proofs.lemmas.List.Elements.{All-head, All-tail, All-contains, Contains-append_right}
use Rattle.std.proofs.lemmas.List.Sums.{sum_by-append, count_by-le-length}
use Rattle.cr_row.specs.Rows.{Places, rounds, product, after}
use Rattle.cr_model.specs.declared.query.Com.{Com}
use Rattle.cr_model.specs.declared.query.Count.{Count}
use Rattle.cr_model.specs.declared.query.MethodCount.{MethodCount}
use Rattle.cr_model.specs.Problems.{PatternParts, ProblemParts}
use Rattle.cr_model.specs.Callings.{changes_of_all, mark_of, letter_of, shortest, rows_from, last_of, rows_of, length_of, head_of, AllDiffer}
use Rattle.cr_model.specs.Queries.{cap, part_cap, IsWithin, leads_marked, leads_lettered, fits, rows_fitting, changes_of_method, MeetsCom}
use Rattle.cr_model.specs.Sound.{IsSound}
use Rattle.cr_model.specs.Decided.{rows_differ}
use Rattle.cr_model.specs.Levels.{head_from, at_least}
use Rattle.cr_model.specs.Dead.{parts_of, leads_left, is_long, is_self_false, is_again, has_rounds, is_round, is_far, above_com, below_com, is_too_many, is_too_few}
use Rattle.cr_model.proofs.Bells.{RowLaws}
use Rattle.cr_model.proofs.Below.{words, words_length, words_counted, com_onward, com_joined_least, words_com_least, words_com_most, some_parts, Below, shortest_leads, rows_counted, part_short, rest_few, more_steps, more_rows, more_length}
use Rattle.cr_model.proofs.Deciding.{rows_differ_decided, one_less_differs}
use Rattle.cr_model.proofs.InOrder.{contains_cases, contains_more, none_held}
use Rattle.cr_model.proofs.LeastLeads.{at_least_leads}
use Rattle.cr_model.proofs.Listed.{held_first}
use Rattle.cr_model.proofs.NewRows.{listed_decided}
use Rattle.cr_model.proofs.Ringing.{head_on, lengths_on, last_of-append}
use Rattle.cr_model.proofs.Turned.{rows_joined}

-- a test of an alternative
or_cases : (a b : Bool) → (a || b) ≡ true → (a ≡ true) ⊎ (b ≡ true)
or_cases true b h = inl refl
or_cases false b h = inr h

-- some element passes a test that nothing passes of which something holds, and that holds of all
none_passes : {X : Type 0} (test : X → Bool) (P : X → Type 0) (xs : List X) → ((x : X) → test x ≡ true → P x → ⊥) → All P xs → list_any test xs ≡ true → ⊥
none_passes test P [] never all h = false≢true h
none_passes test P (x ∷ xs) never all h = elim (or_cases (test x) (list_any test xs) h) [
  | inl here ↦ never x here (All-head P x xs all)
  | inr later ↦ none_passes test P xs never (All-tail P x xs all) later
]

-- rows that do not differ
not_differing : (rows : List (List ℕ)) → not (rows_differ rows) ≡ true → AllDiffer rows → ⊥
not_differing rows h differ = false≢true (ap not (sym ((rows_differ_decided rows).1 differ)) ∙ h)

-- of joined rows that differ the first do
differ_left : (rows more : List (List ℕ)) → AllDiffer (rows ++ more) → AllDiffer rows
differ_left rows more h i j less inside same =
    h i j less (omega (arith, length-append rows more)) (get_or_append_left rows more [] i (omega arith) ∙ same ∙ sym (get_or_append_left rows more [] j inside))

-- and the last
differ_right : (rows more : List (List ℕ)) → AllDiffer (rows ++ more) → AllDiffer more
differ_right [] more h = h
differ_right (row ∷ rows) more h = differ_right rows more (one_less_differs row (rows ++ more) h).1

-- and no row stands in both
no_row_in_both : (rows more : List (List ℕ)) (row : List ℕ) → AllDiffer (rows ++ more) → Contains rows row → Contains more row → ⊥
no_row_in_both [] more row h held there = none_held row held
no_row_in_both (first ∷ rows) more row h held there =
    let both = one_less_differs first (rows ++ more) h in
    elim (contains_cases first row rows held) [
      | inl e ↦ All-contains (λ other. first ≢ other) (rows ++ more) row both.0 (Contains-append_right rows more row there) e
      | inr later ↦ no_row_in_both rows more row both.1 later there
    ]

-- rows whose images differ do
differ_unmapped : (f : List ℕ → List ℕ) (rows : List (List ℕ)) → AllDiffer (map f rows) → AllDiffer rows
differ_unmapped f rows h i j less inside same =
    h i j less (omega (arith, length-map rows f)) (get_or-map f rows i [] [] (omega arith) ∙ ap f same ∙ sym (get_or-map f rows j [] [] inside))

-- the last of some rows is one of them
last_held : (row : List ℕ) (rows : List (List ℕ)) → 1 ≤ length rows → Contains rows (last_of row rows)
last_held row [] some = absurd (omega arith)
last_held row (next ∷ []) some = held_first next []
last_held row (next ∷ more ∷ rows) some = contains_more next (last_of next (more ∷ rows)) (more ∷ rows) (last_held next (more ∷ rows) (omega arith))

-- a last row stands nowhere before, where the rows differ
last_once : (row : List ℕ) (rows more : List (List ℕ)) → AllDiffer (rows ++ more) → 1 ≤ length more → Contains rows (last_of row (rows ++ more)) → ⊥
last_once row rows more differ some held =
    let last : last_of row (rows ++ more) ≡ last_of (last_of row rows) more = last_of-append row rows more in
    no_row_in_both rows more (last_of row (rows ++ more)) differ held (subst (Contains more) (sym last) (last_held (last_of row rows) more some))

-- numbers above and below a limit
above_limit : (limit : ℤ) (number most : ℕ) → int_lt limit (pos number) ≡ true → number ≤ most → pos most ≤ℤ limit → ⊥
above_limit limit number most h few within = let less : limit <ℤ pos number = lt_z_yes (T_from_true (int_lt limit (pos number)) h) in omega (arith, ints)

below_limit : (limit : ℤ) (number least : ℕ) → int_lt (pos number) limit ≡ true → least ≤ number → limit ≤ℤ pos least → ⊥
below_limit limit number least h few within = let less : pos number <ℤ limit = lt_z_yes (T_from_true (int_lt (pos number) limit) h) in omega (arith, ints)

module _ (p : ProblemParts) (node calling : List ℕ) (sound : IsSound p) (is : Below p node calling) where
  -- Long
  pub not_long : is_long p node ≡ true → ⊥
  not_long h =
      let long : part_cap p < length_of p node = ltb-true (part_cap p) (length_of p node) h in
      absurd (omega (arith, part_short p node calling sound is, lengths_on p node is.rest))

  -- the node's rows differ
  node_differs : AllDiffer (rows_of p node)
  node_differs = differ_left (rows_of p node) (rows_from (head_of p node) (changes_of_all p is.more)) (subst AllDiffer (more_rows p node calling sound is) is.kept.wanted.touch.differ)

  -- Again
  pub not_again : is_again p node ≡ true → ⊥
  not_again h = not_differing (rows_of p node) h node_differs

  -- SelfFalse
  pub not_self_false : RowLaws → is_self_false p node ≡ true → ⊥
  not_self_false laws h =
      let front : List ℕ = take (length node - 1) node in
      let last : List ℕ = drop (length node - 1) node in
      let rows : rows_of p node ≡ rows_of p front ++ map (product (head_of p front)) (rows_of p last) = ap (rows_of p) (sym (take-append-drop (length node - 1) node)) ∙ rows_joined laws p front last in
      not_differing (rows_of p last) h
      (differ_unmapped (product (head_of p front)) (rows_of p last)
      (differ_right (rows_of p front) (map (product (head_of p front)) (rows_of p last)) (subst AllDiffer rows node_differs)))

  -- the rows of the touch, and its last one
  all_rows : AllDiffer (rows_of p node ++ rows_from (head_of p node) (changes_of_all p is.more))
  all_rows = subst AllDiffer (more_rows p node calling sound is) is.kept.wanted.touch.differ

  last_row : last_of (rounds p.stage) (rows_of p node ++ rows_from (head_of p node) (changes_of_all p is.more)) ≡ rounds p.stage
  last_row = ap (last_of (rounds p.stage)) (sym (more_rows p node calling sound is)) ∙ is.kept.wanted.touch.round

  -- rounds comes before the node's last row
  not_round_before : has_rounds p (take (length (rows_of p node) - 1) (rows_of p node)) ≡ true → ⊥
  not_round_before h =
      let n : ℕ = length (rows_of p node) - 1 in
      let rows : List (List ℕ) = rows_of p node in
      let after_it : List (List ℕ) = rows_from (head_of p node) (changes_of_all p is.more) in
      let cut : rows ++ after_it ≡ take n rows ++ (drop n rows ++ after_it) = ap (λ l. l ++ after_it) (sym (take-append-drop n rows)) ∙ append_assoc (take n rows) (drop n rows) after_it in
      let held : Contains (take n rows) (rounds p.stage) = (listed_decided (take n rows) (rounds p.stage)).0 h in
      let within : held.0 < length (take n rows) = held.1 in
      let some : 1 ≤ length (drop n rows ++ after_it) = omega (arith, length-append (drop n rows) after_it, length-drop n rows, length-take-le n rows) in
      last_once (rounds p.stage) (take n rows) (drop n rows ++ after_it) (subst AllDiffer cut all_rows) some
      (subst (Contains (take n rows)) (sym (ap (last_of (rounds p.stage)) (sym cut) ∙ last_row)) held)

  -- the length of the whole
  pub whole_length : length_of p calling ≡ parts_of p * length_of p (node ++ is.rest)
  whole_length = ap (length_of p) is.whole ∙ words_length p 0 (parts_of p) (node ++ is.rest)

  -- rounds comes last, and there are more parts
  not_round_last : has_rounds p (drop (length (rows_of p node) - 1) (rows_of p node)) ≡ true → 1 < parts_of p → ⊥
  not_round_last h several =
      let n : ℕ = length (rows_of p node) - 1 in
      let rows : List (List ℕ) = rows_of p node in
      let after_it : List (List ℕ) = rows_from (head_of p node) (changes_of_all p is.more) in
      let held : Contains (drop n rows) (rounds p.stage) = (listed_decided (drop n rows) (rounds p.stage)).0 h in
      let within : held.0 < length (drop n rows) = held.1 in
      let twice : length_of p (node ++ is.rest) * 2 ≤ length_of p (node ++ is.rest) * parts_of p = mul-le-mul_left (length_of p (node ++ is.rest)) several in
      let some : 1 ≤ length after_it = omega (
        arith,
        length-drop n rows,
        rows_counted (rounds p.stage) (changes_of_all p node),
        rows_counted (head_of p node) (changes_of_all p is.more),
        whole_length,
        mul_comm (length_of p (node ++ is.rest)) (parts_of p),
        lengths_on p node is.rest,
        more_length p node calling sound is,
      ) in
      let all : Contains rows (rounds p.stage) = subst (λ l. Contains l (rounds p.stage)) (take-append-drop n rows) (Contains-append_right (take n rows) (drop n rows) (rounds p.stage) held) in
      last_once (rounds p.stage) rows after_it all_rows some (subst (Contains rows) (sym last_row) all)

  -- Home
  pub not_round : is_round p node ≡ true → ⊥
  not_round h = elim (or_cases (has_rounds p (take (length (rows_of p node) - 1) (rows_of p node))) (has_rounds p (drop (length (rows_of p node) - 1) (rows_of p node)) && nat_lt 1 (parts_of p)) h) [
    | inl before ↦ not_round_before before
    | inr last ↦
        let both = and_parts (has_rounds p (drop (length (rows_of p node) - 1) (rows_of p node))) (nat_lt 1 (parts_of p)) last in
        not_round_last both.0 (ltb-true 1 (parts_of p) both.1)
  ]

  -- Far
  pub not_far : ((c : Places) (r : List ℕ) → after c (after c r) ≡ r) → (most : ℕ) → is_far p most node ≡ true → ⊥
  not_far twice most h =
      let far : cap p < length_of p node + shortest p * at_least p most (head_of p node) = ltb-true (cap p) (length_of p node + shortest p * at_least p most (head_of p node)) h in
      let round : head_from (head_of p node) (changes_of_all p is.more) ≡ rounds p.stage = sym (head_on p node is.more) ∙ ap (head_of p) (sym is.onward) ∙ is.kept.wanted.touch.round in
      let few : at_least p most (head_of p node) ≤ length is.more = at_least_leads twice p most (head_of p node) is.more (more_steps p node calling sound is) round in
      let times : shortest p * at_least p most (head_of p node) ≤ shortest p * length is.more = mul-le-mul_left (shortest p) few in
      let short : length_of p calling ≤ cap p = is.kept.wanted.meets.short in
      absurd (omega (arith, shortest_leads p is.more (more_steps p node calling sound is), mul_comm (shortest p) (length is.more), more_length p node calling sound is))

  -- what is counted in the node, and in what can follow it
  counted_least : (test : ℕ → Bool) → parts_of p * count_by test node ≤ count_by test calling
  counted_least test =
      let part : count_by test node ≤ count_by test (node ++ is.rest) = omega (arith, sum_by-append (λ s. cond (test s) 1 0) node is.rest) in
      omega (arith, ap (count_by test) is.whole, words_counted test 0 (parts_of p) (node ++ is.rest), mul-le-mul_left (parts_of p) part)

  counted_most : (test : ℕ → Bool) → count_by test calling ≤ parts_of p * (count_by test node + leads_left p node)
  counted_most test =
      let part : count_by test (node ++ is.rest) ≤ count_by test node + leads_left p node =
      omega (arith, sum_by-append (λ s. cond (test s) 1 0) node is.rest, count_by-le-length test is.rest, rest_few p node calling sound is) in
      omega (arith, ap (count_by test) is.whole, words_counted test 0 (parts_of p) (node ++ is.rest), mul-le-mul_left (parts_of p) part)

  fitting_least : (pattern : PatternParts) → rows_fitting pattern.cells (rows_of p node) ≤ rows_fitting pattern.cells (rows_of p calling)
  fitting_least pattern =
      omega (arith, ap (count_by (fits pattern.cells)) (more_rows p node calling sound is), sum_by-append (λ row. cond (fits pattern.cells row) 1 0) (rows_of p node) (rows_from (head_of p node) (changes_of_all p is.more)))

  fitting_most : (pattern : PatternParts) → rows_fitting pattern.cells (rows_of p calling) ≤ rows_fitting pattern.cells (rows_of p node) + (cap p - length_of p node)
  fitting_most pattern =
      let short : length_of p calling ≤ cap p = is.kept.wanted.meets.short in
      omega (
        arith,
        ap (count_by (fits pattern.cells)) (more_rows p node calling sound is),
        sum_by-append (λ row. cond (fits pattern.cells row) 1 0) (rows_of p node) (rows_from (head_of p node) (changes_of_all p is.more)),
        count_by-le-length (fits pattern.cells) (rows_from (head_of p node) (changes_of_all p is.more)),
        rows_counted (head_of p node) (changes_of_all p is.more),
        more_length p node calling sound is,
      )

  com_least : parts_of p * changes_of_method p node ≤ changes_of_method p calling
  com_least =
      let part : changes_of_method p node ≤ changes_of_method p (node ++ is.rest) = omega (arith, com_joined_least p node is.rest) in
      omega (arith, ap (changes_of_method p) is.whole, words_com_least p 0 (parts_of p) (node ++ is.rest), mul-le-mul_left (parts_of p) part)

  com_most : changes_of_method p calling ≤ parts_of p * (changes_of_method p node + leads_left p node) + parts_of p - 1
  com_most = by (parts_of p) (some_parts p sound) is.whole
    where
      part : changes_of_method p (node ++ is.rest) ≤ changes_of_method p node + leads_left p node
      part = omega (arith, com_onward p node is.rest, rest_few p node calling sound is)

      by : (parts : ℕ) → 1 ≤ parts → calling ≡ words 0 parts (node ++ is.rest) → changes_of_method p calling ≤ parts * (changes_of_method p node + leads_left p node) + parts - 1
      by zero some whole = absurd (omega arith)
      by (suc parts) some whole = omega (arith, ap (changes_of_method p) whole, words_com_most p 0 parts (node ++ is.rest), mul-le-mul_left (suc parts) part)

  -- a limit on changes of method
  not_above_com : (limits : Option Com) (number most : ℕ) → above_com limits number ≡ true → number ≤ most → MeetsCom limits most → ⊥
  not_above_com None number most h few meets = false≢true h
  not_above_com (Some limits) number most h few meets = above_limit limits.max number most h few meets.at_most

  not_below_com : (limits : Option Com) (number least : ℕ) → below_com limits number ≡ true → least ≤ number → MeetsCom limits least → ⊥
  not_below_com None number least h few meets = false≢true h
  not_below_com (Some limits) number least h few meets = below_limit limits.min number least h few meets.at_least

  -- TooMany
  pub not_too_many : is_too_many p node ≡ true → ⊥
  not_too_many h =
      let marks : Count → Bool = λ count. int_lt count.max (pos (parts_of p * leads_marked p count.mark node)) in
      let letters : MethodCount → Bool = λ count. int_lt count.max (pos (parts_of p * leads_lettered p count.letter node)) in
      let rows : PatternParts → Bool = λ pattern. int_lt pattern.max (pos (rows_fitting pattern.cells (rows_of p node))) in
      let com_too : Bool = above_com p.query.com (parts_of p * changes_of_method p node) in
      let meets = is.kept.wanted.meets in
      elim (or_cases (list_any marks p.query.counts) (list_any letters p.query.method_counts || (list_any rows p.query.patterns || com_too)) h) [
        | inl one ↦ none_passes marks (λ count. IsWithin count.min count.max (leads_marked p count.mark calling)) p.query.counts
            (λ count above within. above_limit count.max (parts_of p * leads_marked p count.mark node) (leads_marked p count.mark calling) above (counted_least (λ step. nat_eq (mark_of p step) count.mark)) within.at_most) meets.counts one
        | inr two ↦ elim (or_cases (list_any letters p.query.method_counts) (list_any rows p.query.patterns || com_too) two) [
          | inl one ↦ none_passes letters (λ count. IsWithin count.min count.max (leads_lettered p count.letter calling)) p.query.method_counts
              (λ count above within. above_limit count.max (parts_of p * leads_lettered p count.letter node) (leads_lettered p count.letter calling) above (counted_least (λ step. nat_eq (letter_of p step) count.letter)) within.at_most) meets.method_counts one
          | inr three ↦ elim (or_cases (list_any rows p.query.patterns) com_too three) [
            | inl one ↦ none_passes rows (λ pattern. IsWithin pattern.min pattern.max (rows_fitting pattern.cells (rows_of p calling))) p.query.patterns
                (λ pattern above within. above_limit pattern.max (rows_fitting pattern.cells (rows_of p node)) (rows_fitting pattern.cells (rows_of p calling)) above (fitting_least pattern) within.at_most) meets.patterns one
            | inr four ↦ not_above_com p.query.com (parts_of p * changes_of_method p node) (changes_of_method p calling) four com_least meets.com
          ]
        ]
      ]

  -- TooFew
  pub not_too_few : is_too_few p node ≡ true → ⊥
  not_too_few h =
      let marks : Count → Bool = λ count. int_lt (pos (parts_of p * (leads_marked p count.mark node + leads_left p node))) count.min in
      let letters : MethodCount → Bool = λ count. int_lt (pos (parts_of p * (leads_lettered p count.letter node + leads_left p node))) count.min in
      let rows : PatternParts → Bool = λ pattern. int_lt (pos (rows_fitting pattern.cells (rows_of p node) + (cap p - length_of p node))) pattern.min in
      let com_too : Bool = below_com p.query.com (parts_of p * (changes_of_method p node + leads_left p node) + parts_of p - 1) in
      let meets = is.kept.wanted.meets in
      elim (or_cases (list_any marks p.query.counts) (list_any letters p.query.method_counts || (list_any rows p.query.patterns || com_too)) h) [
        | inl one ↦ none_passes marks (λ count. IsWithin count.min count.max (leads_marked p count.mark calling)) p.query.counts
            (λ count below within. below_limit count.min (parts_of p * (leads_marked p count.mark node + leads_left p node)) (leads_marked p count.mark calling) below (counted_most (λ step. nat_eq (mark_of p step) count.mark)) within.at_least) meets.counts one
        | inr two ↦ elim (or_cases (list_any letters p.query.method_counts) (list_any rows p.query.patterns || com_too) two) [
          | inl one ↦ none_passes letters (λ count. IsWithin count.min count.max (leads_lettered p count.letter calling)) p.query.method_counts
              (λ count below within. below_limit count.min (parts_of p * (leads_lettered p count.letter node + leads_left p node)) (leads_lettered p count.letter calling) below (counted_most (λ step. nat_eq (letter_of p step) count.letter)) within.at_least) meets.method_counts one
          | inr three ↦ elim (or_cases (list_any rows p.query.patterns) com_too three) [
            | inl one ↦ none_passes rows (λ pattern. IsWithin pattern.min pattern.max (rows_fitting pattern.cells (rows_of p calling))) p.query.patterns
                (λ pattern below within. below_limit pattern.min (rows_fitting pattern.cells (rows_of p node) + (cap p - length_of p node)) (rows_fitting pattern.cells (rows_of p calling)) below (fitting_most pattern) within.at_least) meets.patterns one
            | inr four ↦ not_below_com p.query.com (parts_of p * (changes_of_method p node + leads_left p node) + parts_of p - 1) (changes_of_method p calling) four com_most meets.com
          ]
        ]
      ]
