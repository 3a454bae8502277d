-- Leads that are gone through by their numbers, from a head on.
use Rattle.std.proofs.Common.{◌≡◌, ℕ, zero, suc, ◌+◌, ◌-◌, ◌<◌, Bool, true, false, ◌||◌, List, [], ◌∷◌, ◌++◌, length, get_or, map, take, drop, Option, Some, None, refl, sym, ap, ◌∙◌, subst, arith, append-nil, append_assoc}
use Rattle.std.specs.List.{list_any}
use Rattle.std.proofs.lemmas.Bool.{or_left, or_right, or_from}
use Rattle.std.proofs.lemmas.List.{take_more, take-append-drop}
use Rattle.std.proofs.lemmas.List.Folds.{list_any-append}
use Rattle.cr_row.specs.Rows.{Places, rounds, product, after}
use Rattle.cr_row.proofs.ChangeLaws.{length-changed}
use Rattle.cr_model.specs.Problems.{ProblemParts}
use Rattle.cr_model.specs.Callings.{changes_of, changes_of_all, rows_from, last_of, rows_of}
use Rattle.cr_model.specs.Levels.{is_listed}
use Rattle.cr_model.specs.Queries.{repeated}
use Rattle.cr_model.proofs.Below.{words}
use Rattle.cr_model.proofs.Ringing.{rows_from-append, last_of-append, changes-append, rung_from, product_of_rounds}
use Rattle.cr_path.specs.declared.numbers.table.LeadRecord.{LeadRecord}
use Rattle.cr_path.specs.Marks.{some_marked, TellOf}
use Rattle.cr_path.specs.Numbers.{NumberParts, lead_from, head_after, numbers_of, IsBase, IsRecord, IsNumbered}
use Rattle.cr_path.specs.Parts.{IsHead, HasHead, IsPassed, Passes}
use Rattle.cr_path.proofs.Children.{row_laws}
use Rattle.cr_path.proofs.Places.{record_at, tell_at}

-- equal words, numbered from any number, and joined
same_words : (a b number : ℕ) (word : List ℕ) → words a number word ≡ words b number word
same_words a b zero word = refl
same_words a b (suc number) word = ap (λ rest. word ++ rest) (same_words (a + 1) (b + 1) number word)

words_joined : (a b number more : ℕ) (word : List ℕ) → words a (number + more) word ≡ words a number word ++ words b more word
words_joined a b zero more word = let none : 0 + more ≡ more = omega arith in ap (λ n. words a n word) none ∙ same_words a b more word
words_joined a b (suc number) more word =
    let one : suc number + more ≡ suc (number + more) = omega arith in
    ap (λ n. words a n word) one ∙
    ap (λ rest. word ++ rest) (words_joined (a + 1) b number more word) ∙ sym (append_assoc word (words (a + 1) number word) (words b more word))

pub repeated_joined : (number more : ℕ) (word : List ℕ) → repeated (number + more) word ≡ repeated number word ++ repeated more word
repeated_joined number more word = words_joined 0 0 number more word

pub repeated_on : (number : ℕ) (word : List ℕ) → repeated (number + 1) word ≡ repeated number word ++ word
repeated_on number word = repeated_joined number 1 word ∙ ap (λ rest. repeated number word ++ rest) (append-nil word)

-- the length of a head
last_long : (row : List ℕ) (changes : List Places) → length (last_of row (rows_from row changes)) ≡ length row
last_long row [] = refl
last_long row (change ∷ changes) = last_long (after change row) changes ∙ length-changed change.made 1 row

-- the last of some rows, all multiplied
last_of-map : (f : List ℕ → List ℕ) (row : List ℕ) (rows : List (List ℕ)) → last_of (f row) (map f rows) ≡ f (last_of row rows)
last_of-map f row [] = refl
last_of-map f row (next ∷ rows) = last_of-map f next rows

-- a lead from a row of the stage, by changes
pub lead_rung : (p : ProblemParts) (row : List ℕ) (step : ℕ) → length row ≡ p.stage → rows_from row (changes_of p step) ≡ lead_from p row step
lead_rung p row step long =
    rung_from row_laws.after_product row_laws.rounds_right p.stage row (changes_of p step) long
    ∙ ap (λ changes. map (product row) (rows_from (rounds p.stage) changes)) (sym (append-nil (changes_of p step)))

head_rung : (p : ProblemParts) (row : List ℕ) (step : ℕ) → length row ≡ p.stage → head_after p row step ≡ last_of row (rows_from row (changes_of p step))
head_rung p row step long =
    sym (last_of-map (product row) (rounds p.stage) (rows_of p (step ∷ [])))
    ∙ ap (λ first. last_of first (lead_from p row step)) (product_of_rounds row_laws.rounds_right row p.stage long)
    ∙ ap (last_of row) (sym (lead_rung p row step long))

module _ (p : ProblemParts) (t : NumberParts) (rows : List (List ℕ)) (from : List ℕ) where
  -- changes that bring one of the rows do so with more after them
  pub stopped_on : (before more : List Places) → list_any (is_listed rows) (rows_from from before) ≡ true → list_any (is_listed rows) (rows_from from (before ++ more)) ≡ true
  stopped_on before more again =
      let later = rows_from (last_of from (rows_from from before)) more in
      ap (list_any (is_listed rows)) (rows_from-append from before more)
      ∙ list_any-append (is_listed rows) (rows_from from before) later
      ∙ or_left (list_any (is_listed rows) (rows_from from before)) (list_any (is_listed rows) later) again

  module _ (before : List Places) (base : ℕ) (passed : IsPassed p t rows from before base) where
    -- the row that they lead to
    abbrev pub mid : List ℕ
    mid = last_of from (rows_from from before)

    any_joined : (more : List Places) → list_any (is_listed rows) (rows_from from (before ++ more)) ≡ (list_any (is_listed rows) (rows_from from before) || list_any (is_listed rows) (rows_from mid more))
    any_joined more = ap (list_any (is_listed rows)) (rows_from-append from before more) ∙ list_any-append (is_listed rows) (rows_from from before) (rows_from mid more)

    -- changes that go on
    pub passed_on : (more : List Places) (result : Option ℕ) → Passes p t rows mid more result → Passes p t rows from (before ++ more) result
    passed_on more None again =
        any_joined more ∙ or_right (list_any (is_listed rows) (rows_from from before)) (list_any (is_listed rows) (rows_from mid more)) again
    passed_on more (Some next) further = record {
      is = subst (λ (row : List ℕ). IsHead p t row next)
          (sym (ap (last_of from) (rows_from-append from before more) ∙ last_of-append from (rows_from from before) (rows_from mid more))) further.is;
      new = any_joined more ∙ or_from (list_any (is_listed rows) (rows_from from before)) (list_any (is_listed rows) (rows_from mid more)) passed.new further.new;
    }

-- no changes yet
pub none_passed : (p : ProblemParts) (t : NumberParts) (rows : List (List ℕ)) (from : List ℕ) (base : ℕ) → IsHead p t from base → IsPassed p t rows from [] base
none_passed p t rows from base is = record { is = is; new = refl }

module _ (p : ProblemParts) (t : NumberParts) (numbered : IsNumbered p t) (row : List ℕ) (base step place : ℕ) (is : IsHead p t row base) (inside : step < length p.leads)
    (place_is : place ≡ base + step) where
  -- the head after a step
  next_is : (lead : LeadRecord) → lead ≡ get_or t.records place lead → IsHead p t (last_of row (rows_from row (changes_of p step))) lead.next
  next_is lead found =
      let known : IsRecord p t row step (base + step) lead =
      record_at t row base is.from step p numbered inside lead lead (found ∙ ap (λ (n : ℕ). get_or t.records n lead) place_is) in
      record {
        from = subst (λ (r : List ℕ). IsBase t r lead.next) (head_rung p row step is.long) known.next;
        long = last_long row (changes_of p step) ∙ is.long;
      }

  pub next_head : (lead : LeadRecord) → lead ≡ get_or t.records place lead → HasHead p t lead.next
  next_head lead found = record { row = last_of row (rows_from row (changes_of p step)); is = next_is lead found }

  module _ (rows : List (List ℕ)) (marks : List Bool) (tell : TellOf p t rows marks) (numbers : List ℕ) (its : numbers ≡ numbers_of t place) where
    any_told : some_marked marks numbers ≡ list_any (is_listed rows) (rows_from row (changes_of p step))
    any_told =
        ap (some_marked marks) (its ∙ ap (numbers_of t) place_is)
        ∙ tell_at t row base is.from step p numbered inside rows marks tell
        ∙ ap (list_any (is_listed rows)) (sym (lead_rung p row step is.long))

    -- a lead of which no row is marked, and one of which a row is
    pub lead_passed : (marked : Bool) → marked ≡ some_marked marks numbers → marked ≡ false → (lead : LeadRecord) → lead ≡ get_or t.records place lead
        → IsPassed p t rows row (changes_of p step) lead.next
    lead_passed marked tells none lead found = record {
      is = next_is lead found;
      new = sym any_told ∙ sym tells ∙ none;
    }

    pub lead_stopped : (marked : Bool) → marked ≡ some_marked marks numbers → marked ≡ true → list_any (is_listed rows) (rows_from row (changes_of p step)) ≡ true
    lead_stopped marked tells some = sym any_told ∙ sym tells ∙ some

-- the leads of a node
module _ (p : ProblemParts) (t : NumberParts) (rows : List (List ℕ)) (from : List ℕ) (base : ℕ) (node : List ℕ) (index step : ℕ) (inside : index < length node) (at : step ≡ get_or node index 0)
    (passed : IsPassed p t rows from (changes_of_all p (take index node)) base) where
  abbrev here : List ℕ
  here = last_of from (rows_from from (changes_of_all p (take index node)))

  one_lead : changes_of_all p (take (index + 1) node) ≡ changes_of_all p (take index node) ++ changes_of p step
  one_lead =
      ap (changes_of_all p) (take_more node index 0 inside ∙ ap (λ s. take index node ++ s ∷ []) (sym at))
      ∙ changes-append p (take index node) (step ∷ [])
      ∙ ap (λ cs. changes_of_all p (take index node) ++ cs) (append-nil (changes_of p step))

  pub node_on : (next : ℕ) → IsPassed p t rows here (changes_of p step) next → IsPassed p t rows from (changes_of_all p (take (index + 1) node)) next
  node_on next further =
      subst (λ cs. IsPassed p t rows from cs next) (sym one_lead) (passed_on p t rows from (changes_of_all p (take index node)) base passed (changes_of p step) (Some next) further)

  pub node_stopped : list_any (is_listed rows) (rows_from here (changes_of p step)) ≡ true → list_any (is_listed rows) (rows_from from (changes_of_all p node)) ≡ true
  node_stopped again =
      subst (λ cs. Passes p t rows from cs None) (sym (changes-append p (take (index + 1) node) (drop (index + 1) node)) ∙ ap (changes_of_all p) (take-append-drop (index + 1) node))
      (stopped_on p t rows from (changes_of_all p (take (index + 1) node)) (changes_of_all p (drop (index + 1) node))
      (subst (λ cs. Passes p t rows from cs None) (sym one_lead) (passed_on p t rows from (changes_of_all p (take index node)) base passed (changes_of p step) None again)))

-- the parts of a touch
module _ (p : ProblemParts) (t : NumberParts) (rows : List (List ℕ)) (from : List ℕ) (base : ℕ) (node : List ℕ) (part : ℕ) (passed : IsPassed p t rows from (changes_of_all p (repeated part node)) base) where
  abbrev after_parts : List ℕ
  after_parts = last_of from (rows_from from (changes_of_all p (repeated part node)))

  one_part : changes_of_all p (repeated (part + 1) node) ≡ changes_of_all p (repeated part node) ++ changes_of_all p node
  one_part = ap (changes_of_all p) (repeated_on part node) ∙ changes-append p (repeated part node) node

  pub part_on : (next : ℕ) → IsPassed p t rows after_parts (changes_of_all p node) next → IsPassed p t rows from (changes_of_all p (repeated (part + 1) node)) next
  part_on next further =
      subst (λ cs. IsPassed p t rows from cs next) (sym one_part) (passed_on p t rows from (changes_of_all p (repeated part node)) base passed (changes_of_all p node) (Some next) further)

  pub part_stopped : (parts : ℕ) → part < parts → list_any (is_listed rows) (rows_from after_parts (changes_of_all p node)) ≡ true → list_any (is_listed rows) (rows_from from (changes_of_all p (repeated parts node))) ≡ true
  part_stopped parts more again =
      let all : part + 1 + (parts - (part + 1)) ≡ parts = omega (arith, more) in
      subst (λ cs. Passes p t rows from cs None)
      (sym (changes-append p (repeated (part + 1) node) (repeated (parts - (part + 1)) node)) ∙ ap (changes_of_all p) (sym (repeated_joined (part + 1) (parts - (part + 1)) node) ∙ ap (λ n. repeated n node) all))
      (stopped_on p t rows from (changes_of_all p (repeated (part + 1) node)) (changes_of_all p (repeated (parts - (part + 1)) node))
      (subst (λ cs. Passes p t rows from cs None) (sym one_part) (passed_on p t rows from (changes_of_all p (repeated part node)) base passed (changes_of_all p node) None again)))
