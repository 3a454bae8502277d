-- Changes that are rung past rows.
use Rattle.std.proofs.Common.{◌≡◌, ℕ, suc, zero, ◌+◌, ◌-◌, ◌<◌, List, [], ◌∷◌, ◌++◌, length, get_or, take, drop, All, Contains, Option, Some, None, refl, sym, ap, ◌∙◌, subst, arith, append-nil, append_assoc, length-append}
use Rattle.std.proofs.lemmas.List.{take_more, take-append-drop, get_or_append_left, get_or-append-add}
use Rattle.std.proofs.lemmas.List.Elements.{All-append, All-cons, All-nil}
use Rattle.cr_row.specs.Rows.{Places, after}
use Rattle.cr_model.specs.Problems.{ProblemParts}
use Rattle.cr_model.specs.Callings.{changes_of, changes_of_all, rows_from, last_of}
use Rattle.cr_model.specs.Queries.{repeated}
use Rattle.cr_model.proofs.Below.{words}
use Rattle.cr_model.proofs.Ringing.{rows_from-append, last_of-append, changes-append}
use Rattle.cr_prune.specs.Parts.{AreNew, RingsPast}

-- what holds of a joined list holds of both
pub all_front : {X : Type 0} (P : X → Type 0) (xs ys : List X) → All P (xs ++ ys) → All P xs
all_front P xs ys all = λ k d inside. subst P (get_or_append_left xs ys d k inside) (all k d (omega (arith, inside, length-append xs ys)))

pub all_behind : {X : Type 0} (P : X → Type 0) (xs ys : List X) → All P (xs ++ ys) → All P ys
all_behind P xs ys all = λ k d inside. subst P (get_or-append-add xs ys k d) (all (length xs + k) d (omega (arith, inside, length-append xs ys)))

-- equal words, numbered from any number, and joined
same_words : (a b number : ℕ) (word : List ℕ) → words a number word ≡ words b number word
same_words a b zero word = refl
same_words a b (suc number) word = ap (λ rest. word ++ rest) (same_words (a + 1) (b + 1) number word)

words_joined : (a b number more : ℕ) (word : List ℕ) → words a (number + more) word ≡ words a number word ++ words b more word
words_joined a b zero more word = let none : 0 + more ≡ more = omega arith in ap (λ n. words a n word) none ∙ same_words a b more word
words_joined a b (suc number) more word =
    let one : suc number + more ≡ suc (number + more) = omega arith in
    ap (λ n. words a n word) one ∙
    ap (λ rest. word ++ rest) (words_joined (a + 1) b number more word) ∙ sym (append_assoc word (words (a + 1) number word) (words b more word))

pub repeated_joined : (number more : ℕ) (word : List ℕ) → repeated (number + more) word ≡ repeated number word ++ repeated more word
repeated_joined number more word = words_joined 0 0 number more word

pub repeated_on : (number : ℕ) (word : List ℕ) → repeated (number + 1) word ≡ repeated number word ++ word
repeated_on number word = repeated_joined number 1 word ∙ ap (λ rest. repeated number word ++ rest) (append-nil word)

module _ (rows : List (List ℕ)) where
  -- changes that go on
  pub past_more : (row mid : List ℕ) (before more : List Places) (result : Option (List ℕ)) →
      RingsPast rows row before (Some mid) → RingsPast rows mid more result → RingsPast rows row (before ++ more) result
  past_more row mid before more None one two = λ new. two (all_behind (λ r. Contains rows r → ⊥) (rows_from row before) (rows_from mid more) (subst (AreNew rows) (rows_from-append row before more ∙ ap (λ r. rows_from row before ++ rows_from r more) (sym one.0)) new))
  past_more row mid before more (Some last) one two =
      let joined : rows_from row (before ++ more) ≡ rows_from row before ++ rows_from mid more =
      rows_from-append row before more ∙ ap (λ r. rows_from row before ++ rows_from r more) (sym one.0) in (
        two.0 ∙ sym (ap (last_of row) joined ∙ last_of-append row (rows_from row before) (rows_from mid more) ∙ ap (λ r. last_of r (rows_from mid more)) (sym one.0)),
        subst (AreNew rows) (sym joined) (All-append (λ r. Contains rows r → ⊥) (rows_from row before) (rows_from mid more) one.1 two.1),
      )

  -- and those that have come to a row among these
  pub past_none : (row : List ℕ) (before more : List Places) → RingsPast rows row before None → RingsPast rows row (before ++ more) None
  past_none row before more one = λ new. one (all_front (λ r. Contains rows r → ⊥) (rows_from row before) _ (subst (AreNew rows) (rows_from-append row before more) new))

  -- one change
  one_new : (row next : List ℕ) (change : Places) → next ≡ after change row → (Contains rows next → ⊥) → RingsPast rows row (change ∷ []) (Some next)
  one_new row next change is new = (is, All-cons (λ r. Contains rows r → ⊥) (after change row) [] (subst (λ r. Contains rows r → ⊥) is new) (All-nil (λ r. Contains rows r → ⊥)))

  one_old : (row next : List ℕ) (change : Places) → next ≡ after change row → Contains rows next → RingsPast rows row (change ∷ []) None
  one_old row next change is old = λ new. new 0 [] (omega arith) (subst (Contains rows) is old)

  -- the changes of a lead, one after another
  module _ (row mid next : List ℕ) (changes : List Places) (index : ℕ) (change : Places) (inside : index < length changes) (at : change ≡ get_or changes index change) (is : next ≡ after change mid) (past : RingsPast rows row (take index changes) (Some mid)) where
    one_further : take (index + 1) changes ≡ take index changes ++ change ∷ []
    one_further = take_more changes index change inside ∙ ap (λ c. take index changes ++ c ∷ []) (sym at)

    pub change_new : (Contains rows next → ⊥) → RingsPast rows row (take (index + 1) changes) (Some next)
    change_new new = subst (λ cs. RingsPast rows row cs (Some next)) (sym one_further) (past_more row mid (take index changes) (change ∷ []) (Some next) past (one_new mid next change is new))

    pub change_old : Contains rows next → RingsPast rows row changes None
    change_old old =
        subst (λ cs. RingsPast rows row cs None) (ap (λ cs. cs ++ drop (index + 1) changes) (sym one_further) ∙ take-append-drop (index + 1) changes)
        (past_none row (take index changes ++ change ∷ []) (drop (index + 1) changes) (past_more row mid (take index changes) (change ∷ []) None past (one_old mid next change is old)))

  -- the leads of a node
  module _ (p : ProblemParts) (row mid : List ℕ) (node : List ℕ) (index step : ℕ) (changes : List Places) (inside : index < length node) (at : step ≡ get_or node index 0) (is : changes ≡ changes_of p step) (past : RingsPast rows row (changes_of_all p (take index node)) (Some mid)) where
    one_lead : changes_of_all p (take (index + 1) node) ≡ changes_of_all p (take index node) ++ changes
    one_lead =
        ap (changes_of_all p) (take_more node index 0 inside ∙ ap (λ s. take index node ++ s ∷ []) (sym at))
        ∙ changes-append p (take index node) (step ∷ [])
        ∙ ap (λ cs. changes_of_all p (take index node) ++ cs) (append-nil (changes_of p step) ∙ sym is)

    pub lead_past : (result : Option (List ℕ)) → RingsPast rows mid changes result → RingsPast rows row (changes_of_all p (take (index + 1) node)) result
    lead_past result rings = subst (λ cs. RingsPast rows row cs result) (sym one_lead) (past_more row mid (changes_of_all p (take index node)) changes result past rings)

    pub lead_old : RingsPast rows mid changes None → RingsPast rows row (changes_of_all p node) None
    lead_old rings =
        subst (λ cs. RingsPast rows row cs None) (sym (changes-append p (take (index + 1) node) (drop (index + 1) node)) ∙ ap (changes_of_all p) (take-append-drop (index + 1) node))
        (past_none row (changes_of_all p (take (index + 1) node)) (changes_of_all p (drop (index + 1) node)) (lead_past None rings))

  -- the parts of a touch
  module _ (p : ProblemParts) (row mid : List ℕ) (node : List ℕ) (part : ℕ) (past : RingsPast rows row (changes_of_all p (repeated part node)) (Some mid)) where
    pub part_past : (result : Option (List ℕ)) → RingsPast rows mid (changes_of_all p node) result → RingsPast rows row (changes_of_all p (repeated (part + 1) node)) result
    part_past result rings =
        subst (λ cs. RingsPast rows row cs result) (sym (ap (changes_of_all p) (repeated_on part node) ∙ changes-append p (repeated part node) node))
        (past_more row mid (changes_of_all p (repeated part node)) (changes_of_all p node) result past rings)

    pub part_old : (parts : ℕ) → part < parts → RingsPast rows mid (changes_of_all p node) None → RingsPast rows row (changes_of_all p (repeated parts node)) None
    part_old parts more rings =
        let all : part + 1 + (parts - (part + 1)) ≡ parts = omega (arith, more) in
        subst (λ cs. RingsPast rows row cs None)
        (sym (changes-append p (repeated (part + 1) node) (repeated (parts - (part + 1)) node)) ∙ ap (changes_of_all p) (sym (repeated_joined (part + 1) (parts - (part + 1)) node) ∙ ap (λ n. repeated n node) all))
        (past_none row (changes_of_all p (repeated (part + 1) node)) (changes_of_all p (repeated (parts - (part + 1)) node)) (part_past None rings))
