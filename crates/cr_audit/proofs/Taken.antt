-- How often each step stands in a node, and the changes of method.
use Rattle.std.proofs.Common.{◌≡◌, ℕ, suc, ◌+◌, ◌-◌, ◌<◌, ◌≤◌, Bool, true, false, cond, ◌&&◌, nat_eq, nat_lt, List, [], ◌∷◌, ◌++◌, length, get_or, set, take, drop, count_by, inl, inr, refl, sym, ap, ◌∙◌, subst, arith, append_assoc, length-append, take-append-drop, eq-eqb, eqb-true, lt-ltb, le-ltb}
use Rattle.std.proofs.lemmas.Bool.{cases_eq, false_from_ne_true}
use Rattle.std.proofs.lemmas.Bool.Decides.{nat_tests}
use Rattle.std.proofs.lemmas.List.{get_or-set_same, get_or-set_other, length-set, get_or-replicate, length-replicate, drop_more, drop_all, length-take-le}
use Rattle.std.proofs.lemmas.List.Elements.{All-head, All-tail}
use Rattle.std.proofs.lemmas.List.Sums.{sum_by-cons, sum_by-append, count_by-le-length}
use Rattle.std.specs.Prelude.{replicate}
use Rattle.cr_model.specs.Problems.{ProblemParts}
use Rattle.cr_model.specs.Callings.{HasSteps, method_of}
use Rattle.cr_model.specs.Queries.{changes_of_method}
use Rattle.cr_model.specs.Sizes.{child}
use Rattle.cr_model.proofs.Below.{com_onward}
use Rattle.cr_audit.specs.Paths.{AreTaken, front}
use Rattle.cr_audit.proofs.Fronts.{front_of}

-- one element behind others
counted_on : (test : ℕ → Bool) (node : List ℕ) (step : ℕ) → count_by test (child node step) ≡ count_by test node + cond (test step) 1 0
counted_on test node step = sum_by-append (λ s. cond (test s) 1 0) node (step ∷ []) ∙ omega (arith, sum_by-cons (λ s. cond (test s) 1 0) step [])

one_itself : (step : ℕ) → cond {A = ℕ} (nat_eq step step) 1 0 ≡ 1
one_itself step = ap (λ b. cond {A = ℕ} b 1 0) (eq-eqb step step refl)

none_other : (s step : ℕ) → (s ≡ step → ⊥) → cond {A = ℕ} (nat_eq s step) 1 0 ≡ 0
none_other s step other = ap (λ b. cond {A = ℕ} b 1 0) (false_from_ne_true (nat_eq s step) (λ h. other (eqb-true s step h)))

-- nothing stands in the root
pub none_taken : (p : ProblemParts) (taken : List ℕ) → taken ≡ replicate (length p.leads) 0 → AreTaken p [] taken
none_taken p taken is = record {
  all = ap length is ∙ length-replicate (length p.leads) 0;
  each = λ step inside. ap (λ (ns : List ℕ). get_or ns step 0) is ∙ get_or-replicate (length p.leads) step 0 0 inside;
}

-- one more of a step
pub taken_on : (p : ProblemParts) (node taken : List ℕ) (step more : ℕ) → step < length taken → more ≡ get_or taken step 0 + 1 → AreTaken p node taken
    → AreTaken p (child node step) (set taken step more)
taken_on p node taken step more inside one are = record {
  all = length-set taken step more ∙ are.all;
  each = λ s known. elim (cases_eq s step) [
    | inl same ↦
        ap (λ i. get_or (set taken step more) i 0) same ∙ get_or-set_same taken step more 0 inside ∙ one
        ∙ ap (λ n. n + 1) (are.each step (omega (arith, are.all)))
        ∙ sym (counted_on (nat_eq step) node step ∙ ap (λ n. count_by (nat_eq step) node + n) (one_itself step))
        ∙ ap (λ i. count_by (nat_eq i) (child node step)) (sym same)
    | inr other ↦
        get_or-set_other taken step s more 0 other ∙ are.each s known
        ∙ sym (counted_on (nat_eq s) node step ∙ ap (λ n. count_by (nat_eq s) node + n) (none_other s step other) ∙ omega arith)
  ];
}

-- and one fewer
pub taken_back : (p : ProblemParts) (node taken : List ℕ) (step fewer : ℕ) → step < length taken → fewer ≡ get_or taken step 0 - 1 → AreTaken p (child node step) taken
    → AreTaken p node (set taken step fewer)
taken_back p node taken step fewer inside one are = record {
  all = length-set taken step fewer ∙ are.all;
  each = λ s known. elim (cases_eq s step) [
    | inl same ↦
        let had : get_or taken step 0 ≡ count_by (nat_eq step) node + 1 =
        are.each step (omega (arith, are.all)) ∙ counted_on (nat_eq step) node step ∙ ap (λ n. count_by (nat_eq step) node + n) (one_itself step) in
        let left : get_or taken step 0 - 1 ≡ count_by (nat_eq step) node = omega arith in
        ap (λ i. get_or (set taken step fewer) i 0) same ∙ get_or-set_same taken step fewer 0 inside ∙ one ∙ left ∙ ap (λ i. count_by (nat_eq i) node) (sym same)
    | inr other ↦
        get_or-set_other taken step s fewer 0 other ∙ are.each s known
        ∙ counted_on (nat_eq s) node step ∙ ap (λ n. count_by (nat_eq s) node + n) (none_other s step other) ∙ omega arith
  ];
}

-- how many there can be, and that there is one of the last
pub few_taken : (p : ProblemParts) (node taken : List ℕ) (step : ℕ) → step < length p.leads → AreTaken p node taken → get_or taken step 0 ≤ length node
few_taken p node taken step inside are = omega (arith, are.each step inside, count_by-le-length (nat_eq step) node)

pub some_taken : (p : ProblemParts) (node taken : List ℕ) (step : ℕ) → step < length p.leads → AreTaken p (child node step) taken → 1 ≤ get_or taken step 0
some_taken p node taken step inside are =
    omega (arith, are.each step inside, counted_on (nat_eq step) node step, one_itself step)

-- of the steps below a number those that pass a test
abbrev pub below : (ℕ → Bool) → ℕ → ℕ → Bool
below test n s = nat_lt s n && test s

-- one number further
more_below : (test : ℕ → Bool) (n x : ℕ) → cond {A = ℕ} (below test (n + 1) x) 1 0 ≡ cond {A = ℕ} (below test n x) 1 0 + cond {A = ℕ} (test n) (cond {A = ℕ} (nat_eq n x) 1 0) 0
more_below test n x = grind (arith, nat_tests)

pub count_further : (test : ℕ → Bool) (n : ℕ) (node : List ℕ)
    → count_by (below test (n + 1)) node ≡ count_by (below test n) node + cond {A = ℕ} (test n) (count_by (nat_eq n) node) 0
count_further test n [] = by (test n)
  where
    by : (b : Bool) → 0 ≡ 0 + cond {A = ℕ} b 0 0
    by true = refl
    by false = refl
count_further test n (x ∷ node) =
    let one = more_below test n x in
    let rest = count_further test n node in
    let first = sum_by-cons (λ s. cond {A = ℕ} (below test (n + 1) s) 1 0) x node in
    let second = sum_by-cons (λ s. cond {A = ℕ} (below test n s) 1 0) x node in
    let third = sum_by-cons (λ s. cond {A = ℕ} (nat_eq n s) 1 0) x node in
    by (test n) one rest first second third
  where
    by : (b : Bool)
        → cond {A = ℕ} (below test (n + 1) x) 1 0 ≡ cond {A = ℕ} (below test n x) 1 0 + cond {A = ℕ} b (cond {A = ℕ} (nat_eq n x) 1 0) 0
        → count_by (below test (n + 1)) node ≡ count_by (below test n) node + cond {A = ℕ} b (count_by (nat_eq n) node) 0
        → count_by (below test (n + 1)) (x ∷ node) ≡ cond {A = ℕ} (below test (n + 1) x) 1 0 + count_by (below test (n + 1)) node
        → count_by (below test n) (x ∷ node) ≡ cond {A = ℕ} (below test n x) 1 0 + count_by (below test n) node
        → count_by (nat_eq n) (x ∷ node) ≡ cond {A = ℕ} (nat_eq n x) 1 0 + count_by (nat_eq n) node
        → count_by (below test (n + 1)) (x ∷ node) ≡ count_by (below test n) (x ∷ node) + cond {A = ℕ} b (count_by (nat_eq n) (x ∷ node)) 0
    by true one rest first second third = omega (arith, one, rest, first, second, third)
    by false one rest first second third = omega (arith, one, rest, first, second, third)

pub count_yes : (test : ℕ → Bool) (n : ℕ) (node : List ℕ) (number taken : ℕ) → number ≡ count_by (below test n) node → taken ≡ count_by (nat_eq n) node → test n ≡ true
    → number + taken ≡ count_by (below test (n + 1)) node
count_yes test n node number taken is has yes' =
    let more : count_by (below test (n + 1)) node ≡ count_by (below test n) node + count_by (nat_eq n) node =
    count_further test n node ∙ ap (λ b. count_by (below test n) node + cond {A = ℕ} b (count_by (nat_eq n) node) 0) yes' in
    omega (arith, more, is, has)

pub count_no : (test : ℕ → Bool) (n : ℕ) (node : List ℕ) (number : ℕ) → number ≡ count_by (below test n) node → test n ≡ false → number ≡ count_by (below test (n + 1)) node
count_no test n node number is no' =
    let more : count_by (below test (n + 1)) node ≡ count_by (below test n) node + 0 =
    count_further test n node ∙ ap (λ b. count_by (below test n) node + cond {A = ℕ} b (count_by (nat_eq n) node) 0) no' in
    omega (arith, more, is)

pub count_few : (test : ℕ → Bool) (node : List ℕ) → count_by test node ≤ length node
count_few test node = count_by-le-length test node

-- of none, and of all that there are
pub count_none : (test : ℕ → Bool) (node : List ℕ) → count_by (below test 0) node ≡ 0
count_none test [] = refl
count_none test (x ∷ node) =
    let first : cond {A = ℕ} (below test 0 x) 1 0 ≡ 0 = ap (λ b. cond {A = ℕ} (b && test x) 1 0) (le-ltb x 0 (omega arith)) in
    let more : count_by (below test 0) node ≡ 0 = count_none test node in
    let whole : count_by (below test 0) (x ∷ node) ≡ cond {A = ℕ} (below test 0 x) 1 0 + count_by (below test 0) node = sum_by-cons (λ s. cond {A = ℕ} (below test 0 s) 1 0) x node in
    omega (arith, first, more, whole)

pub count_all : (p : ProblemParts) (test : ℕ → Bool) (node : List ℕ) → HasSteps p node → count_by (below test (length p.leads)) node ≡ count_by test node
count_all p test [] known = refl
count_all p test (x ∷ node) known =
    let inside : nat_lt x (length p.leads) ≡ true = lt-ltb x (length p.leads) (All-head (λ s. s < length p.leads) x node known) in
    let first : cond {A = ℕ} (below test (length p.leads) x) 1 0 ≡ cond {A = ℕ} (test x) 1 0 = ap (λ b. cond {A = ℕ} (b && test x) 1 0) inside in
    sum_by-cons (λ s. cond {A = ℕ} (below test (length p.leads) s) 1 0) x node
    ∙ omega (arith, first, count_all p test node (All-tail (λ s. s < length p.leads) x node known))
    ∙ sym (sum_by-cons (λ s. cond {A = ℕ} (test s) 1 0) x node)

-- changes of method behind a lead more
com_on : (p : ProblemParts) (node : List ℕ) (a b : ℕ)
    → changes_of_method p (node ++ a ∷ b ∷ []) ≡ changes_of_method p (child node a) + cond {A = ℕ} (nat_eq (method_of p a) (method_of p b)) 0 1
com_on p [] a b = omega arith
com_on p (x ∷ []) a b = omega arith
com_on p (x ∷ y ∷ node) a b = omega (arith, com_on p (y ∷ node) a b)

-- steps, by the last two
two_at_end : (steps : List ℕ) → 2 ≤ length steps
    → steps ≡ take (length steps - 2) steps ++ get_or steps (length steps - 2) 0 ∷ get_or steps (length steps - 1) 0 ∷ []
two_at_end steps some =
    let n = length steps in
    let a = get_or steps (n - 2) 0 in
    let b = get_or steps (n - 1) 0 in
    let one : drop (n - 2) steps ≡ a ∷ drop (n - 2 + 1) steps = drop_more steps (n - 2) 0 (omega arith) in
    let next : n - 2 + 1 ≡ n - 1 = omega arith in
    let two : drop (n - 1) steps ≡ b ∷ drop (n - 1 + 1) steps = drop_more steps (n - 1) 0 (omega arith) in
    let none : drop (n - 1 + 1) steps ≡ [] = drop_all (n - 1 + 1) steps (omega arith) in
    sym (take-append-drop (n - 2) steps)
    ∙ ap (λ l. take (n - 2) steps ++ l) (one ∙ ap (λ k. a ∷ drop k steps) next ∙ ap (λ l. a ∷ l) two ∙ ap (λ l. a ∷ b ∷ l) none)

pub com_at_end : (p : ProblemParts) (steps : List ℕ) → 2 ≤ length steps
    → changes_of_method p (front steps) + cond {A = ℕ} (nat_eq (method_of p (get_or steps (length steps - 2) 0)) (method_of p (get_or steps (length steps - 1) 0))) 0 1 ≡ changes_of_method p steps
com_at_end p steps some =
    let above = take (length steps - 2) steps in
    let a = get_or steps (length steps - 2) 0 in
    let b = get_or steps (length steps - 1) 0 in
    let is : steps ≡ child (child above a) b = two_at_end steps some ∙ sym (append_assoc above (a ∷ []) (b ∷ [])) in
    let before : front steps ≡ child above a = ap front is ∙ front_of (child above a) b in
    ap (λ l. changes_of_method p l + cond {A = ℕ} (nat_eq (method_of p a) (method_of p b)) 0 1) before
    ∙ sym (com_on p above a b) ∙ sym (ap (changes_of_method p) (two_at_end steps some))

-- there are no more than steps
pub com_few : (p : ProblemParts) (steps : List ℕ) → changes_of_method p steps ≤ length steps
com_few p steps = omega (arith, com_onward p [] steps)

pub com_of_few : (p : ProblemParts) (steps : List ℕ) → length steps < 2 → changes_of_method p (front steps) + 0 ≡ changes_of_method p steps
com_of_few p [] few = refl
com_of_few p (x ∷ []) few = refl
com_of_few p (x ∷ y ∷ steps) few = absurd (omega arith)
