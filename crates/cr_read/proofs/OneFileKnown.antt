-- What the checks of a file ask holds, or does not.
use Rattle.std.proofs.Common.{◌≡◌, ◌≢◌, ℕ, zero, suc, ◌+◌, ◌<◌, ◌≤◌, ◌⊎◌, ℤ, pos, ◌≤ℤ◌, Bool, true, Option, Some, None, IfSome, List, length, get_or, count_by, unwrap_or, refl, arith, inl, inr, below_more}
use Rattle.std.proofs.lemmas.Int.{ints, by_lt_z}
use Rattle.std.proofs.lemmas.Bool.{cases_lt, cases_eq, cases_Bool}
use Rattle.cr_model.specs.declared.query.Cell.{Cell}
use Rattle.cr_model.specs.declared.query.Count.{Count}
use Rattle.cr_model.specs.declared.query.MethodCount.{MethodCount}
use Rattle.cr_model.specs.declared.query.Com.{Com}
use Rattle.cr_model.specs.Problems.{LeadParts, PatternParts}
use Rattle.cr_model.specs.Callings.{step_at}
use Rattle.cr_model.specs.Checks.{IsFirstWrong}
use Rattle.cr_model.specs.Right.{plain, LetterIsRight, LimitsAreRight, CountIsRight, MethodCountIsRight, bell_named, is_run, cell_at, FitsStage, IsNamedFirst, CellsAreRight, PatternIsRight, ComIsRight}
use Rattle.cr_model.specs.Files.{FileParts}
use Rattle.cr_model.specs.ProblemFiles.{Spellings, call_at, mark_at, is_for, spelling_at, over_at, called_spelling, OverIsRight, MarkIsRight, Fits, FitsAll, AreApart}

-- it holds, or does not
abbrev pub Known : Type 0 → Type 0
Known P = P ⊎ (P → ⊥)

known_as : (P Q : Type 0) → Known P → (P → Q) → (Q → P) → Known Q
known_as P Q (inl holds) to from = inl (to holds)
known_as P Q (inr fails) to from = inr (λ q. fails (from q))

pub known_and : (P Q : Type 0) → Known P → Known Q → Known (P × Q)
known_and P Q (inl p) (inl q) = inl (p, q)
known_and P Q (inl p) (inr fails) = inr (λ h. fails h.1)
known_and P Q (inr fails) q = inr (λ h. fails h.0)

known_or : (P Q : Type 0) → Known P → Known Q → Known (P ⊎ Q)
known_or P Q (inl p) q = inl (inl p)
known_or P Q (inr fails) (inl q) = inl (inr q)
known_or P Q (inr fails) (inr also) = inr (λ h. elim h [ inl p ↦ fails p | inr q ↦ also q ])

known_then : (P Q : Type 0) → Known P → Known Q → Known (P → Q)
known_then P Q (inr fails) q = inl (λ p. absurd (fails p))
known_then P Q (inl p) (inl q) = inl (λ _. q)
known_then P Q (inl p) (inr fails) = inr (λ h. fails (h p))

known_not : (P : Type 0) → Known P → Known (P → ⊥)
known_not P (inl p) = inr (λ fails. fails p)
known_not P (inr fails) = inl fails

pub known_le : (a b : ℕ) → Known (a ≤ b)
known_le a b = elim (cases_lt b a) [ inl less ↦ inr (λ h. omega arith) | inr le ↦ inl le ]

known_lt : (a b : ℕ) → Known (a < b)
known_lt a b = elim (cases_lt a b) [ inl less ↦ inl less | inr le ↦ inr (λ h. omega arith) ]

known_true : (b : Bool) → Known (b ≡ true)
known_true b = elim (cases_Bool b) [ inl is ↦ inl is | inr fails ↦ inr (λ is. cc) ]

pub known_le_int : (a b : ℤ) → Known (a ≤ℤ b)
known_le_int a b = by_lt_z b a (λ less. inr (λ h. omega (arith, ints))) (λ le. inl le)

one_more : (P : ℕ → Type 0) (n : ℕ) → ((i : ℕ) → i < n → P i) → P n → (i : ℕ) → i < suc n → P i
one_more P n all right i h = below_more P n all right i (omega arith)

-- all below a number are right, or one is the first that is not
pub first_wrong : (P : ℕ → Type 0) → ((i : ℕ) → Known (P i)) → (n : ℕ) → ((i : ℕ) → i < n → P i) ⊎ ((i : ℕ) × IsFirstWrong P n i)
first_wrong P known zero = inl (λ i h. absurd (omega arith))
first_wrong P known (suc n) = elim (first_wrong P known n) [
  | inl all ↦ elim (known n) [
    | inl right ↦ inl (one_more P n all right)
    | inr wrong ↦ inr (n, record { within = omega arith; before = all; wrong = wrong })
  ]
  | inr first ↦ inr (first.0, (let low : first.0 < n = first.1.within in record { within = omega arith; before = first.1.before; wrong = first.1.wrong }))
]

pub known_each : (P : ℕ → Type 0) → ((i : ℕ) → Known (P i)) → (n : ℕ) → Known ((i : ℕ) → i < n → P i)
known_each P known n = elim (first_wrong P known n) [
  | inl all ↦ inl all
  | inr first ↦ inr (λ all. first.1.wrong (all first.0 first.1.within))
]

known_some : (P : ℕ → Type 0) → ((i : ℕ) → Known (P i)) → (n : ℕ) → Known ((i : ℕ) × (i < n) × P i)
known_some P known n = elim (first_wrong (λ i. P i → ⊥) (λ i. known_not (P i) (known i)) n) [
  | inl none ↦ inr (λ h. none h.0 h.1 h.2)
  | inr first ↦ elim (known first.0) [
    | inl holds ↦ inl (first.0, first.1.within, holds)
    | inr fails ↦ absurd (first.1.wrong fails)
  ]
]

known_if_some : {A : Type 0} (P : A → Type 0) → ((x : A) → Known (P x)) → (o : Option A) → Known (IfSome o P)
known_if_some P known None = inl tt
known_if_some P known (Some x) = known x

-- ---- the checks of a file

pub known_letter : (letters : List ℕ) (i : ℕ) → Known (LetterIsRight letters i)
known_letter letters i = known_as _ (LetterIsRight letters i)
    (known_and _ _ (known_lt i 8) (known_and _ _ (known_le 65 (get_or letters i 0)) (known_and _ _ (known_le (get_or letters i 0) 90)
    (known_each (λ j. get_or letters j 0 ≢ get_or letters i 0) (λ j. known_not _ (cases_eq (get_or letters j 0) (get_or letters i 0))) i))))
    (λ h. record { few = h.0; from = h.1.0; to = h.1.1.0; new = h.1.1.1 }) (λ r. (r.few, (r.from, (r.to, r.new))))

pub known_over : (file : FileParts) (call : ℕ) → Known (OverIsRight file call)
known_over file call = known_if_some (λ over. (pos 0 ≤ℤ over) × (over ≤ℤ pos 128)) (λ over. known_and _ _ (known_le_int (pos 0) over) (known_le_int over (pos 128))) (call_at file call).over

pub known_mark : (mark : ℕ) → Known (MarkIsRight mark)
known_mark mark = known_as _ (MarkIsRight mark)
    (known_and _ _ (known_le 97 mark) (known_and _ _ (known_le mark 122) (known_not _ (cases_eq mark plain))))
    (λ h. record { from = h.0; to = h.1.0; called = h.1.1 }) (λ r. (r.from, (r.to, r.called)))

pub known_fit : (file : FileParts) (spellings : Spellings) (call method : ℕ) → Known (is_for file call method ≡ true → Fits file spellings call method)
known_fit file spellings call method = known_then _ _ (known_true (is_for file call method))
    (known_as _ (Fits file spellings call method)
    (known_and _ _ (known_le (unwrap_or (over_at file call) (length (spelling_at spellings.calls call))) (length (spelling_at spellings.methods method))) (known_le (length (called_spelling file spellings call method)) 128))
    (λ h. record { over = h.0; short = h.1 }) (λ r. (r.over, r.short)))

pub known_fits : (file : FileParts) (spellings : Spellings) (call : ℕ) → Known (FitsAll file spellings call)
known_fits file spellings call = known_each (λ method. is_for file call method ≡ true → Fits file spellings call method) (known_fit file spellings call) (length file.methods)

pub known_apart : (file : FileParts) (first second : ℕ) → Known (AreApart file first second)
known_apart file first second = known_then _ _ (cases_eq (mark_at file first) (mark_at file second))
    (known_each (λ method. is_for file first method ≡ true → is_for file second method ≡ true → ⊥)
    (λ method. known_then _ _ (known_true (is_for file first method)) (known_not _ (known_true (is_for file second method)))) (length file.methods))

-- ---- the checks of the parts

pub known_limits : (least low high : ℤ) → Known (LimitsAreRight least low high)
known_limits least low high = known_as _ (LimitsAreRight least low high)
    (known_and _ _ (known_le_int least low) (known_and _ _ (known_le_int low high) (known_le_int high (pos 12000))))
    (λ h. record { from = h.0; order = h.1.0; to = h.1.1 }) (λ r. (r.from, (r.order, r.to)))

pub known_count : (leads : List LeadParts) (i : ℕ) (count : Count) → Known (CountIsRight leads i count)
known_count leads i count = known_as _ (CountIsRight leads i count)
    (known_and _ _ (known_lt i 16) (known_and _ _ (known_some (λ k. (step_at leads k).mark ≡ count.mark) (λ k. cases_eq (step_at leads k).mark count.mark) (length leads)) (known_limits (pos 0) count.min count.max)))
    (λ h. record { few = h.0; known = h.1.0; limits = h.1.1 }) (λ r. (r.few, (r.known, r.limits)))

pub known_method_count : (letters : List ℕ) (i : ℕ) (count : MethodCount) → Known (MethodCountIsRight letters i count)
known_method_count letters i count = known_as _ (MethodCountIsRight letters i count)
    (known_and _ _ (known_lt i 16) (known_and _ _ (known_some (λ k. get_or letters k 0 ≡ count.letter) (λ k. cases_eq (get_or letters k 0) count.letter) (length letters)) (known_limits (pos 0) count.min count.max)))
    (λ h. record { few = h.0; known = h.1.0; limits = h.1.1 }) (λ r. (r.few, (r.known, r.limits)))

known_stage : (stage : ℕ) (cells : List Cell) → Known (FitsStage stage cells)
known_stage stage cells = known_or _ _ (known_and _ _ (cases_eq (count_by is_run cells) 0) (cases_eq (length cells) stage)) (known_and _ _ (cases_eq (count_by is_run cells) 1) (known_le (length cells) (stage + 1)))

-- two cells name no bell in common
abbrev AreUnlike : Option ℕ → Option ℕ → Type 0
AreUnlike first second = (b : ℕ) → first ≡ Some b → second ≢ Some b

known_unlike : (first second : Option ℕ) → Known (AreUnlike first second)
known_unlike None second = inl (λ b is also. cc)
known_unlike (Some x) None = inl (λ b is also. cc)
known_unlike (Some x) (Some y) = elim (cases_eq x y) [
  | inl same ↦ inr (λ unlike. unlike x refl (let e : Some y ≡ Some x = cc in e))
  | inr differ ↦ inl (λ b is also. differ (let e : x ≡ y = cc in e))
]

known_once : (cells : List Cell) → Known ((k : ℕ) → k < length cells → IsNamedFirst cells k)
known_once cells = known_each (IsNamedFirst cells) (λ k. known_as ((j : ℕ) → j < k → AreUnlike (bell_named (cell_at cells j)) (bell_named (cell_at cells k))) (IsNamedFirst cells k)
    (known_each (λ j. AreUnlike (bell_named (cell_at cells j)) (bell_named (cell_at cells k))) (λ j. known_unlike (bell_named (cell_at cells j)) (bell_named (cell_at cells k))) k)
    (λ h j b before. h j before b) (λ h j before b. h j b before)) (length cells)

known_cells : (stage : ℕ) (cells : List Cell) → Known (CellsAreRight stage cells)
known_cells stage cells = known_as _ (CellsAreRight stage cells)
    (known_and _ _ (known_stage stage cells) (known_and _ _ (known_each (λ k. IfSome (bell_named (cell_at cells k)) (λ b. b ≤ stage)) (λ k. known_if_some (λ b. b ≤ stage) (λ b. known_le b stage) (bell_named (cell_at cells k))) (length cells)) (known_once cells)))
    (λ h. record { size = h.0; bells = h.1.0; once = h.1.1 }) (λ r. (r.size, (r.bells, r.once)))

pub known_pattern : (stage i : ℕ) (pattern : PatternParts) → Known (PatternIsRight stage i pattern)
known_pattern stage i pattern = known_as _ (PatternIsRight stage i pattern)
    (known_and _ _ (known_lt i 32) (known_and _ _ (known_cells stage pattern.cells) (known_limits (pos 0) pattern.min pattern.max)))
    (λ h. record { few = h.0; cells = h.1.0; limits = h.1.1 }) (λ r. (r.few, (r.cells, r.limits)))

pub known_com : (limits : Option Com) → Known (ComIsRight limits)
known_com None = inl tt
known_com (Some limits) = known_limits (pos 0) limits.min limits.max
