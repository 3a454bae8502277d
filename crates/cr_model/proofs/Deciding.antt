-- The tests of what a touch is and what a query asks decide it.
use Rattle.std.proofs.Common.{◌≡◌, ◌≢◌, ℕ, zero, suc, ◌<◌, Bool, true, false, not, T, ℤ, pos, ◌≤ℤ◌, nat_abs, List, [], ◌∷◌, length, Option, Some, None, All, Decides, nat_lt, int_le, bytes_eq, refl, arith, le-leb, leb-true}
use Rattle.std.specs.List.{list_all}
use Rattle.std.specs.Int.Signed.{le_z_yes}
use Rattle.std.proofs.lemmas.Bool.{false≢true}
use Rattle.std.proofs.lemmas.Bool.Decides.{Decides-by_and, Decides-and, Decides-like, Decides-not, Decides-ltb}
use Rattle.std.proofs.lemmas.Float.{T_from_true}
use Rattle.std.proofs.lemmas.List.Elements.{All-from_get_or}
use Rattle.std.proofs.lemmas.Slice.Eq.{bytes_eq-Decides}
use Rattle.cr_row.specs.Rows.{rounds}
use Rattle.cr_model.specs.declared.query.Com.{Com}
use Rattle.cr_model.specs.Problems.{ProblemParts}
use Rattle.cr_model.specs.Callings.{AllDiffer, HasSteps, TrueTouch, rows_of, head_of, length_of}
use Rattle.cr_model.specs.Decided.{rows_differ, has_leads, has_steps, is_true_touch, is_within, meets_com, reaches_min, within_cap, has_parts, meets_count, meets_method_count, meets_pattern, meets, is_wanted}
use Rattle.cr_model.specs.Queries.{cap, IsWithin, repeated, leads_marked, leads_lettered, rows_fitting, changes_of_method, MeetsCom, Meets}
use Rattle.cr_model.specs.Nodes.{part_of}
use Rattle.cr_model.specs.Touches.{Wanted}
use Rattle.cr_model.proofs.Parts.{repeats_first}

-- a test of each element of a list
pub all_decided : {X : Type 0} (test : X → Bool) (P : X → Type 0) → ((x : X) → Decides (test x) (P x)) → (xs : List X) → Decides (list_all test xs) (All P xs)
all_decided test P each xs = Decides-by_and test P (list_all test) each refl (λ _ _. refl) xs

-- two rows differ
differ_decided : (row other : List ℕ) → Decides (not (bytes_eq row other)) (row ≢ other)
differ_decided row other = Decides-not (bytes_eq row other) (bytes_eq-Decides row other)

-- a row that differs from rows that differ, in front of them
pub one_more_differs : (row : List ℕ) (rows : List (List ℕ)) → All (λ other. row ≢ other) rows × AllDiffer rows → AllDiffer (row ∷ rows)
one_more_differs row rows h zero zero less inside = absurd (omega arith)
one_more_differs row rows h zero (suc j) less inside = h.0 j [] (omega arith)
one_more_differs row rows h (suc i) zero less inside = absurd (omega arith)
one_more_differs row rows h (suc i) (suc j) less inside = h.1 i j (omega arith) (omega arith)

-- and back
pub one_less_differs : (row : List ℕ) (rows : List (List ℕ)) → AllDiffer (row ∷ rows) → All (λ other. row ≢ other) rows × AllDiffer rows
one_less_differs row rows h = (
  All-from_get_or (λ other. row ≢ other) rows [] (λ k inside. h zero (suc k) (omega arith) (omega arith)),
  λ i j less inside. h (suc i) (suc j) (omega arith) (omega arith),
)

-- the test of rows that differ
pub rows_differ_decided : (rows : List (List ℕ)) → Decides (rows_differ rows) (AllDiffer rows)
rows_differ_decided [] = (λ _. λ i j less inside. absurd (omega arith), λ _. refl)
rows_differ_decided (row ∷ rows) =
    Decides-like (rows_differ (row ∷ rows)) (one_more_differs row rows) (one_less_differs row rows)
    (Decides-and (list_all (λ other. not (bytes_eq row other)) rows) (rows_differ rows)
    (all_decided (λ other. not (bytes_eq row other)) (λ other. row ≢ other) (differ_decided row) rows) (rows_differ_decided rows))

-- the test of a calling that is not empty
has_leads_decided : (calling : List ℕ) → Decides (has_leads calling) (calling ≢ [])
has_leads_decided [] = (λ h. absurd (false≢true h), λ some. absurd (some refl))
has_leads_decided (step ∷ calling) = (λ _. λ e. absurd (cc), λ _. refl)

-- the test of a true touch
pub is_true_touch_decided : (p : ProblemParts) (calling : List ℕ) → Decides (is_true_touch p calling) (TrueTouch p calling)
is_true_touch_decided p calling =
    Decides-like (is_true_touch p calling) (λ h. record { some = h.0; round = h.1.0; differ = h.1.1 }) (λ touch. (touch.some, (touch.round, touch.differ)))
    (Decides-and (has_leads calling) _ (has_leads_decided calling)
    (Decides-and (bytes_eq (head_of p calling) (rounds p.stage)) _ (bytes_eq-Decides (head_of p calling) (rounds p.stage)) (rows_differ_decided (rows_of p calling))))

-- a test that passed is true
true_from_test : (b : Bool) → T b → b ≡ true
true_from_test true h = refl
true_from_test false h = absurd h

-- the test of `≤ℤ`
int_le_decided : (a b : ℤ) → Decides (int_le a b) (a ≤ℤ b)
int_le_decided a b = (λ h. le_z_yes (T_from_true (int_le a b) h), λ h. true_from_test (int_le a b) h.le)

-- the test of two limits
is_within_decided : (low high : ℤ) (number : ℕ) → Decides (is_within low high number) (IsWithin low high number)
is_within_decided low high number =
    Decides-like (is_within low high number) (λ h. record { at_least = h.0; at_most = h.1 }) (λ h. (h.at_least, h.at_most))
    (Decides-and (int_le low (pos number)) (int_le (pos number) high) (int_le_decided low (pos number)) (int_le_decided (pos number) high))

-- the test of those limits
meets_com_decided : (limits : Option Com) (number : ℕ) → Decides (meets_com limits number) (MeetsCom limits number)
meets_com_decided None number = (λ _. tt, λ _. refl)
meets_com_decided (Some limits) number = is_within_decided limits.min limits.max number

-- the test of equal words
has_parts_decided : (p : ProblemParts) (calling : List ℕ) → Decides (has_parts p calling) ((word : List ℕ) × (calling ≡ repeated (nat_abs p.query.parts) word))
has_parts_decided p calling =
    Decides-like (has_parts p calling) (λ h. (part_of p calling, h)) (λ h. repeats_first (nat_abs p.query.parts) calling h.0 h.1) (bytes_eq-Decides calling (repeated (nat_abs p.query.parts) (part_of p calling)))

-- the test of the query
pub meets_decided : (p : ProblemParts) (calling : List ℕ) → Decides (meets p calling) (Meets p calling)
meets_decided p calling =
    Decides-like (meets p calling)
    (λ h. record { long = h.0; short = h.1.0; parts = h.1.1.0; counts = h.1.1.1.0; method_counts = h.1.1.1.1.0; patterns = h.1.1.1.1.1.0; «com» = h.1.1.1.1.1.1 })
    (λ m. (m.long, (m.short, (m.parts, (m.counts, (m.method_counts, (m.patterns, m.com)))))))
    (Decides-and (reaches_min p calling) _ (int_le_decided p.query.min (pos (length_of p calling)))
    (Decides-and (within_cap p calling) _ (leb-true (length_of p calling) (cap p), le-leb (length_of p calling) (cap p))
    (Decides-and (has_parts p calling) _ (has_parts_decided p calling)
    (Decides-and (list_all (meets_count p calling) p.query.counts) _ (all_decided (meets_count p calling) (λ count. IsWithin count.min count.max (leads_marked p count.mark calling)) (λ count. is_within_decided count.min count.max (leads_marked p count.mark calling)) p.query.counts)
    (Decides-and (list_all (meets_method_count p calling) p.query.method_counts) _ (all_decided (meets_method_count p calling) (λ count. IsWithin count.min count.max (leads_lettered p count.letter calling)) (λ count. is_within_decided count.min count.max (leads_lettered p count.letter calling)) p.query.method_counts)
    (Decides-and (list_all (meets_pattern p calling) p.query.patterns) _ (all_decided (meets_pattern p calling) (λ pattern. IsWithin pattern.min pattern.max (rows_fitting pattern.cells (rows_of p calling))) (λ pattern. is_within_decided pattern.min pattern.max (rows_fitting pattern.cells (rows_of p calling))) p.query.patterns)
    (meets_com_decided p.query.com (changes_of_method p calling))))))))

-- the test of steps
pub has_steps_decided : (p : ProblemParts) (calling : List ℕ) → Decides (has_steps p calling) (HasSteps p calling)
has_steps_decided p calling = all_decided (λ step. nat_lt step (length p.leads)) (λ step. step < length p.leads) (λ step. Decides-ltb step (length p.leads)) calling

-- the test of what is wanted
pub is_wanted_decided : (p : ProblemParts) (calling : List ℕ) → Decides (is_wanted p calling) (Wanted p calling)
is_wanted_decided p calling =
    Decides-like (is_wanted p calling) (λ h. record { steps = h.0; touch = h.1.0; meets = h.1.1 }) (λ w. (w.steps, (w.touch, w.meets)))
    (Decides-and (has_steps p calling) _ (has_steps_decided p calling)
    (Decides-and (is_true_touch p calling) (meets p calling) (is_true_touch_decided p calling) (meets_decided p calling)))
