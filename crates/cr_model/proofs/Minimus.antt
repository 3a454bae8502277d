-- Plain Bob Minimus has one kept touch, its plain course.
use Rattle.std.proofs.Common.{◌≡◌, ℕ, zero, suc, ◌*◌, ◌<◌, ◌≤◌, ◌↔◌, true, false, List, [], ◌∷◌, length, replicate, Contains, codes, nat_cmp, inl, inr, refl, sym, ap, ap₂, ◌∙◌, subst, arith}
use Rattle.std.specs.Cmp.Lexicographic.{slice_cmp}
use Rattle.std.specs.Fmt.{digits}
use Rattle.std.specs.List.Sorted.{IsStrictlySortedBy}
use Rattle.std.proofs.lemmas.Bool.{false≢true}
use Rattle.std.proofs.lemmas.Cmp.{nat_list_cmp_total}
use Rattle.std.proofs.lemmas.List.Elements.{All-head, All-tail}
use Rattle.cr_model.specs.Callings.{HasSteps, length_of}
use Rattle.cr_model.specs.Queries.{extent, cap}
use Rattle.cr_model.specs.Decided.{is_wanted}
use Rattle.cr_model.specs.Touches.{Wanted, Kept}
use Rattle.cr_model.specs.Nodes.{Covers}
use Rattle.cr_model.specs.Books.{IsBook, book_order, book_text}
use Rattle.cr_model.specs.Examples.{minimus, plain_course}
use Rattle.cr_model.proofs.InOrder.{contains_cases, none_held, never_itself}
use Rattle.cr_model.proofs.Rotations.{rotation_of_equal}
use Rattle.cr_model.proofs.Deciding.{is_wanted_decided}

-- three leads are wanted
passes : is_wanted minimus plain_course ≡ true
unfolding extent
passes = refl

-- one is not
one_lead_fails : is_wanted minimus (0 ∷ []) ≡ false
unfolding extent
one_lead_fails = refl

-- two are not
two_leads_fail : is_wanted minimus (0 ∷ 0 ∷ []) ≡ false
unfolding extent
two_leads_fail = refl

-- the plain course is kept
pub course_kept : Kept minimus plain_course
course_kept = record {
  wanted = (is_wanted_decided minimus plain_course).0 passes;
  least = λ other turned wanted less. never_itself nat_list_cmp_total plain_course (ap (λ c. slice_cmp nat_cmp c plain_course) (rotation_of_equal 0 3 other turned) ∙ less);
}

-- each lead is plain
all_plain : (calling : List ℕ) → HasSteps minimus calling → calling ≡ replicate (length calling) 0
all_plain [] steps = refl
all_plain (step ∷ calling) steps =
    let first : step < 1 = All-head (λ s. s < 1) step calling steps in
    let none : step ≡ 0 = omega arith in
    ap₂ ◌∷◌ none (all_plain calling (All-tail (λ s. s < 1) step calling steps))

-- a lead has eight changes
eight_each : (number : ℕ) → length_of minimus (replicate number 0) ≡ 8 * number
eight_each zero = refl
eight_each (suc number) = omega (arith, eight_each number)

-- the greatest length
most : cap minimus ≡ 24
unfolding extent
most = refl

-- of up to three leads three are wanted
only_three : (number : ℕ) → number ≤ 3 → Wanted minimus (replicate number 0) → replicate number 0 ≡ plain_course
only_three zero few wanted = absurd (wanted.touch.some refl)
only_three (suc zero) few wanted = absurd (false≢true (sym one_lead_fails ∙ (is_wanted_decided minimus (0 ∷ [])).1 wanted))
only_three (suc (suc zero)) few wanted = absurd (false≢true (sym two_leads_fail ∙ (is_wanted_decided minimus (0 ∷ 0 ∷ [])).1 wanted))
only_three (suc (suc (suc zero))) few wanted = refl
only_three (suc (suc (suc (suc number)))) few wanted = absurd (omega arith)

-- nothing else is kept
kept_is_course : (calling : List ℕ) → Kept minimus calling → calling ≡ plain_course
kept_is_course calling kept =
    let plain : calling ≡ replicate (length calling) 0 = all_plain calling kept.wanted.steps in
    let long : length_of minimus calling ≡ 8 * length calling = ap (length_of minimus) plain ∙ eight_each (length calling) in
    let short : length_of minimus calling ≤ cap minimus = kept.wanted.meets.short in
    plain ∙ only_three (length calling) (omega (arith, most)) (subst (Wanted minimus) plain kept.wanted)

-- one calling is in order
in_order : IsStrictlySortedBy (book_order minimus) (plain_course ∷ [])
unfolding IsStrictlySortedBy
in_order = (tt, tt)

-- the book's calling is what the problem covers
covered : (calling : List ℕ) → Contains (plain_course ∷ []) calling ↔ Covers minimus [] ([] ∷ []) calling
covered calling = (
  λ held. record {
    kept = elim (contains_cases plain_course calling [] held) [ inl e ↦ subst (Kept minimus) e course_kept | inr later ↦ absurd (none_held calling later) ];
    reached = inr ([], (zero, omega arith, refl), refl);
  },
  λ covers. (zero, omega arith, sym (kept_is_course calling covers.kept)),
)

-- the book
pub course_book : IsBook minimus [] ([] ∷ []) (plain_course ∷ [])
course_book = record { ascending = in_order; covered = covered }

-- its text
pub written : book_text minimus (plain_course ∷ []) ≡ codes "24 ppp\ntouches 1\n"
unfolding digits
written = refl
