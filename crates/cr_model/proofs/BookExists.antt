-- Each problem, list of found touches and list of nodes has a book.
use Rattle.std.proofs.Common.{◌≡◌, ℕ, ◌+◌, ◌<◌, ◌≤◌, ◌⊎◌, Bool, true, false, List, [], ◌∷◌, length, Ordering, Equal, nat_cmp, inl, inr, refl, sym, ◌∙◌, arith, length-append}
use Rattle.std.specs.Cmp.{IsTotalOrder}
use Rattle.std.specs.Cmp.Lexicographic.{slice_cmp}
use Rattle.std.specs.Ordering.{ordering_then}
use Rattle.std.proofs.lemmas.Bool.{cases_lt, false≢true}
use Rattle.std.proofs.lemmas.Cmp.{nat_cmp_total, nat_list_cmp_total, on_total, then_total}
use Rattle.std.proofs.lemmas.List.Elements.{All-head, All-tail}
use Rattle.cr_model.specs.Problems.{ProblemParts}
use Rattle.cr_model.specs.Callings.{HasSteps, changes_of, changes_of_all, length_of, lead_length}
use Rattle.cr_model.specs.Queries.{cap}
use Rattle.cr_model.specs.Decided.{is_kept}
use Rattle.cr_model.specs.Touches.{Wanted}
use Rattle.cr_model.specs.Nodes.{nodes_above, times_found, Covers}
use Rattle.cr_model.specs.Books.{IsBook, book_order}
use Rattle.cr_model.specs.Sound.{IsSound, sound_leads}
use Rattle.cr_model.proofs.Counting.{covers_by_count, reached_above}
use Rattle.cr_model.proofs.KeptTest.{is_kept_decided}
use Rattle.cr_model.proofs.Listed.{callings, calling_listed, in_order_those}
use Rattle.cr_model.proofs.Rotations.{same_when_equal}

-- the book's order is one
pub book_order_total : (p : ProblemParts) → IsTotalOrder (book_order p)
book_order_total p = then_total (on_total (length_of p) nat_cmp_total) nat_list_cmp_total

-- callings that tie in it are one
ties : (p : ProblemParts) (calling other : List ℕ) → book_order p calling other ≡ Equal → calling ≡ other
ties p calling other h = same_when_equal calling other (by (nat_cmp (length_of p calling) (length_of p other)) (slice_cmp nat_cmp calling other) h)
  where
    by : (first second : Ordering) → ordering_then first second ≡ Equal → second ≡ Equal
    by Ordering.Equal second h = h
    by Ordering.Less second h = absurd (cc)
    by Ordering.Greater second h = absurd (cc)

-- each lead has some changes
pub lead_some : (p : ProblemParts) → IsSound p → (step : ℕ) → step < length p.leads → 1 ≤ lead_length p step
lead_some p sound step inside = ((sound_leads p sound).each step inside).changes.some

-- so a calling has no more leads than changes
pub leads_below_length : (p : ProblemParts) → IsSound p → (calling : List ℕ) → HasSteps p calling → length calling ≤ length_of p calling
leads_below_length p sound [] steps = omega arith
leads_below_length p sound (step ∷ calling) steps =
    let here : step < length p.leads = All-head (λ s. s < length p.leads) step calling steps in
    omega (arith, lead_some p sound step here, length-append (changes_of p step) (changes_of_all p calling), leads_below_length p sound calling (All-tail (λ s. s < length p.leads) step calling steps))

-- what is covered is decided
covers_or_not : (p : ProblemParts) (found nodes : List (List ℕ)) (calling : List ℕ) → Covers p found nodes calling ⊎ (Covers p found nodes calling → ⊥)
covers_or_not p found nodes calling = by (is_kept p calling) refl
  where
    by : (b : Bool) → is_kept p calling ≡ b → Covers p found nodes calling ⊎ (Covers p found nodes calling → ⊥)
    by true h = elim (cases_lt 0 (times_found found calling + nodes_above p nodes calling)) [
      | inl some ↦ inl (covers_by_count p found nodes calling ((is_kept_decided p calling).0 h) (omega arith))
      | inr none ↦ inr (λ covers. let some = reached_above p found nodes calling covers in absurd (omega arith))
    ]
    by false h = inr (λ covers. false≢true (sym h ∙ (is_kept_decided p calling).1 covers.kept))

-- the book
pub a_book : (p : ProblemParts) (found nodes : List (List ℕ)) → IsSound p → (book : List (List ℕ)) × IsBook p found nodes book
a_book p found nodes sound =
    let (book, up, holds) = in_order_those (book_order_total p) (ties p) (Covers p found nodes) (covers_or_not p found nodes) (callings (length p.leads) (cap p)) in (
      book,
      record {
        ascending = up;
        covered = λ calling. (
          λ held. ((holds calling).0 held).1,
          λ covers.
              let wanted : Wanted p calling = covers.kept.wanted in
              let few : length calling ≤ length_of p calling = leads_below_length p sound calling wanted.steps in
              let short : length_of p calling ≤ cap p = wanted.meets.short in
              (holds calling).1 (calling_listed (length p.leads) (cap p) calling wanted.steps (omega arith), covers),
        );
      },
    )
