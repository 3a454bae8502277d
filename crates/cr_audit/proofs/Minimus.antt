-- The log of Plain Bob Minimus proves its plain course.
use Rattle.std.proofs.Common.{◌≡◌, ℕ, ◌↔◌, true, List, [], ◌∷◌, All, refl, subst, arith}
use Rattle.std.proofs.lemmas.List.Elements.{All-from_recursion}
use Rattle.cr_model.specs.Callings.{HasSteps}
use Rattle.cr_model.specs.Queries.{extent}
use Rattle.cr_model.specs.Touches.{Kept}
use Rattle.cr_model.specs.Decided.{has_steps}
use Rattle.cr_model.specs.Nodes.{Covers}
use Rattle.cr_model.specs.Books.{IsBook}
use Rattle.cr_model.specs.Examples.{minimus, plain_course}
use Rattle.cr_audit.specs.declared.verdict.Verdict.{Verdict}
use Rattle.cr_audit.specs.declared.verdict.Verdict.TheVariants as verdict
use Rattle.cr_audit.specs.Logs.{IsSmall, IsLine, IsTrueLine, IsOpened, Proves}
use Rattle.cr_audit.specs.Examples.{line_of, minimus_lines, minimus_log}
use Rattle.cr_audit.proofs.Proving.{one_held}

-- each verdict holds
true_lines : All (IsTrueLine minimus) minimus_lines
unfolding extent
true_lines = All-from_recursion (IsTrueLine minimus) minimus_lines (refl, (refl, (refl, (refl, (refl, tt)))))

module _ (decided : (calling : List ℕ) → (has_steps minimus calling ≡ true) ↔ HasSteps minimus calling) where
  -- an open or a long line
  line_right : (node : List ℕ) (why : Verdict) → has_steps minimus node ≡ true → IsSmall why → IsLine minimus (line_of node why)
  line_right node why steps small = record { steps = (decided node).0 steps; small = small }

  right_lines : All (IsLine minimus) minimus_lines
  right_lines = All-from_recursion (IsLine minimus) minimus_lines (
    line_right [] verdict.Open refl tt,
    (
      line_right (0 ∷ []) verdict.Open refl tt,
      (
        line_right (0 ∷ 0 ∷ []) verdict.Open refl tt,
        (line_right (0 ∷ 0 ∷ 0 ∷ []) verdict.Open refl tt, (line_right (0 ∷ 0 ∷ 0 ∷ 0 ∷ []) verdict.Long refl tt, tt)),
      ),
    ),
  )

  -- the plain course is the touch of the fourth line
  course_opened : IsOpened minimus minimus_lines plain_course
  course_opened = record { node = plain_course; stands = (3, omega arith, refl); is = refl }

  pub minimus_proved : IsBook minimus [] ([] ∷ []) (plain_course ∷ []) → ((calling : List ℕ) → Covers minimus [] ([] ∷ []) calling ↔ Kept minimus calling)
      → Proves minimus minimus_log (plain_course ∷ [])
  minimus_proved book fresh = record {
    lines = minimus_lines;
    text = refl;
    form = right_lines;
    whole = (refl, (refl, (refl, (refl, (refl, refl)))));
    verdicts = true_lines;
    ascending = book.ascending;
    each = λ calling. (
      λ held. (
        subst (IsOpened minimus minimus_lines) (one_held plain_course calling held) course_opened,
        (fresh calling).0 ((book.covered calling).0 held),
      ),
      λ h. (book.covered calling).1 ((fresh calling).1 h.1),
    );
  }
