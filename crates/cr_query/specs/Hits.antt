-- Which steps each limit counts.
use Rattle.std.specs.Prelude.{◌≡◌, ℕ, ◌<◌, length, map, nat_eq, None, IfSome}
use Rattle.cr_model.specs.declared.query.Count.{Count}
use Rattle.cr_model.specs.declared.query.MethodCount.{MethodCount}
use Rattle.cr_model.specs.Problems.{ProblemParts}
use Rattle.cr_model.specs.Callings.{mark_of, letter_of, lead_length}
use Rattle.cr_query.specs.declared.hits.Hits.{Hits}
use Rattle.cr_query.specs.Sets.{steps_of}

-- the steps that a count is of
abbrev pub mark_steps : ProblemParts → Count → ℕ
mark_steps p count = steps_of (λ step. nat_eq (mark_of p step) count.mark) (length p.leads)

abbrev pub letter_steps : ProblemParts → MethodCount → ℕ
letter_steps p count = steps_of (λ step. nat_eq (letter_of p step) count.letter) (length p.leads)

-- all steps have so many changes, and changes of method have no limits
pub record AreAlike (p : ProblemParts) (number : ℕ) : Type 0 where
  pub long : (step : ℕ) → step < length p.leads → lead_length p step ≡ number
  pub «com» : p.query.com ≡ None

pub record AreHits (p : ProblemParts) (hits : Hits) : Type 0 where
  pub by_mark : hits.marks.items ≡ map (mark_steps p) p.query.counts
  pub by_letter : hits.letters.items ≡ map (letter_steps p) p.query.method_counts
  pub alike : IfSome hits.length (AreAlike p)
