-- What makes a touch a kept one, part by part.
use Rattle.std.specs.Prelude.{ℕ, ◌<◌, ◌≤◌, pos, ◌≤ℤ◌, List, length, All}
use Rattle.cr_model.specs.Problems.{ProblemParts}
use Rattle.cr_model.specs.Callings.{length_of}
use Rattle.cr_model.specs.Queries.{cap, IsWithin, leads_marked, leads_lettered, rows_fitting, changes_of_method, MeetsCom, Meets}
use Rattle.cr_model.specs.Touches.{IsLess}
use Rattle.cr_model.specs.Decided.{rotated}

-- its counts are within their limits
abbrev pub AreMarkedAsAsked : ProblemParts → List ℕ → Type 0
AreMarkedAsAsked p calling = All (λ count. IsWithin count.min count.max (leads_marked p count.mark calling)) p.query.counts

abbrev pub AreLetteredAsAsked : ProblemParts → List ℕ → Type 0
AreLetteredAsAsked p calling = All (λ count. IsWithin count.min count.max (leads_lettered p count.letter calling)) p.query.method_counts

-- its leads are what the query asks for
pub record HasLeadsAsked (p : ProblemParts) (calling : List ℕ) : Type 0 where
  pub long : p.query.min ≤ℤ pos (length_of p calling)
  pub short : length_of p calling ≤ cap p
  pub marks : AreMarkedAsAsked p calling
  pub letters : AreLetteredAsAsked p calling
  pub method_changes : MeetsCom p.query.com (changes_of_method p calling)

-- and so are some rows
abbrev pub AreRowsAsked : ProblemParts → List (List ℕ) → Type 0
AreRowsAsked p rows = All (λ pattern. IsWithin pattern.min pattern.max (rows_fitting pattern.cells rows)) p.query.patterns

-- no rotation is less. By no lead, and by all, it is the calling itself
abbrev pub IsLeast : List ℕ → Type 0
IsLeast calling = (by : ℕ) → 0 < by → by < length calling → IsLess (rotated by calling) calling → ⊥

-- begun so many leads later, the calling is less and meets the query
pub record IsBetter (p : ProblemParts) (calling : List ℕ) (by : ℕ) : Type 0 where
  pub less : IsLess (rotated by calling) calling
  pub meets : Meets p (rotated by calling)

-- no rotation is less and meets the query
abbrev pub HasNoneBetter : ProblemParts → List ℕ → Type 0
HasNoneBetter p calling = (by : ℕ) → 0 < by → by < length calling → IsBetter p calling by → ⊥
