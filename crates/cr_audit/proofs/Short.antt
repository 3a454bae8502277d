-- The touch of a valid node has few leads.
use Rattle.std.proofs.Common.{ℕ, zero, suc, ◌+◌, ◌*◌, ◌<◌, ◌≤◌, List, length, arith}
use Rattle.std.proofs.Math.Nat.{mul_assoc, mul-le-mul_left, mul-div-le}
use Rattle.std.proofs.lemmas.Nat.{le-div}
use Rattle.cr_model.specs.Problems.{ProblemParts}
use Rattle.std.proofs.lemmas.List.Elements.{All-append}
use Rattle.cr_model.specs.Callings.{HasSteps, length_of, shortest}
use Rattle.cr_model.specs.OneTurn.{touch_of}
use Rattle.cr_model.specs.Limits.{most_leads}
use Rattle.cr_model.specs.Queries.{cap}
use Rattle.cr_model.specs.Nodes.{IsValid}
use Rattle.cr_model.specs.Sound.{IsSound, sound_depth}
use Rattle.cr_model.specs.Dead.{parts_of}
use Rattle.cr_model.proofs.Below.{words, some_shortest, shortest_leads}

module _ (p : ProblemParts) (node : List ℕ) (sound : IsSound p) (valid : IsValid p node) where
  -- the touch of a valid node is no longer than a touch may be
  pub few_changes : parts_of p * length_of p node ≤ cap p
  few_changes =
      let one = mul-le-mul_left (parts_of p) valid.short in
      omega (arith, one, mul-div-le (cap p) (parts_of p))

  -- so it has few leads
  pub touch_is_short : parts_of p * length node ≤ most_leads
  touch_is_short =
      let one = mul-le-mul_left (parts_of p) (shortest_leads p node valid.steps) in
      let whole : parts_of p * length node * shortest p ≤ cap p = omega (arith, one, mul_assoc (parts_of p) (length node) (shortest p), few_changes) in
      omega (arith, le-div (parts_of p * length node) (cap p) (shortest p) (some_shortest p sound) whole, sound_depth p sound)

-- so many words have the steps of one
words_have_steps : (p : ProblemParts) (a number : ℕ) (word : List ℕ) → HasSteps p word → HasSteps p (words a number word)
words_have_steps p a zero word steps = λ k d inside. absurd (omega arith)
words_have_steps p a (suc number) word steps = All-append (λ step. step < length p.leads) word (words (a + 1) number word) steps (words_have_steps p (a + 1) number word steps)

pub touch_has_steps : (p : ProblemParts) (node : List ℕ) → HasSteps p node → HasSteps p (touch_of p node)
touch_has_steps p node steps = words_have_steps p 0 (parts_of p) node steps
