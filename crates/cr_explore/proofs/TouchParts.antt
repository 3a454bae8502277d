-- The part of a touch of equal parts.
use Rattle.std.proofs.Common.{◌≡◌, ℕ, ◌*◌, ◌/◌, ◌<◌, ◌≤◌, List, length, ap, ◌∙◌, arith}
use Rattle.std.proofs.Math.Nat.{mul_comm}
use Rattle.std.proofs.lemmas.Nat.{le-div}
use Rattle.std.proofs.lemmas.List.Elements.{All-take}
use Rattle.cr_model.specs.Problems.{ProblemParts}
use Rattle.cr_model.specs.Callings.{HasSteps, length_of}
use Rattle.cr_model.specs.Dead.{parts_of}
use Rattle.cr_model.specs.Nodes.{part_of, IsValid}
use Rattle.cr_model.specs.OneTurn.{touch_of}
use Rattle.cr_model.specs.Queries.{cap}
use Rattle.cr_model.specs.Sound.{IsSound}
use Rattle.cr_model.proofs.Below.{words_length, some_parts}
use Rattle.cr_model.proofs.Parts.{repeats_first}
use Rattle.cr_query.specs.Meeting.{HasParts}

module _ (p : ProblemParts) (touch : List ℕ) where
  -- the touch is its part, so often
  pub parts_are_whole : HasParts p touch → touch ≡ touch_of p (part_of p touch)
  parts_are_whole parts = repeats_first (parts_of p) touch parts.0 parts.1

  -- where it is no longer than a touch may be, its part is a valid node
  pub part_is_valid : IsSound p → HasSteps p touch → HasParts p touch → length_of p touch ≤ cap p → IsValid p (part_of p touch)
  part_is_valid sound steps parts short =
      let part = part_of p touch in
      let long : length_of p touch ≡ parts_of p * length_of p part = ap (length_of p) (parts_are_whole parts) ∙ words_length p 0 (parts_of p) part in
      let all : length_of p part * parts_of p ≤ cap p = omega (arith, long, short, mul_comm (length_of p part) (parts_of p)) in
      record {
        steps = All-take (λ step. step < length p.leads) (length touch / parts_of p) touch steps;
        short = le-div (length_of p part) (cap p) (parts_of p) (some_parts p sound) all;
      }
