-- What is asked of a node before its touch is rung.
use Rattle.std.specs.Prelude.{◌≡◌, ◌≢◌, ℕ, ◌*◌, true, pos, ◌≤ℤ◌, List, [], None}
use Rattle.cr_row.specs.Rows.{rounds}
use Rattle.cr_model.specs.Problems.{ProblemParts}
use Rattle.cr_model.specs.Callings.{length_of, head_of}
use Rattle.cr_model.specs.Dead.{parts_of, turn_free}
use Rattle.cr_model.specs.OneTurn.{touch_of}
use Rattle.cr_model.specs.LeastRotations.{IsLeastRotation}
use Rattle.cr_query.specs.Meeting.{MeetsCounts, MeetsMethodCounts}

-- the node has steps, and its touch comes round, is long enough and meets the counts. Where all rotations of a touch meet the query, or none, the node is the least of its rotations
pub record MayBeKept (p : ProblemParts) (node : List ℕ) : Type 0 where
  pub round : (node ≢ []) × (head_of p (touch_of p node) ≡ rounds p.stage)
  pub long : p.query.min ≤ℤ pos (parts_of p * length_of p node)
  pub counts : MeetsCounts p (touch_of p node) × MeetsMethodCounts p (touch_of p node)
  pub least : turn_free p.query ≡ true → IsLeastRotation node

-- one part and no limits on changes of method: of the rotations of a touch only patterns may be met by one and not by another
pub record IsToldByPatterns (p : ProblemParts) : Type 0 where
  pub parts : parts_of p ≡ 1
  pub «com» : p.query.com ≡ None
