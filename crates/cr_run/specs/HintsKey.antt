-- The key of hints, and what it says of an end.
use Rattle.std.specs.Prelude.{ℕ, List}
use Rattle.cr_lanes.specs.Ends.{LaneName, EndParts}
use Rattle.cr_run.specs.declared.hints.LaneHints.{LaneHints}
use Rattle.cr_run.specs.Keys.{LaneKey, lane_key}

abbrev pub hints_key : LaneHints → LaneKey
hints_key h = lane_key h.lanes.now h.end h.thief

-- the key of hints over an end, whose thief steals from all lanes
abbrev pub end_key : List LaneName → EndParts → LaneKey
end_key lanes e = record { lanes = lanes; name = e.name; lane = e.lane; lent = e.lent; gone = e.gone; thief = lanes }

-- which lane it is, how many passes are out and what is gone
abbrev pub end_part : EndParts → LaneName × ℕ × List ℕ
end_part e = (e.name, e.lent, e.gone)

abbrev pub key_part : LaneKey → LaneName × ℕ × List ℕ
key_part k = (k.name, k.lent, k.gone)
