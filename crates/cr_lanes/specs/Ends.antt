-- How contracts see the end of a lane.
use Rattle.std.specs.Prelude.{◌≡◌, true, ℕ, ◌+◌, ◌-◌, List, [], ◌++◌}
use Rattle.std.specs.declared.alloc.Global.{Global}
use Rattle.cr_lanes.specs.declared.known.Known.{Known}

-- which deque a lane is
abbrev pub LaneName : Type 0
LaneName = (ℕ × ℕ) × Global

-- the end of a lane: which deque it is, the lane's number and room, how many passes of thieves are out, what it has put and
-- taken, and what was stolen by the passes that came back
pub record EndParts : Type 0 where
  pub name : LaneName
  pub lane : ℕ
  pub room : ℕ
  pub lent : ℕ
  pub put : List ℕ
  pub taken : List ℕ
  pub gone : List ℕ

abbrev pub end_parts : LaneName → ℕ → ℕ → Known → EndParts
end_parts name lane room v = record { name = name; lane = lane; room = room; lent = v.lent; put = v.put; taken = v.taken; gone = v.gone }

-- one pass of a thief more is out
abbrev pub lent_more : EndParts → EndParts
lent_more e = record e { lent = e.lent + 1 }

-- the pass of a thief came back, with what it stole
abbrev pub taken_back : EndParts → List ℕ → EndParts
taken_back e stolen = record e { lent = e.lent - 1; gone = e.gone ++ stolen }

-- so many passes of thieves more are out
abbrev pub lent_by : ℕ → EndParts → EndParts
lent_by n e = record e { lent = e.lent + n }

-- an end with this room, which has put and taken nothing, and of which so many passes are out
pub record IsNewEnd (room lent : ℕ) (e : EndParts) : Type 0 where
  pub room_is : e.room ≡ room
  pub lent_is : e.lent ≡ lent
  pub put_is : e.put ≡ []
  pub taken_is : e.taken ≡ []
  pub gone_is : e.gone ≡ []

-- the end's pass knew just this
abbrev pub EndKnows : EndParts → Known → Type 0
EndKnows e v = (v.is_end ≡ true) × (v.lent ≡ e.lent) × (v.put ≡ e.put) × (v.taken ≡ e.taken) × (v.gone ≡ e.gone)
