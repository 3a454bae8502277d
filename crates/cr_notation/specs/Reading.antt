-- Reading from left to right, one step a byte.
use Rattle.std.specs.Prelude.{ℕ, ◌+◌, ◌-◌, ◌%◌, Bool, true, false, cond, nat_eq, nat_lt, nat_le, List, [], ◌∷◌}
use Rattle.std.specs.Prelude.{◌++◌, length, take, Option, Some, None, Result, Ok, Err}
use Rattle.cr_row.specs.Rows.{Places}
use Rattle.cr_model.specs.declared.notation.NotationFault.{NotationFault}
use Rattle.cr_model.specs.declared.notation.NotationFault.TheVariants.{Symbol, Above, Order, Gap, CrossOnOdd}
use Rattle.cr_model.specs.declared.notation.NotationFault.TheVariants.{Dot, EmptyBlock, SecondComma, Long}
use Rattle.cr_model.specs.Limits.{most_lead_changes}
use Rattle.cr_model.specs.Notation.{Sign, cross, place, dot, comma, other, end_of_text, is_blank, sign_of}
use Rattle.cr_model.specs.Notation.{group, crossing, last_named, change_of, mirrored, IsNamed}
use Rattle.cr_notation.specs.declared.reader.Last.{Last}
use Rattle.cr_notation.specs.declared.reader.Last.TheVariants as last

-- what was read: the changes of a block that a comma ended, those of the block since, and the places named
-- in the open group
pub record State : Type 0 where
  pub comma_seen : Bool
  pub done : List Places
  pub block : List Places
  pub named : List ℕ
  pub last : Last

-- a list up to its first change that is too many, which tells that a text is too long
unfoldable pub kept : List Places → List Places
kept changes = take 129 changes

-- what is kept of what was read
abbrev pub kept_of : State → State
kept_of s = record s { done = kept s.done; block = kept s.block }

-- what is kept of what a step gives
abbrev pub kept_read : Result State NotationFault → Result State NotationFault
kept_read (Ok s) = Ok (kept_of s)
kept_read (Err f) = Err f

-- nothing was read yet
abbrev pub fresh : State
fresh = record { comma_seen = false; done = []; block = []; named = []; last = last.Nothing }

-- the changes of the block, with that of the open group
abbrev pub closed_by : ℕ → Last → List ℕ → List Places → List Places
closed_by n last.Nothing named block = block
closed_by n (last.Dot d) named block = block
closed_by n last.Cross named block = block
closed_by n last.Group named block = block ++ change_of n (group named) ∷ []

-- the same, of a state
unfoldable pub closed : ℕ → State → List Places
closed n s = closed_by n s.last s.named s.block

-- one more place of the open group
abbrev pub more_named : State → ℕ → ℕ → Result State NotationFault
more_named s k p =
    cond (nat_le p (last_named s.named)) (Err (Order k))
    (cond (nat_eq ((p - last_named s.named - 1) % 2) 1) (Err (Gap k)) (Ok (record s { named = s.named ++ p ∷ [] })))

-- the first place of a group
abbrev pub first_named : State → ℕ → State
first_named s p = record s { named = p ∷ []; last = last.Group }

-- a place of the stage, by what stands before it
abbrev pub named_after : Last → State → ℕ → ℕ → Result State NotationFault
named_after last.Nothing s k p = Ok (first_named s p)
named_after (last.Dot d) s k p = Ok (first_named s p)
named_after last.Cross s k p = Ok (first_named s p)
named_after last.Group s k p = more_named s k p

-- the change without places, where the stage has it
abbrev pub cross_on : ℕ → Option Places
cross_on n = cond (nat_eq (n % 2) 1) None (Some (change_of n crossing))

-- the symbol of place p, at byte k
unfoldable pub place_step : ℕ → State → ℕ → ℕ → Result State NotationFault
place_step n s k p = cond (nat_lt n p) (Err (Above k)) (named_after s.last s k p)

-- a cross at byte k
unfoldable pub cross_step : ℕ → State → ℕ → Result State NotationFault
cross_step n s k =
    cond (nat_eq (n % 2) 1) (Err (CrossOnOdd k))
    (Ok (record s { block = closed n s ++ change_of n crossing ∷ []; named = []; last = last.Cross }))

-- a dot at byte k, by what stands before it
abbrev pub dot_after : ℕ → Last → State → ℕ → Result State NotationFault
dot_after n last.Nothing s k = Err (Dot k)
dot_after n (last.Dot d) s k = Err (Dot k)
dot_after n last.Cross s k = Ok (record s { block = closed n s; named = []; last = last.Dot k })
dot_after n last.Group s k = Ok (record s { block = closed n s; named = []; last = last.Dot k })

-- the same, of a state
unfoldable pub dot_step : ℕ → State → ℕ → Result State NotationFault
dot_step n s k = dot_after n s.last s k

-- the block ends: its changes with those before it
abbrev pub ended : ℕ → State → State
ended n s =
    record s { done = s.done ++ mirrored (closed n s); block = []; named = []; comma_seen = true; last = last.Nothing }

-- a comma at byte k, by what stands before it
abbrev pub comma_after : ℕ → Last → State → ℕ → Result State NotationFault
comma_after n (last.Dot d) s k = Err (Dot d)
comma_after n last.Nothing s k = cond s.comma_seen (Err (SecondComma k)) (Err (EmptyBlock k))
comma_after n last.Cross s k = cond s.comma_seen (Err (SecondComma k)) (Ok (ended n s))
comma_after n last.Group s k = cond s.comma_seen (Err (SecondComma k)) (Ok (ended n s))

-- the same, of a state
unfoldable pub comma_step : ℕ → State → ℕ → Result State NotationFault
comma_step n s k = comma_after n s.last s k

-- the changes of the whole
abbrev pub whole : ℕ → State → List Places
whole n s = cond s.comma_seen (s.done ++ mirrored (closed n s)) (closed n s)

-- the end at byte k, by what stands before it
abbrev pub end_after : ℕ → Last → State → ℕ → Result (List Places) NotationFault
end_after n (last.Dot d) s k = Err (Dot d)
end_after n last.Nothing s k = Err (EmptyBlock k)
end_after n last.Cross s k = Ok (whole n s)
end_after n last.Group s k = Ok (whole n s)

-- the same, of a state
unfoldable pub end_step : ℕ → State → ℕ → Result (List Places) NotationFault
end_step n s k = end_after n s.last s k

-- a byte that is no blank
unfoldable pub step : ℕ → State → ℕ → Sign → Result State NotationFault
step n s k cross = cross_step n s k
step n s k (place p) = place_step n s k p
step n s k dot = dot_step n s k
step n s k comma = comma_step n s k
step n s k other = Err (Symbol k)
step n s k end_of_text = Err (Symbol k)

-- a byte at place k: a blank changes nothing
unfoldable pub byte_step : ℕ → State → ℕ → ℕ → Result State NotationFault
byte_step n s k byte = cond (is_blank byte) (Ok s) (step n s k (sign_of byte))

-- a fault ends the reading
abbrev pub then_all : Result State NotationFault → (State → Result (List Places) NotationFault)
    → Result (List Places) NotationFault
then_all (Ok s) next = next s
then_all (Err f) next = Err f

-- the bytes from place k on, and the end
unfoldable pub read_from : ℕ → State → ℕ → List ℕ → Result (List Places) NotationFault
read_from n s k [] = end_step n s k
read_from n s k (byte ∷ bytes) = then_all (byte_step n s k byte) (λ after. read_from n after (k + 1) bytes)

-- no more changes than a lead may have
abbrev pub limited : ℕ → Result (List Places) NotationFault → Result (List Places) NotationFault
limited k (Err f) = Err f
limited k (Ok changes) = cond (nat_lt most_lead_changes (length changes)) (Err (Long k)) (Ok changes)

-- the whole text
unfoldable pub read_all : ℕ → List ℕ → Result (List Places) NotationFault
read_all n text = limited (length text) (read_from n fresh 0 text)

-- the named places of an open group follow the rules
abbrev pub IsOpenBy : ℕ → Last → List ℕ → Type 0
IsOpenBy n last.Group named = IsNamed n named
IsOpenBy n _ named = Unit {0}

-- the same, of a state
abbrev pub IsOpen : ℕ → State → Type 0
IsOpen n s = IsOpenBy n s.last s.named
