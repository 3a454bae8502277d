use Rattle.std.proofs.Common.{◌≡◌, ◌++◌, get_or, map, take}
use Rattle.cr_path.proofs.numbers.rung_leads.add_named.Given as goal

abbrev pub invariant-loop-place : goal.invariant-loop-place
invariant-loop-place l = l.numbers.items ≡ l.initial.numbers.items ++ map (λ place. get_or l.names place 0) (take l.place-index l.places)
