-- Gains by place and step, in one list.
use Rattle.std.specs.Prelude.{ℕ, ◌*◌, ◌/◌, ◌%◌, List, map}
use Rattle.std.specs.List.{range_with_len}

-- place after place
abbrev pub gains_from : ℕ → ℕ → (ℕ → ℕ → ℕ) → List ℕ
gains_from places steps gain = map (λ entry. gain (entry / steps) (entry % steps)) (range_with_len 0 (places * steps))
