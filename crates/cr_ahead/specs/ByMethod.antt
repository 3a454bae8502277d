-- Places by lead head and by the method of the last lead, if there is one.
use Rattle.std.specs.Prelude.{ℕ, zero, suc, ◌+◌, ◌*◌, ◌/◌, ◌%◌, List, [], length, get_or, map, Option, Some, None}
use Rattle.std.specs.List.{range_with_len}
use Rattle.cr_model.specs.Problems.{ProblemParts}
use Rattle.cr_model.specs.Callings.{method_of}
use Rattle.cr_ahead.specs.LeadMoves.{changing_gain}
use Rattle.cr_ahead.specs.Gaining.{gains_from}

-- how many places each head has: one for no last method, and one for each method
abbrev pub places_each : ProblemParts → ℕ
places_each p = length p.letters + 1

-- of some places for each head, the one with this last method, or with none
abbrev pub method_number : Option ℕ → ℕ
method_number None = 0
method_number (Some method) = method + 1

abbrev pub place_by : ℕ → ℕ → Option ℕ → ℕ
place_by each place last = place * each + method_number last

-- the last method at a place
abbrev pub method_at : ℕ → Option ℕ
method_at zero = None
method_at (suc method) = Some method

abbrev pub last_at : ℕ → ℕ → Option ℕ
last_at each place = method_at (place % each)

-- each head so often, head after head
abbrev pub spread_heads : ℕ → List (List ℕ) → List (List ℕ)
spread_heads each heads = map (λ place. get_or heads (place / each) []) (range_with_len 0 (length heads * each))

-- to which of these places each step leads from each of them: the place of the head that it leads to, and of its method
abbrev pub spread_place : ProblemParts → ℕ → List ℕ → ℕ → ℕ → ℕ
spread_place p each next place step = place_by each (get_or next (place / each * length p.leads + step) 0) (Some (method_of p step))

abbrev pub spread_next : ProblemParts → ℕ → ℕ → List ℕ → List ℕ
spread_next p each places next = gains_from places (length p.leads) (spread_place p each next)

-- what each step adds to the changes of method from each of them
abbrev pub changing_gains : ProblemParts → ℕ → ℕ → List ℕ
changing_gains p each places = gains_from places (length p.leads) (λ place step. changing_gain p (last_at each place) step)
