-- How many rows of leads fit patterns, by numbers.
use Rattle.std.proofs.Common.{◌≡◌, ℕ, zero, suc, ◌+◌, ◌*◌, ◌<◌, ◌≤◌, List, [], ◌∷◌, ◌++◌, length, get_or, map, take, refl, sym, ap, ap₂, ◌∙◌, arith}
use Rattle.std.specs.Prelude.{flat_map}
use Rattle.std.specs.List.{range_with_len}
use Rattle.std.proofs.lemmas.List.{take_more, length-map, get_or_append_left, get_or-append-add, flat_map_more}
use Rattle.std.proofs.lemmas.List.Concat.{flat_map-cons}
use Rattle.std.proofs.lemmas.List.FromFn.{length-range_with_len, get_or-map-range_with_len}
use Rattle.cr_model.specs.declared.query.Cell.{Cell}
use Rattle.cr_model.specs.Limits.{most_patterns}
use Rattle.cr_model.specs.Problems.{PatternParts, ProblemParts}
use Rattle.cr_model.specs.Sound.{IsSound, sound_patterns}
use Rattle.cr_query.specs.Meters.{MeterParts, rows_fitting_after}
use Rattle.cr_path.specs.Counted.{CanCount}
use Rattle.cr_path.specs.Numbers.{NumberParts, lead_fitting, leads_fitting, all_fitting}

-- a piece for one item more
pub pieces_more : {X : Type 0} (f : X → List ℕ) (xs : List X) (i : ℕ) (x : X) → i < length xs → x ≡ get_or xs i x
    → flat_map f (take (i + 1) xs) ≡ flat_map f (take i xs) ++ f x
pieces_more {X = X} f xs i x inside at =
    ap (flat_map f) (take_more xs i x inside ∙ ap (λ (y : X). take i xs ++ y ∷ []) (sym at))
    ∙ sym (flat_map_more f [] (take i xs) x)

-- the number of a step from a head
pub at_lead : (p : ProblemParts) (cells : List Cell) (heads : List (List ℕ)) (head step : ℕ) → head < length heads → step < length p.leads
    → get_or (flat_map (leads_fitting p cells) heads) (head * length p.leads + step) 0 ≡ lead_fitting p cells (get_or heads head []) step
at_lead p cells [] head step inside known = absurd (omega arith)
at_lead p cells (h ∷ hs) zero step inside known =
    let mine : List ℕ = leads_fitting p cells h in
    let long : length mine ≡ length p.leads = length-map (range_with_len 0 (length p.leads)) (lead_fitting p cells h) ∙ length-range_with_len 0 (length p.leads) in
    let within : step < length mine = omega (arith, long, known) in
    let here : 0 + step ≡ step = omega arith in
    let place : zero * length p.leads + step ≡ step = omega arith in
    ap (λ (xs : List ℕ). get_or xs (zero * length p.leads + step) 0) (flat_map-cons (leads_fitting p cells) h hs)
    ∙ ap (λ (n : ℕ). get_or (mine ++ flat_map (leads_fitting p cells) hs) n 0) place
    ∙ get_or_append_left mine (flat_map (leads_fitting p cells) hs) 0 step within
    ∙ get_or-map-range_with_len (lead_fitting p cells h) 0 (length p.leads) step step 0 known here
at_lead p cells (h ∷ hs) (suc head) step inside known =
    let mine : List ℕ = leads_fitting p cells h in
    let long : length mine ≡ length p.leads = length-map (range_with_len 0 (length p.leads)) (lead_fitting p cells h) ∙ length-range_with_len 0 (length p.leads) in
    let place : suc head * length p.leads + step ≡ length mine + (head * length p.leads + step) = omega (arith, long) in
    ap (λ (xs : List ℕ). get_or xs (suc head * length p.leads + step) 0) (flat_map-cons (leads_fitting p cells) h hs)
    ∙ ap (λ (n : ℕ). get_or (mine ++ flat_map (leads_fitting p cells) hs) n 0) place
    ∙ get_or-append-add mine (flat_map (leads_fitting p cells) hs) (head * length p.leads + step) 0
    ∙ at_lead p cells hs head step (omega arith) known

-- the same of all patterns
all_at : (p : ProblemParts) (heads : List (List ℕ)) (head step : ℕ) → head < length heads → step < length p.leads → (patterns : List PatternParts)
    → map (λ (fitting : List ℕ). get_or fitting (head * length p.leads + step) 0) (map (all_fitting p heads) patterns)
    ≡ map (λ (pattern : PatternParts). lead_fitting p pattern.cells (get_or heads head []) step) patterns
all_at p heads head step inside known [] = refl
all_at p heads head step inside known (pattern ∷ patterns) =
    ap₂ (λ (n : ℕ) (ns : List ℕ). n ∷ ns) (at_lead p pattern.cells heads head step inside known) (all_at p heads head step inside known patterns)

-- a problem has few patterns
few_patterns : (p : ProblemParts) → IsSound p → length p.query.patterns ≤ most_patterns
few_patterns p sound = by (length p.query.patterns) refl
  where
    by : (number : ℕ) → length p.query.patterns ≡ number → length p.query.patterns ≤ most_patterns
    by zero is = omega (arith, is)
    by (suc number) is = omega (arith, is, (sound_patterns p sound number (omega (arith, is))).few)

module _ (t : NumberParts) (place step : ℕ) (node : List ℕ) (meter : MeterParts) (can : CanCount t place step node meter) where
  pub few_fittings : length t.fittings ≤ most_patterns
  few_fittings =
      omega (arith, ap length can.numbered.fitting, length-map meter.problem.query.patterns (all_fitting meter.problem t.heads), few_patterns meter.problem can.sound)

  -- what is told of a lead is what a meter counts
  pub fits_after : map (λ (fitting : List ℕ). get_or fitting place 0) t.fittings ≡ rows_fitting_after meter.problem node step
  fits_after =
      let p = meter.problem in
      let from = can.from in
      let index : place ≡ from.number * length p.leads + step =
      can.is ∙ ap (λ (n : ℕ). n + step) (from.starts ∙ ap (λ (n : ℕ). from.number * n) can.numbered.counted) in
      ap₂ (λ (n : ℕ) (fittings : List (List ℕ)). map (λ (fitting : List ℕ). get_or fitting n 0) fittings) index can.numbered.fitting
      ∙ all_at p t.heads from.number step from.numbered can.known p.query.patterns
      ∙ ap (λ (head : List ℕ). map (λ (pattern : PatternParts). lead_fitting p pattern.cells head step) p.query.patterns) from.is
