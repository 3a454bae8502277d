-- What is counted of each front of a node, and its limits.
use Rattle.std.specs.Prelude.{ℕ, List, get_or, map}
use Rattle.std.specs.List.{zip}
use Rattle.cr_query.specs.declared.gauges.Gauge.{Gauge}
use Rattle.cr_query.specs.declared.tallies.Tally.{Tally}
use Rattle.cr_query.specs.declared.pattern_limits.Fitting.{Fitting}
use Rattle.cr_query.specs.Fronts.{counted_on}
use Rattle.cr_query.specs.Gauges.{RowGauge, hit, fitting_rows}

-- the gauge of a front
abbrev pub at_front : ℕ → Tally → Gauge
at_front front tally = record { of = tally.of; least = tally.least; beyond = tally.beyond; number = get_or tally.numbers front 0 }

abbrev pub gauges_at : ℕ → List Tally → List Gauge
gauges_at front tallies = map (at_front front) tallies

-- how many leads each tally counts of a front
abbrev pub leads_at : ℕ → List Tally → List ℕ
leads_at front tallies = map (λ tally. get_or tally.numbers front 0) tallies

-- a tally where the front after one has a lead more, with this mark or letter
abbrev pub tallied : ℕ → ℕ → Tally → Tally
tallied front of tally =
    record { of = tally.of; least = tally.least; beyond = tally.beyond; numbers = counted_on front (hit of (at_front front tally)) tally.numbers }

-- the same of patterns, which count rows: the gauge of a front
abbrev pub fitting_at : ℕ → Fitting → RowGauge
fitting_at front fitting = record { shape = fitting.shape; min = fitting.min; max = fitting.max; number = get_or fitting.numbers front 0 }

abbrev pub fittings_at : ℕ → List Fitting → List RowGauge
fittings_at front fittings = map (fitting_at front) fittings

-- how many rows of a front fit each pattern
abbrev pub rows_at : ℕ → List Fitting → List ℕ
rows_at front fittings = map (λ fitting. get_or fitting.numbers front 0) fittings

-- and where the front after one has so many rows more, those of a lead more, and so many for each pattern
abbrev pub rows_on : ℕ → ℕ → Fitting → Fitting
rows_on front more fitting =
    record { shape = fitting.shape; min = fitting.min; max = fitting.max; numbers = counted_on front more fitting.numbers }

abbrev pub lead_on : ℕ → List ℕ → List (List ℕ) → Fitting → Fitting
lead_on front head lead fitting = rows_on front (fitting_rows head lead fitting.shape) fitting

abbrev pub all_on : ℕ → List Fitting → List ℕ → List Fitting
all_on front fittings rows = map (λ pair. rows_on front pair.1 pair.0) (zip fittings rows)
