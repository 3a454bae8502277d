-- Numbers that go up and down, and their limits.
use Rattle.std.specs.Prelude.{◌≡◌, ℕ, ◌+◌, ◌-◌, ◌*◌, ◌/◌, ◌<◌, ◌≤◌, ℤ, pos, int_lt, nat_abs, nat_lt, nat_le, nat_eq, Bool, ◌||◌, cond, List, length, get_or, count_by, map, All, Option}
use Rattle.std.specs.Int.{div_ceil}
use Rattle.std.specs.List.{list_any, range_with_len, zip}
use Rattle.cr_row.specs.Rows.{product}
use Rattle.cr_model.specs.declared.query.Com.{Com}
use Rattle.cr_model.specs.Dead.{above_com, below_com}
use Rattle.cr_model.specs.Limits.{most_leads}
use Rattle.cr_query.specs.declared.kinds.Kind.{Kind}
use Rattle.cr_query.specs.declared.numbers.Numbers.{Numbers}
use Rattle.cr_query.specs.declared.gauges.Gauge.{Gauge}
use Rattle.cr_query.specs.Sets.{has_step}
use Rattle.cr_query.specs.Shapes.{ShapeParts, has_shape}

-- how many leads each of so many equal parts has at least where all together have no fewer than a limit asks for
abbrev pub fewest : ℕ → ℤ → ℕ
fewest parts least = cond (int_lt least (pos 0)) 0 (div_ceil (nat_abs least) parts)

-- from how many leads on, in each of so many equal parts, all together have more than a limit allows
abbrev pub too_many : ℕ → ℤ → ℕ
too_many parts greatest = cond (int_lt greatest (pos 0)) 0 (nat_abs greatest / parts + 1)

-- one where the mark or the letter is the gauge's
abbrev pub hit : ℕ → Gauge → ℕ
hit of gauge = cond (nat_eq of gauge.of) 1 0

abbrev pub at_number : ℕ → Gauge → Gauge
at_number number gauge = record { of = gauge.of; least = gauge.least; beyond = gauge.beyond; number = number }

-- a gauge after one lead more with this mark or letter
abbrev pub raised : ℕ → Gauge → Gauge
raised of gauge = at_number (gauge.number + hit of gauge) gauge

-- the number is beyond what is allowed, or with so many more still below the least, or one of both
abbrev pub is_above : Gauge → Bool
is_above gauge = nat_le gauge.beyond gauge.number

abbrev pub is_below : ℕ → Gauge → Bool
is_below more gauge = nat_lt (gauge.number + more) gauge.least

abbrev pub is_out : ℕ → Gauge → Bool
is_out more gauge = is_above gauge || is_below more gauge

-- the number is within the limits
abbrev pub IsIn : Gauge → Type 0
IsIn gauge = (gauge.least ≤ gauge.number) × (gauge.number < gauge.beyond)

-- of a step with this mark or letter, sets tell which gauges count it
abbrev pub AreOf : ℕ → ℕ → List Gauge → List ℕ → Type 0
AreOf step of gauges sets = (i : ℕ) (d : Gauge) → i < length gauges → has_step (get_or sets i 0) step ≡ nat_eq of (get_or gauges i d).of

-- the numbers are no more than the leads of a calling
abbrev pub AreFew : List Gauge → Type 0
AreFew gauges = All (λ gauge. gauge.number ≤ most_leads) gauges

-- too many or too few leads, told by gauges and by changes of method
abbrev pub too_many_leads : Numbers → List Gauge → List Gauge → ℕ → Bool
too_many_leads numbers marks letters changes =
    list_any is_above marks || (list_any is_above letters || above_com numbers.com (numbers.parts * changes))

abbrev pub too_few_leads : Numbers → List Gauge → List Gauge → ℕ → ℕ → Bool
too_few_leads numbers marks letters changes left =
    list_any (is_below left) marks
    || (list_any (is_below left) letters || below_com numbers.com (numbers.parts * (changes + left) + numbers.parts - 1))

-- in so many parts the changes of method are above the limits, or with as many more as leads are left still below them
abbrev pub is_com_out : Option Com → ℕ → ℕ → ℕ → Bool
is_com_out limits parts changes left = above_com limits (parts * changes) || below_com limits (parts * (changes + left) + parts - 1)

-- too many or too few leads with one more of a kind, which changes the method so often, and so many that are left after it
abbrev pub hopeless_with : Numbers → List Gauge → List Gauge → Kind → ℕ → ℕ → Bool
hopeless_with numbers marks letters kind changes left =
    list_any (λ gauge. is_out left (raised kind.mark gauge)) marks
    || (list_any (λ gauge. is_out left (raised kind.letter gauge)) letters || is_com_out numbers.com numbers.parts changes left)

-- how many leads a part of this length has room for
abbrev pub room_left : Numbers → ℕ → ℕ
room_left numbers long = (numbers.part_most - long) / numbers.shortest

-- the same of each length from none to the greatest of a part: a part that is longer has room for none
abbrev pub AreRooms : Numbers → List ℕ → Type 0
AreRooms numbers rooms = rooms ≡ map (room_left numbers) (range_with_len 0 (numbers.part_most + 1))

-- bounds on the numbers of a problem
pub record HasSmallNumbers (numbers : Numbers) : Type 0 where
  pub some_parts : 1 ≤ numbers.parts
  pub few_parts : numbers.parts ≤ 64
  pub some_changes : 1 ≤ numbers.shortest
  pub short : numbers.most ≤ 12000
  pub short_part : numbers.part_most ≤ 12000

-- the shape of a pattern, its limits, and how many rows fit
pub record RowGauge : Type 0 where
  pub shape : ShapeParts
  pub min : ℤ
  pub max : ℤ
  pub number : ℕ

abbrev pub with_rows : ℕ → RowGauge → RowGauge
with_rows number gauge = record { shape = gauge.shape; min = gauge.min; max = gauge.max; number = number }

-- the numbers are no more than the rows of a calling
abbrev pub HasFewRows : List RowGauge → Type 0
HasFewRows gauges = All (λ gauge. gauge.number ≤ 1048576) gauges

-- so many rows more for each pattern
abbrev pub counted_more : List RowGauge → List ℕ → List RowGauge
counted_more gauges rows = map (λ pair. with_rows (pair.0.number + pair.1) pair.0) (zip gauges rows)

-- how many products of a head with the rows of a lead have a shape
abbrev pub fitting_rows : List ℕ → List (List ℕ) → ShapeParts → ℕ
fitting_rows head lead shape = count_by (has_shape shape) (map (product head) lead)

abbrev pub rows_more : List ℕ → List (List ℕ) → RowGauge → RowGauge
rows_more head lead gauge = with_rows (gauge.number + fitting_rows head lead gauge.shape) gauge

abbrev pub has_more_rows : RowGauge → Bool
has_more_rows gauge = int_lt gauge.max (pos gauge.number)

abbrev pub has_fewer_rows : ℕ → RowGauge → Bool
has_fewer_rows more gauge = int_lt (pos (gauge.number + more)) gauge.min
