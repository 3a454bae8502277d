-- Numbers on the command line.
use Rattle.std.specs.Prelude.{ℕ, Bool, ◌&&◌, cond, List, length, Option, Some, None, nat_le, option_and_then}
use Rattle.std.specs.Str.{all_ascii_digits}
use Rattle.std.specs.Str.Parse.{digits_value}

-- one to nineteen decimal digits
abbrev pub is_number : List ℕ → Bool
is_number text = nat_le 1 (length text) && (nat_le (length text) 19 && all_ascii_digits text)

-- the number that a text is
unfoldable pub number_of : List ℕ → Option ℕ
number_of text = cond (is_number text) (Some (digits_value 10 text)) None

abbrev pub in_range : ℕ → ℕ → ℕ → Option ℕ
in_range least most n = cond (nat_le least n && nat_le n most) (Some n) None

-- the number that a text is, where it lies in a range
unfoldable pub number_from : ℕ → ℕ → List ℕ → Option ℕ
number_from least most text = option_and_then (in_range least most) (number_of text)
