-- The limits that each problem keeps to.
use Rattle.std.specs.Prelude.{ℕ}

-- methods
abbrev pub most_methods : ℕ
most_methods = 8

-- steps: the plain lead and the calls of each method, together
abbrev pub most_steps : ℕ
most_steps = 24

-- changes of a lead
abbrev pub most_lead_changes : ℕ
most_lead_changes = 128

-- changes of a touch, and the greatest number that any limit may say
abbrev pub most_changes : ℕ
most_changes = 12000

-- leads of a calling
abbrev pub most_leads : ℕ
most_leads = 1024

-- parts of a touch
abbrev pub most_parts : ℕ
most_parts = 64

-- counts of marks, and counts of methods
abbrev pub most_counts : ℕ
most_counts = 16

-- patterns
abbrev pub most_patterns : ℕ
most_patterns = 32
