-- How bells and places are written.
use Rattle.std.specs.Prelude.{ℕ, ◌-◌, get_or, codes}

-- the code of the byte that stands for a bell
abbrev pub symbol_of : ℕ → ℕ
symbol_of bell = get_or (codes "1234567890ETABCD") (bell - 1) 0
