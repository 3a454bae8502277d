-- Lines of words, for worked examples.
use Rattle.std.specs.Prelude.{Bool, true, false, List, [], ◌∷◌, nat_eq, ℕ}
use Rattle.clap.specs.Words.{Text}
use Rattle.cr_words.specs.Commands.{are_taken, assigned}
use Rattle.cr_words.specs.Values.{faults_of}
use Rattle.cr_words.specs.declared.fault.WordsFault.{WordsFault}

abbrev pub before_first : ℕ → List Text → List Text
before_first byte [] = (byte ∷ []) ∷ []
before_first byte (word ∷ words) = (byte ∷ word) ∷ words

abbrev pub at_space : Bool → ℕ → List Text → List Text
at_space true byte words = [] ∷ words
at_space false byte words = before_first byte words

-- the words of a line, with one space between two
abbrev pub line : List ℕ → List Text
line [] = [] ∷ []
line (byte ∷ rest) = at_space (nat_eq byte 32) byte (line rest)

-- the two bytes of an e with an accent
abbrev pub accent : List ℕ
accent = 195 ∷ 169 ∷ []

abbrev pub is_line_taken : List ℕ → Bool
is_line_taken text = are_taken (line text)

-- all that is wrong with what a line assigns
abbrev pub line_faults : List ℕ → List WordsFault
line_faults text = faults_of (assigned (line text))
