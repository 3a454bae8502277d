-- The command of the command line, and what the words assign by clap's definition for a simple command.
use Rattle.std.specs.Prelude.{Bool, true, List, [], ◌∷◌, Option, Some, None, codes, map, String, string_bytes}
use Rattle.std.specs.declared.alloc.Global.{Global}
use Rattle.clap.specs.Words.{App, Row, Rule, Text, new_app, new_rule, with_rule, found_of, rows_of, matches_of, first_of, takes}
use Rattle.clap.specs.Takes.{is_given}
use Rattle.clap.specs.Simple.{on_top}
use Rattle.clap.specs.declared.parser.matches.ArgMatches.{ArgMatches}
use Rattle.clap.specs.declared.builder.action.ArgAction.TheVariants.{Set}
use Rattle.cr_words.specs.Values.{Assigned, Choice, choices}

-- an option that takes one value
abbrev pub option_with : Text → List Text → Rule
option_with id defaults = record (new_rule id) { long = Some id; action = Some Set; defaults = defaults }

-- the words are those after the program's name
abbrev pub bare_app : App
bare_app = on_top (λ s. record s { no_binary_name = true }) (new_app (codes "ringsearch"))

-- the rule of an option beside `--do`
abbrev pub defaults_of : Option Text → List Text
defaults_of None = []
defaults_of (Some text) = text ∷ []

abbrev pub rule_for : Choice → Rule
rule_for choice = option_with choice.name (defaults_of choice.default)

abbrev pub with_rules : App → List Rule → App
with_rules app [] = app
with_rules app (rule ∷ rules) = with_rules (with_rule app rule) rules

abbrev pub ring_app : App
ring_app = with_rules bare_app (option_with (codes "do") (codes "search" ∷ []) ∷ map rule_for choices)

abbrev pub texts_of : List (String Global) → List Text
texts_of = map string_bytes

-- clap's definition takes the words
unfoldable pub are_taken : List Text → Bool
are_taken words = takes ring_app words

-- what clap's definition matches to the options
unfoldable pub rows_in : List Text → List Row
rows_in words = matches_of ring_app words

abbrev pub assigned_in : List Row → Assigned
assigned_in rows = record { value = λ name. first_of name rows; is_given = λ name. is_given name rows }

-- what the matches that clap gives assign
abbrev pub values_of : ArgMatches → Assigned
values_of matches = assigned_in (rows_of (found_of matches))

-- what the words assign
unfoldable pub assigned : List Text → Assigned
assigned words = assigned_in (rows_in words)
