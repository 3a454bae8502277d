-- The options and the modes, what the assigned values must be, and which wish they are.
use Rattle.std.specs.Prelude.{◌≡◌, ℕ, Bool, false, not, ◌&&◌, ◌||◌, List, [], ◌∷◌, filter, find, Option, Some, None, is_some, option_map, option_and_then, codes}
use Rattle.std.specs.List.{list_any}
use Rattle.std.specs.Option.{option_map_or}
use Rattle.std.specs.Str.{bytes_eq}
use Rattle.cr_words.specs.Numbers.{number_from}
use Rattle.cr_words.specs.declared.fault.WordsFault.{WordsFault}
use Rattle.cr_words.specs.declared.fault.WordsFault.TheVariants as fault
use Rattle.cr_words.specs.declared.table.Kind.{Kind}
use Rattle.cr_words.specs.declared.table.Kind.TheVariants as kind
use Rattle.cr_words.specs.declared.wish.Wish.{Wish}
use Rattle.cr_words.specs.declared.wish.Mode.{Mode}
use Rattle.cr_words.specs.declared.wish.Mode.TheVariants.{Search, Make, Trail, Last, Cut, Join, Log, Audit}

-- an option beside `--do`, and its value where it is not given
pub record Choice : Type 0 where
  pub name : List ℕ
  pub default : Option (List ℕ)

abbrev pub choices : List Choice
choices =
    record { name = codes "workers"; default = Some (codes "1") }
    ∷ record { name = codes "turns"; default = None }
    ∷ record { name = codes "number"; default = Some (codes "0") }
    ∷ record { name = codes "every"; default = None }
    ∷ record { name = codes "into"; default = Some (codes "1") }
    ∷ []

-- what `--do` may name: the name, what that is, and the options that it uses
pub record Task : Type 0 where
  pub name : List ℕ
  pub kind : Kind
  pub uses : List (List ℕ)

abbrev pub tasks : List Task
tasks =
    record { name = codes "search"; kind = kind.Search; uses = codes "workers" ∷ codes "turns" ∷ codes "every" ∷ [] }
    ∷ record { name = codes "make"; kind = kind.Make; uses = codes "workers" ∷ codes "number" ∷ [] }
    ∷ record { name = codes "last"; kind = kind.Last; uses = [] }
    ∷ record { name = codes "cut"; kind = kind.Cut; uses = codes "into" ∷ [] }
    ∷ record { name = codes "join"; kind = kind.Join; uses = [] }
    ∷ record { name = codes "log"; kind = kind.Log; uses = [] }
    ∷ record { name = codes "audit"; kind = kind.Audit; uses = [] }
    ∷ []

-- what is assigned to each option, by its name: its value, which is its default where it was not given, and whether it
-- was given
pub record Assigned : Type 0 where
  pub value : List ℕ → Option (List ℕ)
  pub is_given : List ℕ → Bool

-- `--workers`: 1 to 64
abbrev pub workers_of : Assigned → Option ℕ
workers_of a = option_and_then (number_from 1 64) (a.value (codes "workers"))

-- none, or a number from the least to 2^63 - 1
abbrev pub turns_among : ℕ → Option (List ℕ) → Option (Option ℕ)
turns_among least None = Some None
turns_among least (Some text) = option_map Some (number_from least 9223372036854775807 text)

-- `--turns`: none, or 0 to 2^63 - 1
abbrev pub turns_of : Assigned → Option (Option ℕ)
turns_of a = turns_among 0 (a.value (codes "turns"))

-- `--every`: none, or 1 to 2^63 - 1
abbrev pub every_of : Assigned → Option (Option ℕ)
every_of a = turns_among 1 (a.value (codes "every"))

-- `--number`: 0 to 2^32 - 1
abbrev pub number_for : Assigned → Option ℕ
number_for a = option_and_then (number_from 0 4294967295) (a.value (codes "number"))

-- `--into`: 1 to 1,024
abbrev pub into_of : Assigned → Option ℕ
into_of a = option_and_then (number_from 1 1024) (a.value (codes "into"))

-- the first of some tasks that has the name
abbrev pub named : List Task → List ℕ → Option Task
named among word = find (λ task. bytes_eq word task.name) among

-- `--do`: one of the tasks
abbrev pub task_of : Assigned → Option Task
task_of a = option_and_then (named tasks) (a.value (codes "do"))

-- a search, which is one with a trail where `--every` says so
abbrev pub search_with : Option ℕ → Mode
search_with None = Search
search_with (Some every) = Trail every

-- the mode of a kind, with its number
abbrev pub mode_for : Assigned → Kind → Option Mode
mode_for a kind.Search = option_map search_with (every_of a)
mode_for a kind.Make = option_map Make (number_for a)
mode_for a kind.Last = Some Last
mode_for a kind.Cut = option_map Cut (into_of a)
mode_for a kind.Join = Some Join
mode_for a kind.Log = Some Log
mode_for a kind.Audit = Some Audit

abbrev pub mode_of : Assigned → Option Mode
mode_of a = option_and_then (λ task. mode_for a task.kind) (task_of a)

abbrev pub is_among : List (List ℕ) → List ℕ → Bool
is_among names name = list_any (λ other. bytes_eq other name) names

-- an option is given, and the task has no use for it
abbrev pub is_beyond : Assigned → Task → Choice → Bool
is_beyond a task choice = a.is_given choice.name && not (is_among task.uses choice.name)

-- an option is given that the task has no use for
abbrev pub exceeds : Assigned → Task → Bool
exceeds a task = list_any (is_beyond a task) choices

-- both options are given that say when a search writes a checkpoint
abbrev pub has_both : Assigned → Bool
has_both a = a.is_given (codes "turns") && a.is_given (codes "every")

-- options are given that do not go together: one that the task has no use for, or both `--turns` and `--every`
abbrev pub is_mixed : Assigned → Task → Bool
is_mixed a task = exceeds a task || has_both a

-- what each fault of values says of them
unfoldable pub has_fault : Assigned → WordsFault → Bool
has_fault a fault.Workers = not (is_some (workers_of a))
has_fault a fault.Turns = not (is_some (turns_of a))
has_fault a fault.Number = not (is_some (number_for a))
has_fault a fault.Mode = not (is_some (task_of a))
has_fault a fault.Every = not (is_some (every_of a))
has_fault a fault.Into = not (is_some (into_of a))
has_fault a fault.Mixed = option_map_or (exceeds a) (task_of a) false || has_both a
has_fault a _ = false

-- the faults of values, in the order in which they are looked for
abbrev pub order : List WordsFault
order = fault.Workers ∷ fault.Turns ∷ fault.Number ∷ fault.Mode ∷ fault.Every ∷ fault.Into ∷ fault.Mixed ∷ []

-- all that is wrong with the values, in that order
unfoldable pub faults_of : Assigned → List WordsFault
faults_of a = filter (has_fault a) order

-- nothing is wrong with the values, and the wish is theirs
pub record IsWishOf (a : Assigned) (wish : Wish) : Type 0 where
  pub has_workers : workers_of a ≡ Some wish.workers
  pub has_turns : turns_of a ≡ Some wish.turns
  pub has_mode : mode_of a ≡ Some wish.mode
  pub right : faults_of a ≡ []
