-- The first of some keys at fault, and the keys of each table.
use Rattle.std.specs.Prelude.{◌≡◌, ℕ, List, [], ◌∷◌, map, flat_map, codes, Result, MatchResult}
use Rattle.toml.specs.Data.{Members}
use Rattle.toml.specs.View.{view}
use Rattle.toml.specs.declared.value.Value.{Value}
use Rattle.cr_model.specs.Keys as keys
use Rattle.cr_model.specs.Keys.{key_fault, text_at, members_in}
use Rattle.cr_read.specs.declared.key_fault.KeyFault.{KeyFault}
use Rattle.cr_read.specs.declared.key_fault.KeyFault.TheVariants.{At, NoMemory}
use Rattle.cr_read.specs.declared.key_table.Kind.{Kind}
use Rattle.cr_read.specs.declared.key_table.Kind.TheVariants as kind
use Rattle.cr_read.specs.declared.key_table.Key.{Key}
use Rattle.cr_read.specs.declared.key_table.Shape.{Shape}
use Rattle.cr_read.specs.declared.key_table.Shape.TheVariants as shape
use Rattle.cr_read.specs.declared.key_table.Part.{Part}

-- the path is the first of these. Want of memory says nothing
abbrev pub IsFirst : List (List ℕ) → KeyFault → Type 0
IsFirst paths (At path) = (rest : List (List ℕ)) × (paths ≡ path ∷ rest)
IsFirst paths NoMemory = Unit {0}

-- a check of keys passes where none is at fault, and else answers the first
abbrev pub Checks : {A : Type 0} → List (List ℕ) → Result A KeyFault → Type 0
Checks paths answer = MatchResult answer (λ _. paths ≡ []) (IsFirst paths)

-- the letters of methods, as they are written
abbrev pub letters_in : List Value → List (List ℕ)
letters_in methods = map (λ value. text_at (codes "letter") (members_in (view value))) methods

-- the kinds, keys and parts of the reader's table, where the methods have these letters
abbrev pub kind_of : List (List ℕ) → Kind → keys.Kind
kind_of letters kind.Text = keys.text
kind_of letters kind.Number = keys.number
kind_of letters kind.Letters = keys.selection letters

abbrev pub key_of : List (List ℕ) → Key → keys.Key
key_of letters key = record { name = key.name.now; kind = kind_of letters key.kind; needed = key.needed }

abbrev pub shape_of : Shape → keys.Shape
shape_of (shape.Several least most) = keys.several least most
shape_of (shape.Single needed) = keys.single needed

abbrev pub part_of : List (List ℕ) → Part → keys.Part
part_of letters part =
    record { name = part.name.now; shape = shape_of part.shape; keys = map (key_of letters) part.keys.now }

-- the faults of a table's known keys
abbrev pub known_faults : List ℕ → List (List ℕ) → List Key → Members → List (List ℕ)
known_faults path letters known members = flat_map (key_fault path members) (map (key_of letters) known)
