-- The keys of a problem file, and every key of a table that is missing, unknown or of the wrong kind, in order.
use Rattle.std.specs.Prelude.{ℕ, ◌+◌, Bool, true, false, cond, not, ◌&&◌, nat_eq, nat_le, List, [], ◌∷◌}
use Rattle.std.specs.Prelude.{◌++◌, length, map, flat_map, Option, Some, None, is_some, unwrap_or}
use Rattle.std.specs.Prelude.{option_and_then, ℤ, codes, decimal}
use Rattle.std.specs.List.{list_any, list_all}
use Rattle.std.specs.Cmp.Lexicographic.{pointwise}
use Rattle.toml.specs.Data.{Data, string, array, table, Items, no_items, item, Members, no_members}
use Rattle.toml.specs.Data.{member, get_member, as_str, as_integer, as_table}
use Rattle.cr_model.specs.Limits.{most_methods, most_counts, most_patterns}

-- the text is one of these
abbrev pub is_among : List (List ℕ) → List ℕ → Bool
is_among texts text = list_any (pointwise nat_eq text) texts

-- no byte stands twice
abbrev pub all_differ : List ℕ → Bool
all_differ [] = true
all_differ (byte ∷ bytes) = not (list_any (nat_eq byte) bytes) && all_differ bytes

-- one or more of these letters, each once. A letter that is not one byte is never named
abbrev pub is_selection : List (List ℕ) → List ℕ → Bool
is_selection letters text =
    (nat_le 1 (length text) && list_all (λ byte. is_among letters (byte ∷ [])) text) && all_differ text

-- what may stand at a key: a text, an integer, or a selection of letters
pub data Kind : Type 0 where
  text : Kind
  number : Kind
  selection : List (List ℕ) → Kind

abbrev pub has_kind : Kind → Data → Bool
has_kind text value = is_some (as_str value)
has_kind number value = is_some (as_integer value)
has_kind (selection letters) (string chosen) = is_selection letters chosen
has_kind (selection letters) _ = false

-- a key that a table may have, or must have where it is needed
pub record Key : Type 0 where
  pub name : List ℕ
  pub kind : Kind
  pub needed : Bool

abbrev pub must : List ℕ → Kind → Key
must name kind = record { name = name; kind = kind; needed = true }

abbrev pub may : List ℕ → Kind → Key
may name kind = record { name = name; kind = kind; needed = false }

abbrev pub stage_key : Key
stage_key = must (codes "stage") number

abbrev pub method_keys : List Key
method_keys = must (codes "letter") text ∷ must (codes "notation") text ∷ may (codes "name") text ∷ []

abbrev pub call_keys : List (List ℕ) → List Key
call_keys letters =
    must (codes "mark") text ∷ must (codes "notation") text
    ∷ may (codes "over") number ∷ may (codes "methods") (selection letters) ∷ []

abbrev pub query_keys : List Key
query_keys = must (codes "min") number ∷ must (codes "max") number ∷ may (codes "parts") number ∷ []

-- a text, named so, and two limits on its number
abbrev pub limited_keys : List ℕ → List Key
limited_keys name = must name text ∷ may (codes "min") number ∷ may (codes "max") number ∷ []

abbrev pub com_keys : List Key
com_keys = may (codes "min") number ∷ may (codes "max") number ∷ []

-- what stands at a key may stand there
abbrev pub is_right : Key → Option Data → Bool
is_right key None = not key.needed
is_right key (Some value) = has_kind key.kind value

-- a known key, if it is at fault
abbrev pub key_fault : List ℕ → Members → Key → List (List ℕ)
key_fault path members key = cond (is_right key (get_member key.name members)) [] ((path ++ key.name) ∷ [])

-- the keys that have none of these names. A table's keys ascend by their bytes
abbrev pub unknown_keys : List ℕ → List (List ℕ) → Members → List (List ℕ)
unknown_keys path names no_members = []
unknown_keys path names (member name value rest) =
    cond (is_among names name) (unknown_keys path names rest)
    ((path ++ name) ∷ unknown_keys path names rest)

-- a table's faults: known keys in their order, then unknown ones
abbrev pub table_faults : List ℕ → List Key → Members → List (List ℕ)
table_faults path keys members =
    flat_map (key_fault path members) keys ++ unknown_keys path (map (λ key. key.name) keys) members

-- the items of an array, as a list
abbrev pub listed : Items → List Data
listed no_items = []
listed (item value items) = value ∷ listed items

abbrev pub is_table : Data → Bool
is_table value = is_some (as_table value)

-- the members of a table. Anything else has none
abbrev pub members_in : Data → Members
members_in (table fields) = fields
members_in _ = no_members

-- a number of tables from `least` to `most`
abbrev pub are_tables : ℕ → ℕ → List Data → Bool
are_tables least most values = (nat_le least (length values) && nat_le (length values) most) && list_all is_table values

-- the path of what stands in an item, as `method[0].`
abbrev pub item_path : List ℕ → ℕ → List ℕ
item_path name i = name ++ codes "[" ++ decimal i ++ codes "]."

-- the faults of the items, of which the first has index i
abbrev pub items_faults : List ℕ → List Key → ℕ → List Data → List (List ℕ)
items_faults name keys i [] = []
items_faults name keys i (value ∷ values) =
    table_faults (item_path name i) keys (members_in value) ++ items_faults name keys (i + 1) values

-- an array's faults: its name, or those of its items. It may be absent where it may have no items
abbrev pub array_faults : List ℕ → ℕ → ℕ → List Key → Option Data → List (List ℕ)
array_faults name least most keys None = cond (nat_eq least 0) [] (name ∷ [])
array_faults name least most keys (Some (array items)) =
    cond (are_tables least most (listed items)) (items_faults name keys 0 (listed items)) (name ∷ [])
array_faults name least most keys (Some _) = name ∷ []

-- the faults of a table in the top: its name, or those of its keys
abbrev pub single_faults : List ℕ → Bool → List Key → Option Data → List (List ℕ)
single_faults name needed keys None = cond needed (name ∷ []) []
single_faults name needed keys (Some (table fields)) = table_faults (name ++ codes ".") keys fields
single_faults name needed keys (Some _) = name ∷ []

-- what a part of the file is: an array of a number of tables from `least` to `most`, or a table, needed or not
pub data Shape : Type 0 where
  several : ℕ → ℕ → Shape
  single : Bool → Shape

-- a part of the file: its name in the top, and the keys of each of its tables
pub record Part : Type 0 where
  pub name : List ℕ
  pub shape : Shape
  pub keys : List Key

abbrev pub part_named : List ℕ → Shape → List Key → Part
part_named name shape keys = record { name = name; shape = shape; keys = keys }

-- the parts in their order, where the methods have these letters
abbrev pub parts : List (List ℕ) → List Part
parts letters =
    part_named (codes "method") (several 1 most_methods) method_keys
    ∷ part_named (codes "call") (several 0 23) (call_keys letters)
    ∷ part_named (codes "query") (single true) query_keys
    ∷ part_named (codes "count") (several 0 most_counts) (limited_keys (codes "mark"))
    ∷ part_named (codes "leads") (several 0 most_counts) (limited_keys (codes "letter"))
    ∷ part_named (codes "rows") (several 0 most_patterns) (limited_keys (codes "pattern"))
    ∷ part_named (codes "com") (single false) com_keys
    ∷ []

-- the names that the top of the file may have
abbrev pub top_names : List (List ℕ)
top_names = codes "stage" ∷ map (λ part. part.name) (parts [])

abbrev pub shape_faults : List ℕ → List Key → Shape → Option Data → List (List ℕ)
shape_faults name keys (several least most) found = array_faults name least most keys found
shape_faults name keys (single needed) found = single_faults name needed keys found

-- the faults of a part
abbrev pub part_faults : Members → Part → List (List ℕ)
part_faults members part = shape_faults part.name part.keys part.shape (get_member part.name members)

-- the values of an array at a key of the top
abbrev pub values_in : Option Data → List Data
values_in (Some (array items)) = listed items
values_in _ = []

-- the integer at a key, or else the default
abbrev pub number_at : List ℕ → ℤ → Members → ℤ
number_at name default members = unwrap_or (option_and_then as_integer (get_member name members)) default

-- the text at a key, or else none
abbrev pub text_at : List ℕ → Members → List ℕ
text_at name members = unwrap_or (option_and_then as_str (get_member name members)) []

-- the letters of the methods, as they are written
abbrev pub written_letters : Members → List (List ℕ)
written_letters members =
    map (λ value. text_at (codes "letter") (members_in value)) (values_in (get_member (codes "method") members))

-- every key at fault, in the order of the file's keys, with the unknown keys of the top last
unfoldable pub key_faults : Members → List (List ℕ)
key_faults members =
    key_fault [] members stage_key
    ++ (flat_map (part_faults members) (parts (written_letters members))
    ++ unknown_keys [] top_names members)
