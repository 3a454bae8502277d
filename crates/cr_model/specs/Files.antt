-- A problem file as plain values: its texts and numbers, with the defaults filled in.
use Rattle.std.specs.Prelude.{◌≡◌, ℕ, ℤ, pos, List, [], map, Option, Some, None, option_map, option_and_then}
use Rattle.std.specs.Prelude.{IsUtf8, codes}
use Rattle.toml.specs.Data.{Data, Members, no_members, get_member, as_str, as_integer}
use Rattle.toml.specs.Parse.{parse_document}
use Rattle.cr_model.specs.declared.query.Com.{Com}
use Rattle.cr_model.specs.Limits.{most_changes}
use Rattle.cr_model.specs.Keys.{key_faults, members_in, values_in, number_at, text_at}

-- a method, by its letter and its place notation
pub record MethodText : Type 0 where
  pub letter : List ℕ
  pub notation : List ℕ

-- a call: how many changes it replaces and which methods it is for, if the file says so
pub record CallText : Type 0 where
  pub mark : List ℕ
  pub notation : List ℕ
  pub over : Option ℤ
  pub methods : Option (List ℕ)

-- a mark, a letter or a pattern, and two limits
pub record Limited : Type 0 where
  pub text : List ℕ
  pub min : ℤ
  pub max : ℤ

pub record FileParts : Type 0 where
  pub stage : ℤ
  pub methods : List MethodText
  pub calls : List CallText
  pub min : ℤ
  pub max : ℤ
  pub parts : ℤ
  pub counts : List Limited
  pub leads : List Limited
  pub patterns : List Limited
  pub «com» : Option Com

abbrev pub method_in : Data → MethodText
method_in value = record {
  letter = text_at (codes "letter") (members_in value);
  notation = text_at (codes "notation") (members_in value);
}

abbrev pub call_in : Data → CallText
call_in value = record {
  mark = text_at (codes "mark") (members_in value);
  notation = text_at (codes "notation") (members_in value);
  over = option_and_then as_integer (get_member (codes "over") (members_in value));
  methods = option_and_then as_str (get_member (codes "methods") (members_in value));
}

-- the limits are 0 and 12,000 where the file says nothing
abbrev pub limited_in : List ℕ → Data → Limited
limited_in name value = record {
  text = text_at name (members_in value);
  min = number_at (codes "min") (pos 0) (members_in value);
  max = number_at (codes "max") (pos most_changes) (members_in value);
}

abbrev pub com_in : Data → Com
com_in value = record {
  min = number_at (codes "min") (pos 0) (members_in value);
  max = number_at (codes "max") (pos most_changes) (members_in value);
}

-- the members of a table of the top
abbrev pub part_in : Option Data → Members
part_in None = no_members
part_in (Some value) = members_in value

-- what a table that has no key at fault says
abbrev pub file_of : Members → FileParts
file_of table = record {
  stage = number_at (codes "stage") (pos 0) table;
  methods = map method_in (values_in (get_member (codes "method") table));
  calls = map call_in (values_in (get_member (codes "call") table));
  min = number_at (codes "min") (pos 0) (part_in (get_member (codes "query") table));
  max = number_at (codes "max") (pos 0) (part_in (get_member (codes "query") table));
  parts = number_at (codes "parts") (pos 1) (part_in (get_member (codes "query") table));
  counts = map (limited_in (codes "mark")) (values_in (get_member (codes "count") table));
  leads = map (limited_in (codes "letter")) (values_in (get_member (codes "leads") table));
  patterns = map (limited_in (codes "pattern")) (values_in (get_member (codes "rows") table));
  «com» = option_map com_in (get_member (codes "com") table);
}

-- the bytes are a text, and TOML reads it as this table
pub record Reads (bytes : List ℕ) (table : Members) : Type 0 where
  pub text : IsUtf8 bytes
  pub is : parse_document bytes ≡ Some table

-- the bytes are a table with no key at fault, and these are its values
pub record IsFile (bytes : List ℕ) (file : FileParts) : Type 0 where
  pub table : Members
  pub reads : Reads bytes table
  pub keys : key_faults table ≡ []
  pub is : file ≡ file_of table
