-- A file with no key at fault has a method.
use Rattle.std.proofs.Common.{◌≡◌, ℕ, ◌≤◌, Bool, true, false, cond, ◌&&◌, List, [], ◌∷◌, ◌++◌, length, codes, Option, Some, None, refl, sym, subst, ◌∙◌, arith}
use Rattle.std.specs.Prelude.{nat_le, flat_map}
use Rattle.std.specs.List.{list_all}
use Rattle.std.proofs.lemmas.Bool.{and_parts}
use Rattle.std.proofs.lemmas.Bool.Decides.{nat_tests}
use Rattle.std.proofs.lemmas.List.{length-map}
use Rattle.toml.specs.Data.{Data, string, integer, float, boolean, datetime, array, table, Members, get_member}
use Rattle.cr_model.specs.Keys.{Key, listed, is_table, are_tables, method_keys, values_in, array_faults, parts, part_faults, written_letters, key_faults, key_fault, stage_key}
use Rattle.cr_model.specs.Files.{FileParts, IsFile, method_in, file_of}

none_left : {A : Type 0} (xs ys : List A) → xs ++ ys ≡ [] → xs ≡ []
none_left [] ys is = refl
none_left (x ∷ xs) ys is = absurd (cc)

none_right : {A : Type 0} (xs ys : List A) → xs ++ ys ≡ [] → ys ≡ []
none_right [] ys is = is
none_right (x ∷ xs) ys is = absurd (cc)

right_if : (right : Bool) (faults : List (List ℕ)) (name : List ℕ) → cond right faults (name ∷ []) ≡ [] → right ≡ true
right_if true faults name is = refl
right_if false faults name is = absurd (cc)

at_least : (a b : ℕ) → nat_le a b ≡ true → a ≤ b
at_least a b is = grind (arith, nat_tests)

some_values : (name : List ℕ) (keys : List Key) (found : Option Data) → array_faults name 1 8 keys found ≡ [] → 1 ≤ length (values_in found)
some_values name keys None is = absurd (cc)
some_values name keys (Some (array items)) is =
    let right = right_if (are_tables 1 8 (listed items)) _ name is in
    let (sized, tables) = and_parts (nat_le 1 (length (listed items)) && nat_le (length (listed items)) 8) (list_all is_table (listed items)) right in
    let (some, few) = and_parts (nat_le 1 (length (listed items))) (nat_le (length (listed items)) 8) sized in
    at_least 1 (length (listed items)) some
some_values name keys (Some (string s)) is = absurd (cc)
some_values name keys (Some (integer s)) is = absurd (cc)
some_values name keys (Some (float s)) is = absurd (cc)
some_values name keys (Some (boolean s)) is = absurd (cc)
some_values name keys (Some (datetime s)) is = absurd (cc)
some_values name keys (Some (table s)) is = absurd (cc)

pub methods_there : (top : Members) → key_faults top ≡ [] → 1 ≤ length (file_of top).methods
unfolding key_faults
methods_there top is =
    let letters = written_letters top in
    let behind = none_right (key_fault [] top stage_key) _ is in
    let all = none_left (flat_map (part_faults top) (parts letters)) _ behind in
    let methods = none_left (array_faults (codes "method") 1 8 method_keys (get_member (codes "method") top)) _ all in
    rw (length-map (values_in (get_member (codes "method") top)) method_in) (some_values (codes "method") method_keys (get_member (codes "method") top) methods)

pub some_methods : (bytes : List ℕ) (file : FileParts) → IsFile bytes file → 1 ≤ length file.methods
some_methods bytes file is = subst (λ (f : FileParts). 1 ≤ length f.methods) (sym is.is) (methods_there is.table is.keys)
