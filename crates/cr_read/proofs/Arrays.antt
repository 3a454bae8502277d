-- The items of an array.
use Rattle.std.proofs.Common.{◌≡◌, ℕ, Bool, true, false, cond, List, [], ◌∷◌, map, codes, Option, Some, None, option_map, refl, sym, ap, ◌∙◌}
use Rattle.std.proofs.lemmas.Option.{same_Some}
use Rattle.toml.specs.Data.{Data, string, integer, float, boolean, datetime, array, table, as_array, Members, get_member}
use Rattle.toml.specs.View.{items_of, view}
use Rattle.toml.specs.declared.value.Value.{Value}
use Rattle.cr_model.specs.Keys.{Key, listed, are_tables, items_faults, array_faults, text_at, members_in, values_in, written_letters}
use Rattle.cr_read.specs.FirstKeys.{letters_in}

pub listed_back : (values : List Data) → listed (items_of values) ≡ values
listed_back [] = refl
listed_back (value ∷ values) = ap (λ vs. value ∷ vs) (listed_back values)

pub array_of : (name : List ℕ) (least most : ℕ) (keys : List Key) (value : Data) (values : List Data) → option_map listed (as_array value) ≡ Some values
    → array_faults name least most keys (Some value) ≡ cond (are_tables least most values) (items_faults name keys 0 values) (name ∷ [])
array_of name least most keys (array items) values is = rw (same_Some _ _ is)
array_of name least most keys (string s) values is = absurd (cc)
array_of name least most keys (integer s) values is = absurd (cc)
array_of name least most keys (float s) values is = absurd (cc)
array_of name least most keys (boolean s) values is = absurd (cc)
array_of name least most keys (datetime s) values is = absurd (cc)
array_of name least most keys (table s) values is = absurd (cc)

pub no_array : (name : List ℕ) (least most : ℕ) (keys : List Key) (value : Data) → option_map listed (as_array value) ≡ None
    → array_faults name least most keys (Some value) ≡ name ∷ []
no_array name least most keys (array items) is = absurd (cc)
no_array name least most keys (string s) is = refl
no_array name least most keys (integer s) is = refl
no_array name least most keys (float s) is = refl
no_array name least most keys (boolean s) is = refl
no_array name least most keys (datetime s) is = refl
no_array name least most keys (table s) is = refl

-- the letters of values that stand in an array
pub letters_are : (methods : List Value) → letters_in methods ≡ map (λ value. text_at (codes "letter") (members_in value)) (map view methods)
letters_are [] = refl
letters_are (method ∷ methods) = ap (λ ls. text_at (codes "letter") (members_in (view method)) ∷ ls) (letters_are methods)

pub letters_written : (methods : List Value) (root : Members) → map view methods ≡ values_in (get_member (codes "method") root) → letters_in methods ≡ written_letters root
letters_written methods root is = letters_are methods ∙ ap (λ values. map (λ value. text_at (codes "letter") (members_in value)) values) is

passed : (right : Bool) (name : List ℕ) → cond right [] (name ∷ []) ≡ [] → right ≡ true
passed true name is = refl
passed false name is = absurd (cc)

-- an array of the right number of tables has the faults of its items
pub items_checked : (name : List ℕ) (least most : ℕ) (keys : List Key) (found : Option Data) (value : Data) (values : List Data) (right : Bool)
    → Some value ≡ found → Some values ≡ option_map listed (as_array value) → cond right [] (name ∷ []) ≡ [] → right ≡ are_tables least most values
    → items_faults name keys 0 values ≡ array_faults name least most keys found
items_checked name least most keys found value values right there is fine tables =
    rw (← there) (sym (array_of name least most keys value values (sym is) ∙ rw (sym tables ∙ passed right name fine)))
