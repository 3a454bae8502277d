-- The first key of a table that has none of some names.
use Rattle.std.proofs.Common.{◌≡◌, ℕ, false, List, ◌∷◌, ◌++◌, String, Global, string_bytes, sym, ◌∙◌}
use Rattle.toml.specs.declared.value.Value.{Value}
use Rattle.toml.specs.View.{members_view}
use Rattle.cr_model.specs.Keys.{unknown_keys, is_among}

pub unknown_first : (path : List ℕ) (names : List (List ℕ)) (key : String Global) (value : Value) (later rest : List (String Global × Value)) (name here : List ℕ) (paths : List (List ℕ))
    → rest ≡ (key, value) ∷ later → unknown_keys path names (members_view rest) ≡ paths → name ≡ string_bytes key → is_among names name ≡ false → here ≡ path ++ string_bytes key
    → (x : List (List ℕ)) × (paths ≡ here ∷ x)
unknown_first path names key value later rest name here paths is all named unknown at =
    let is_not : is_among names (string_bytes key) ≡ false = rw named at unknown in
    let found : unknown_keys path names (members_view ((key, value) ∷ later)) ≡ (path ++ string_bytes key) ∷ unknown_keys path names (members_view later) = rw is_not in
    (unknown_keys path names (members_view later), sym all ∙ rw is (found ∙ rw (← at)))
