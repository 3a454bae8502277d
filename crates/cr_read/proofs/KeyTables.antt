-- The reader's table of keys says what the definitions say.
use Rattle.std.proofs.Common.{◌≡◌, ℕ, List, [], ◌∷◌, ◌++◌, map, refl, ap, sym, ◌∙◌}
use Rattle.std.specs.Prelude.{flat_map}
use Rattle.toml.specs.Data.{Members}
use Rattle.cr_model.specs.Keys.{table_faults, unknown_keys, key_fault, stage_key, part_faults, parts, top_names, written_letters, key_faults}
use Rattle.cr_read.specs.FirstKeys.{key_of, known_faults}
use Rattle.cr_read.specs.declared.key_table.Key.{Key}

names_are : (letters : List (List ℕ)) (known : List Key) → map (λ key. key.name) (map (key_of letters) known) ≡ map (λ key. key.name.now) known
names_are letters [] = refl
names_are letters (key ∷ known) = ap (λ names. key.name.now ∷ names) (names_are letters known)

-- the faults of the known keys, and then of the unknown ones
faults_in_two : (path : List ℕ) (letters : List (List ℕ)) (known : List Key) (members : Members)
    → table_faults path (map (key_of letters) known) members ≡ known_faults path letters known members ++ unknown_keys path (map (λ key. key.name.now) known) members
faults_in_two path letters known members =
    ap (λ names. known_faults path letters known members ++ unknown_keys path names members) (names_are letters known)

-- where no known key is at fault, the unknown ones are left
pub unknown_left : (path : List ℕ) (letters : List (List ℕ)) (known : List Key) (members : Members) → known_faults path letters known members ≡ []
    → unknown_keys path (map (λ key. key.name.now) known) members ≡ table_faults path (map (key_of letters) known) members
unknown_left path letters known members none =
    sym (faults_in_two path letters known members ∙ ap (λ front. front ++ unknown_keys path (map (λ key. key.name.now) known) members) none)

-- a file's faults in three groups
pub all_keys : (top : Members) → key_faults top ≡ key_fault [] top stage_key ++ (flat_map (part_faults top) (parts (written_letters top)) ++ unknown_keys [] top_names top)
unfolding key_faults
all_keys top = refl
