-- Ways to nodes, each step with the hash of the node that it comes to.
use Rattle.std.specs.Prelude.{◌≡◌, ⊤, ℕ, List, [], ◌∷◌, map}
use Rattle.cr_shard.specs.declared.way.Front.{Front}
use Rattle.cr_shard.specs.Hashes.{hash_after}

abbrev pub steps_of : List Front → List ℕ
steps_of fronts = map (λ front. front.step) fronts

-- each hash is the one after the step, of which the first comes after a hash
abbrev pub AreHashed : ℕ → List Front → Type 0
AreHashed hash [] = ⊤
AreHashed hash (front ∷ fronts) = (front.hash ≡ hash_after hash front.step) × AreHashed front.hash fronts
