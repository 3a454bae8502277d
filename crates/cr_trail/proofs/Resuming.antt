-- The last whole checkpoint of a front of a trail.
use Rattle.std.proofs.Common.{◌≡◌, ℕ, suc, ◌+◌, ◌-◌, ◌^◌, ◌<◌, ◌≤◌, List, [], ◌∷◌, ◌++◌, length, get_or, take, drop, Result, Ok, sym, ap, ◌∙◌, subst, arith}
use Rattle.std.proofs.Common.{length-append, append_assoc}
use Rattle.std.specs.Prelude.{codes, All}
use Rattle.std.proofs.lemmas.List.{take-append-drop, take_more}
use Rattle.std.proofs.lemmas.List.Elements.{All-nil, All-cons}
use Rattle.std.proofs.lemmas.Grind.{flat_map-append}
use Rattle.std.proofs.Math.Seq.{take-append_seam, take-append-add, drop-append_seam, drop-cons}
use Rattle.cr_model.specs.Checkpoints.{number_line}
use Rattle.cr_model.specs.Inputs.{SameCover}
use Rattle.cr_store.specs.Blocks.{block, blocks}
use Rattle.cr_store.specs.Chains.{IsChain}
use Rattle.cr_trail.specs.declared.last.TrailFault.{TrailFault}
use Rattle.cr_trail.specs.Lasts.{IsLast}
use Rattle.cr_trail.specs.Cuts.{IsLastWhole, TellsLastWhole}
use Rattle.cr_trail.specs.Trails.{IsTrail}
use Rattle.cr_trail.specs.Taken.{IsTakenFrom, AreTaken}
use Rattle.cr_trail.proofs.Written.{blocks_more}

module _ (bodies : List (List ℕ)) (many place size : ℕ) (last : IsLastWhole bodies many place size) where
  abbrev body : List ℕ
  body = get_or bodies last.index []

  abbrev line : List ℕ
  line = number_line (codes "block") (length body)

  abbrev before : List ℕ
  before = blocks (take last.index bodies)

  abbrev behind : List ℕ
  behind = blocks (drop (last.index + 1) bodies)

  split : bodies ≡ take last.index bodies ++ body ∷ drop (last.index + 1) bodies
  split = let next : suc last.index ≡ last.index + 1 = omega arith in
      sym (take-append-drop last.index bodies) ∙ ap (λ xs. take last.index bodies ++ xs)
      (drop-cons bodies last.index [] last.inside ∙ ap (λ k. body ∷ drop k bodies) next)

  -- the bytes before the body, the body, and those behind it
  bytes_are : blocks bodies ≡ ((before ++ line) ++ body) ++ behind
  bytes_are = ap blocks split ∙ flat_map-append block (take last.index bodies) (body ∷ drop (last.index + 1) bodies)
      ∙ sym (append_assoc before (line ++ body) behind) ∙ ap (λ t. t ++ behind) (sym (append_assoc before line body))

  reaches : length (blocks (take (last.index + 1) bodies)) ≡ length ((before ++ line) ++ body)
  reaches = ap (λ xs. length (blocks xs)) (take_more bodies last.index [] last.inside) ∙ ap length (blocks_more (take last.index bodies) body)
      ∙ ap length (sym (append_assoc before line body))

  front : take many (blocks bodies) ≡ ((before ++ line) ++ body) ++ take (many - length ((before ++ line) ++ body)) behind
  front =
      let sum : many ≡ length ((before ++ line) ++ body) + (many - length ((before ++ line) ++ body)) = omega (arith, last.whole, reaches) in
      ap (take many) bytes_are ∙ ap (λ k. take k (((before ++ line) ++ body) ++ behind)) sum
      ∙ take-append-add ((before ++ line) ++ body) behind (many - length ((before ++ line) ++ body))

  -- the body stands at its place
  pub body_at : take size (drop place (take many (blocks bodies))) ≡ body
  body_at =
      let place_is : place ≡ length (before ++ line) = omega (arith, last.place_is, length-append before line) in
      ap (λ k. take k (drop place (take many (blocks bodies)))) last.size_is
      ∙ ap (λ k. take (length body) (drop k (take many (blocks bodies)))) place_is
      ∙ ap (λ t. take (length body) (drop (length (before ++ line)) t)) (front ∙ append_assoc (before ++ line) body (take (many - length ((before ++ line) ++ body)) behind))
      ∙ ap (take (length body)) (drop-append_seam (before ++ line) (body ++ take (many - length ((before ++ line) ++ body)) behind))
      ∙ take-append_seam body (take (many - length ((before ++ line) ++ body)) behind)

-- what the law on cuts says of a trail
abbrev pub Tells : Type 0
Tells = (input : List ℕ) (every : ℕ) (trail : List (List ℕ)) (many : ℕ) (last : Result (ℕ × ℕ) TrailFault) → IsTrail input every trail
    → many ≤ length (blocks trail) → IsLast (take many (blocks trail)) last → TellsLastWhole trail many last

module _ (tells : Tells) where
  -- what is taken out covers what the input covers
  pub taken_covers : (input text : List ℕ) → IsTakenFrom input text → SameCover input text × (length text < 2 ^ 63)
  taken_covers input text taken =
      let last = tells input taken.every taken.trail taken.many (Ok (taken.place, taken.size)) taken.is_trail taken.short taken.last in
      let is : text ≡ get_or taken.trail last.index [] = taken.is ∙ body_at taken.trail taken.many taken.place taken.size last in (
        subst (SameCover input) (sym is) (taken.is_trail.same last.index [] last.inside),
        subst (λ t. length t < 2 ^ 63) (sym is) (taken.is_trail.bodies last.index [] last.inside).1,
      )

  pub are_chain : (text : List ℕ) (texts : List (List ℕ)) → AreTaken text texts → IsChain text texts × All (λ t. length t < 2 ^ 63) texts
  are_chain text [] taken = (tt, All-nil (λ t. length t < 2 ^ 63))
  are_chain text (next ∷ texts) taken =
      let one = taken_covers text next taken.0 in
      let more = are_chain next texts taken.1 in
      ((one.0, more.0), All-cons (λ t. length t < 2 ^ 63) next texts one.1 more.1)
