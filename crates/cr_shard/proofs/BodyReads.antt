-- Reading a text from block to block.
use Rattle.std.proofs.Common.{◌≡◌, ℕ, suc, zero, ◌+◌, ◌<◌, ◌≤◌, List, [], ◌∷◌, ◌++◌, length, get_or, take, drop, inl, inr, refl, sym, ap, ◌∙◌, subst, arith, length-append, append_assoc, append-nil}
use Rattle.std.specs.Prelude.{codes}
use Rattle.std.specs.List.{AllZip}
use Rattle.std.proofs.lemmas.List.{get_or-map, length-map, length-drop, drop-drop, drop_at, take_at}
use Rattle.std.proofs.lemmas.List.Elements.{All-push, All-nil}
use Rattle.std.proofs.lemmas.Grind.{flat_map-append}
use Rattle.std.proofs.Math.Seq.{drop-append_seam}
use Rattle.cr_model.specs.Checkpoints.{number_line}
use Rattle.cr_store.specs.Blocks.{block, blocks, IsBody, IsNext}
use Rattle.cr_store.specs.declared.blocks.Next.TheVariants as next
use Rattle.cr_store.specs.Faults.{FirstCheckFault}
use Rattle.cr_store.specs.Progress.{Progress}
use denote.Ref.{Bor}
use Rattle.cr_shard.specs.declared.fault.JoinFault.{JoinFault}
use Rattle.cr_shard.specs.Joins.{IsRead, AreRead}
use Rattle.cr_shard.specs.JoinFaults.{AreBodies, IsNoBlock}
use Rattle.cr_shard.specs.Reads.{bytes_seen, IsReadTo, OrNoMemory, IsRefused, AreRefused}

pub read_nothing : (text : List ℕ) → IsReadTo text 0 []
read_nothing text = record { are = All-nil IsBody; rest = text; is = refl; at_is = refl }

none : (xs : List ℕ) → length xs ≡ 0 → xs ≡ []
none [] is = refl
none (x ∷ xs) is = absurd (omega (arith, is))

blocks_more : (before : List (List ℕ)) (body : List ℕ) → blocks (before ++ body ∷ []) ≡ blocks before ++ block body
blocks_more before body = flat_map-append block before (body ∷ []) ∙ ap (λ t. blocks before ++ t) (append-nil (block body))

module _ (text : List ℕ) (at : ℕ) (bodies : List (List ℕ)) (read : IsReadTo text at bodies) where
  behind : drop at text ≡ read.rest
  behind = ap (λ n. drop n text) read.at_is ∙ ap (drop (length (blocks bodies))) read.is ∙ drop-append_seam (blocks bodies) read.rest

  within : at ≤ length text
  within = omega (arith, read.at_is, ap length read.is, length-append (blocks bodies) read.rest)

  module _ (place size : ℕ) (one : IsNext text at (next.Block place size)) where
    abbrev head : List ℕ
    head = number_line (codes "block") (length one.0)

    parts : drop at text ≡ head ++ (one.0 ++ one.1.rest)
    parts = one.1.is ∙ append_assoc head one.0 one.1.rest

    pub fits : place + size ≤ length text
    fits = omega (arith, within, one.2, one.3, length-drop at text, ap length parts, length-append head (one.0 ++ one.1.rest), length-append one.0 one.1.rest)

    body_is : take size (drop place text) ≡ one.0
    body_is =
        let far : drop place text ≡ one.0 ++ one.1.rest =
        ap (λ n. drop n text) one.2 ∙ sym (drop-drop (length head) at text) ∙ ap (drop (length head)) parts ∙ drop_at head (one.0 ++ one.1.rest) (length head) refl in
        ap (take size) far ∙ take_at one.0 one.1.rest size (sym one.3)

    read_whole : IsReadTo text (place + size) (bodies ++ one.0 ∷ [])
    read_whole = record {
      are = All-push IsBody bodies one.0 read.are one.1.size;
      rest = one.1.rest;
      is = read.is ∙ ap (λ t. blocks bodies ++ t) (sym behind ∙ one.1.is) ∙ sym (append_assoc (blocks bodies) (block one.0) one.1.rest)
          ∙ ap (λ t. t ++ one.1.rest) (sym (blocks_more bodies one.0));
      at_is = omega (
        arith,
        one.2,
        one.3,
        read.at_is,
        ap length (blocks_more bodies one.0),
        length-append (blocks bodies) (block one.0),
        length-append head one.0,
      );
    }

    pub read_on : (body : List ℕ) → body ≡ take size (drop place text) → IsReadTo text (place + size) (bodies ++ body ∷ [])
    read_on body is = subst (λ (b : List ℕ). IsReadTo text (place + size) (bodies ++ b ∷ [])) (sym (is ∙ body_is)) read_whole

  pub read_all : at ≡ length text → AreBodies text bodies
  read_all ended =
      let nothing : read.rest ≡ [] = none read.rest (omega (arith, ended, length-drop at text, ap length behind)) in
      record { are = read.are; is = read.is ∙ ap (λ t. blocks bodies ++ t) nothing ∙ append-nil (blocks bodies) }

  pub read_torn : IsNext text at next.Torn → (place : ℕ) → place ≡ length text → IsNoBlock text place
  read_torn torn place is = record {
    before = bodies;
    are = read.are;
    rest = read.rest;
    is = read.is;
    wrong = inr (subst (λ n. IsNext text n next.Torn) read.at_is torn, is);
  }

  pub read_wrong : (place : ℕ) → IsNext text at (next.Form place) → IsNoBlock text place
  read_wrong place wrong = record {
    before = bodies;
    are = read.are;
    rest = read.rest;
    is = read.is;
    wrong = inl (subst (λ n. IsNext text n (next.Form place)) read.at_is wrong);
  }

-- one pair more
zip_push : {X Y : Type 0} (R : X → Y → Type 0) (xs : List X) (ys : List Y) (x : X) (y : Y) → AllZip R xs ys → R x y → AllZip R (xs ++ x ∷ []) (ys ++ y ∷ [])
zip_push R [] [] x y all one = (one, tt)
zip_push R [] (z ∷ ys) x y all one = absurd all
zip_push R (z ∷ xs) [] x y all one = absurd all
zip_push R (z ∷ xs) (w ∷ ys) x y all one = (all.0, zip_push R xs ys x y all.1 one)

taken_more : {X : Type 0} (xs : List X) (i : ℕ) (d : X) → i < length xs → take (i + 1) xs ≡ take i xs ++ get_or xs i d ∷ []
taken_more [] i d inside = absurd (omega (arith, inside))
taken_more (x ∷ xs) zero d inside = refl
taken_more (x ∷ xs) (suc i) d inside =
    let next : suc i + 1 ≡ suc (i + 1) = omega arith in
    ap (λ n. take n (x ∷ xs)) next ∙ ap (λ l. x ∷ l) (taken_more xs i d (omega (arith, inside)))

-- one body more that is a checkpoint
pub read_more : (seen : List (Bor (List ℕ))) (index : ℕ) (d : Bor (List ℕ)) (shards : List Progress) (c : Progress) → index < length seen
    → AreRead (take index (bytes_seen seen)) shards → IsRead (get_or seen index d).now c → AreRead (take (index + 1) (bytes_seen seen)) (shards ++ c ∷ [])
read_more seen index d shards c inside before one =
    let within : index < length (bytes_seen seen) = omega (arith, inside, length-map seen (λ body. body.now)) in
    let read : get_or (bytes_seen seen) index [] ≡ (get_or seen index d).now = get_or-map (λ body. body.now) seen index d [] inside in
    subst (λ (bodies : List (List ℕ)). AllZip IsRead bodies (shards ++ c ∷ []))
    (sym (taken_more (bytes_seen seen) index [] within ∙ ap (λ body. take index (bytes_seen seen) ++ body ∷ []) read))
    (zip_push IsRead (take index (bytes_seen seen)) shards (get_or seen index d).now c before one)

-- one body that is none
pub refused_at : (seen : List (Bor (List ℕ))) (index : ℕ) (d : Bor (List ℕ)) (shards : List Progress) (why : JoinFault) → index < length seen
    → AreRead (take index (bytes_seen seen)) shards → OrNoMemory (IsRefused (get_or seen index d).now index) why → OrNoMemory (AreRefused (bytes_seen seen)) why
refused_at seen index d shards why inside before (inl memory) = inl memory
refused_at seen index d shards why inside before (inr refused) = inr (
  index,
  refused.0,
  refused.1,
  record {
    inside = omega (arith, inside, length-map seen (λ body. body.now));
    shards = shards;
    before = before;
    wrong = subst (λ (body : List ℕ). FirstCheckFault body refused.0) (sym (get_or-map (λ body. body.now) seen index d [] inside)) refused.2;
  },
)
