-- What stands behind the line before a body.
use Rattle.std.proofs.Common.{◌≡◌, ℕ, ◌+◌, ◌-◌, ◌<◌, ◌≤◌, List, [], ◌∷◌, ◌++◌, length, take, drop, replicate, refl, sym, ap, ◌∙◌, subst, arith}
use Rattle.std.proofs.Common.{length-append, append_assoc}
use Rattle.std.specs.Prelude.{codes}
use Rattle.std.proofs.lemmas.List.{take-append-drop, length-take-le, length-drop, length-replicate}
use Rattle.cr_model.specs.Checkpoints.{number_line}
use Rattle.cr_store.specs.Blocks.{block, IsSize, IsTorn, Begins, IsHead, IsNext}
use Rattle.cr_store.specs.declared.blocks.Head.TheVariants as head
use Rattle.cr_store.specs.declared.blocks.Next.TheVariants as next

module _ (text : List ℕ) (start size : ℕ) (whole : IsHead text (head.Whole start size)) where
  abbrev line : List ℕ
  line = number_line (codes "block") size

  abbrev behind : List ℕ
  behind = drop start text

  parts : text ≡ line ++ behind
  parts = sym (take-append-drop start text) ∙ ap (λ x. x ++ behind) whole.2

  pub line_long : length line ≡ start
  line_long = ap length (sym whole.2) ∙ length-take-le start text whole.1

  abbrev pub body : List ℕ
  body = take size behind

  pub body_long : size ≤ length text - start → length body ≡ size
  body_long fits = length-take-le size behind (omega (arith, length-drop start text, fits))

  pub is_whole : size ≤ length text - start → Begins text body
  is_whole fits = record {
    size = subst IsSize (sym (body_long fits)) whole.0;
    rest = drop size behind;
    is = parts ∙ ap (λ x. line ++ x) (sym (take-append-drop size behind)) ∙ sym (append_assoc line body (drop size behind))
        ∙ ap (λ n. (number_line (codes "block") n ++ body) ++ drop size behind) (sym (body_long fits));
  }

  pub is_torn : length text - start < size → IsTorn text
  is_torn short = record {
    body = behind ++ missing;
    size = subst IsSize (sym long) whole.0;
    rest = missing;
    some = omega (arith, length-replicate {A = ℕ} (size - length behind) 0, short, length-drop start text);
    is = ap (λ n. number_line (codes "block") n ++ (behind ++ missing)) long ∙ sym (append_assoc line behind missing)
        ∙ ap (λ x. x ++ missing) (sym parts);
  }
    where
      missing : List ℕ
      missing = replicate (size - length behind) 0

      long : length (behind ++ missing) ≡ size
      long = omega (arith, length-append behind missing, length-replicate {A = ℕ} (size - length behind) 0, short, length-drop start text)

-- a whole block at a place
pub next_whole : (bytes : List ℕ) (at start size : ℕ) → IsHead (drop at bytes) (head.Whole start size) → size ≤ length (drop at bytes) - start
    → IsNext bytes at (next.Block (at + start) size)
next_whole bytes at start size whole fits =
    let long : length (body (drop at bytes) start size whole) ≡ size = body_long (drop at bytes) start size whole fits in (
      body (drop at bytes) start size whole,
      is_whole (drop at bytes) start size whole fits,
      ap (λ n. at + n) (sym (line_long (drop at bytes) start size whole)) ∙ ap (λ n. at + length (number_line (codes "block") n)) (sym long),
      sym long,
    )

-- a block that is cut short
pub next_short : (bytes : List ℕ) (at start size : ℕ) → IsHead (drop at bytes) (head.Whole start size)
    → length (drop at bytes) - start < size → IsNext bytes at next.Torn
next_short bytes at start size whole short =
    (omega (arith, line_long (drop at bytes) start size whole, whole.1, length-drop at bytes), is_torn (drop at bytes) start size whole short)
