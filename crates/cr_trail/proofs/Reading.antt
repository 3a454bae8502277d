-- Reading from block to block.
use Rattle.std.proofs.Common.{◌≡◌, ℕ, ◌+◌, ◌<◌, ◌≤◌, ◌⊎◌, inl, inr, List, [], ◌∷◌, ◌++◌, length, drop, Option, Some, None, Result, Ok, Err, refl, sym, ap, ◌∙◌, subst, arith}
use Rattle.std.proofs.Common.{length-append, append_assoc, append-nil}
use Rattle.std.specs.Prelude.{codes, All}
use Rattle.std.specs.Option.{ok_or}
use Rattle.std.proofs.lemmas.List.{length-drop, get_or_append_left}
use Rattle.std.proofs.lemmas.List.Elements.{All-push}
use Rattle.std.proofs.lemmas.Grind.{flat_map-append}
use Rattle.std.proofs.Math.Seq.{drop-append_seam, get_or-append_seam}
use Rattle.cr_model.specs.Checkpoints.{number_line}
use Rattle.cr_store.specs.Blocks.{block, blocks, IsBody, IsTorn, IsNext}
use Rattle.cr_store.specs.declared.blocks.Next.TheVariants as next
use Rattle.cr_trail.specs.Lasts.{IsOver, IsLastBody, IsWrongBehind, IsLast, IsReadTo, Ends}
use Rattle.cr_trail.specs.declared.last.TrailFault.{TrailFault}
use Rattle.cr_trail.specs.declared.last.TrailFault.TheVariants as fault

pub read_nothing : (text : List ℕ) → IsReadTo text 0 None
read_nothing text = record { before = []; are = λ k d within. absurd (omega (arith, within)); rest = text; is = refl; at_is = refl; ends = refl }

all_front : (front : List (List ℕ)) (body : List ℕ) → All IsBody (front ++ body ∷ []) → All IsBody front
all_front front body all = λ k d within. subst IsBody (get_or_append_left front (body ∷ []) d k within)
    (all k d (omega (arith, within, length-append front (body ∷ []))))

all_last : (front : List (List ℕ)) (body : List ℕ) → All IsBody (front ++ body ∷ []) → IsBody body
all_last front body all = subst IsBody (get_or-append_seam front body [] []) (all (length front) [] (omega (arith, length-append front (body ∷ []))))

none : (xs : List ℕ) → length xs ≡ 0 → xs ≡ []
none [] is = refl
none (x ∷ xs) is = absurd (omega (arith, is))

-- one block more
blocks_more : (before : List (List ℕ)) (body : List ℕ) → blocks (before ++ body ∷ []) ≡ blocks before ++ block body
blocks_more before body = flat_map-append block before (body ∷ []) ∙ ap (λ t. blocks before ++ t) (append-nil (block body))

module _ (text : List ℕ) (at : ℕ) (last : Option (ℕ × ℕ)) (read : IsReadTo text at last) where
  -- what is left
  behind : drop at text ≡ read.rest
  behind = ap (λ n. drop n text) read.at_is ∙ ap (drop (length (blocks read.before))) read.is ∙ drop-append_seam (blocks read.before) read.rest

  pub read_on : (place size : ℕ) → IsNext text at (next.Block place size) → IsReadTo text (place + size) (Some (place, size))
  read_on place size next = record {
    before = read.before ++ next.0 ∷ [];
    are = All-push IsBody read.before next.0 read.are next.1.size;
    rest = next.1.rest;
    is = read.is ∙ ap (λ t. blocks read.before ++ t) (sym behind ∙ next.1.is) ∙ sym (append_assoc (blocks read.before) (block next.0) next.1.rest)
        ∙ ap (λ t. t ++ next.1.rest) (sym (blocks_more read.before next.0));
    at_is = omega (
      arith,
      next.2,
      next.3,
      read.at_is,
      ap length (blocks_more read.before next.0),
      length-append (blocks read.before) (block next.0),
      length-append (number_line (codes "block") (length next.0)) next.0,
    );
    ends = (read.before, next.0, refl, next.2 ∙ ap (λ n. n + length (number_line (codes "block") (length next.0))) read.at_is, next.3);
  }

  over_at_end : at ≡ length text → IsOver read.rest
  over_at_end ended = inl (none read.rest (omega (arith, ended, length-drop at text, ap length behind)))

  pub read_over : (at ≡ length text) ⊎ ((at < length text) × IsTorn (drop at text)) → IsOver read.rest
  read_over (inl ended) = over_at_end ended
  read_over (inr torn) = inr (omega (arith, torn.0, length-drop at text, ap length behind), subst IsTorn behind torn.1)

  pub read_wrong : (place : ℕ) → IsNext text at (next.Form place) → IsWrongBehind text place
  read_wrong place wrong = record {
    before = read.before;
    are = read.are;
    rest = read.rest;
    is = read.is;
    wrong = subst (λ n. IsNext text n (next.Form place)) read.at_is wrong;
  }

  -- the last of them, where the text is over
  pub last_of : IsOver read.rest → IsLast text (ok_or last fault.Nothing)
  last_of over = by last read.ends
    where
      by : (ends : Option (ℕ × ℕ)) → Ends read.before ends → IsLast text (ok_or ends fault.Nothing)
      by None is = subst IsOver (sym (read.is ∙ ap (λ bodies. blocks bodies ++ read.rest) is)) over
      by (Some last) is = record {
        before = is.0;
        are = all_front is.0 is.1 (subst (All IsBody) is.2 read.are);
        body = is.1;
        is_body = all_last is.0 is.1 (subst (All IsBody) is.2 read.are);
        rest = read.rest;
        is = read.is ∙ ap (λ bodies. blocks bodies ++ read.rest) is.2 ∙ ap (λ t. t ++ read.rest) (blocks_more is.0 is.1)
            ∙ append_assoc (blocks is.0) (block is.1) read.rest;
        over = over;
        place_is = is.3;
        size_is = is.4;
      }
