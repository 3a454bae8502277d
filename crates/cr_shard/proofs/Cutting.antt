-- The text of a cut: one shard more, and all of them.
use Rattle.std.proofs.Common.{◌≡◌, ℕ, ◌+◌, List, [], ◌∷◌, ◌++◌, map, sym, ap, ◌∙◌, arith, append-nil}
use Rattle.std.specs.List.{range_with_len}
use Rattle.std.proofs.lemmas.Grind.{flat_map-append}
use Rattle.std.proofs.lemmas.List.FromFn.{map-range_with_len_more, length-map-range_with_len, get_or-map-range_with_len}
use Rattle.cr_model.specs.Problems.{ProblemParts}
use Rattle.cr_store.specs.Blocks.{block, blocks}
use Rattle.cr_shard.specs.Deals.{shard_text, first_shards, IsCut}

module _ (p : ProblemParts) (bytes : List ℕ) (found : List (List ℕ)) (jobs : List (List (List ℕ))) (into : ℕ) where
  pub one_shard_more : (text : List ℕ) (shard : ℕ) → text ≡ blocks (first_shards p bytes found jobs into shard)
      → text ++ block (shard_text p bytes found jobs into shard) ≡ blocks (first_shards p bytes found jobs into (shard + 1))
  one_shard_more text shard so_far =
      let text_of = shard_text p bytes found jobs into in
      let front : List (List ℕ) = map text_of (range_with_len 0 shard) in
      let zeros : 0 + shard ≡ shard = omega arith in
      ap (λ t. t ++ block (text_of shard)) so_far
      ∙ ap (λ t. blocks front ++ t) (sym (append-nil (block (text_of shard))))
      ∙ sym (flat_map-append block front (text_of shard ∷ []))
      ∙ ap blocks (sym (map-range_with_len_more text_of 0 shard shard zeros))

  pub all_shards : (text : List ℕ) → text ≡ blocks (first_shards p bytes found jobs into into) → IsCut p bytes found jobs into text
  all_shards text is = record {
    shards = first_shards p bytes found jobs into into;
    dealt = record {
      many = length-map-range_with_len (shard_text p bytes found jobs into) 0 into;
      each = λ shard below. get_or-map-range_with_len (shard_text p bytes found jobs into) 0 into shard shard [] below (omega arith);
    };
    is = is;
  }
