-- Texts of equal width, one after another, are read in one way.
use Rattle.std.proofs.Common.{◌≡◌, ℕ, ◌≤◌, List, [], ◌∷◌, length, take, drop, flat_map, All, refl, sym, ap, ap₂, ◌∙◌, arith, length-append}
use Rattle.std.proofs.lemmas.List.{take_at, drop_at}
use Rattle.std.proofs.lemmas.List.Elements.{All-head, All-tail}

module _ (f : ℕ → List ℕ) (Known : ℕ → Type 0) (width : ℕ) (some : 1 ≤ width) (wide : (x : ℕ) → length (f x) ≡ width) (one : (x y : ℕ) → Known x → Known y → f x ≡ f y → x ≡ y) where
  -- no list but the empty one has the empty text
  pub none_from_text : (xs : List ℕ) → length (flat_map f xs) ≡ 0 → xs ≡ []
  none_from_text [] none = refl
  none_from_text (x ∷ xs) none = absurd (omega (arith, none, wide x, some, length-append (f x) (flat_map f xs)))

  -- lists with one text are one
  pub same_from_text : (xs ys : List ℕ) → All Known xs → All Known ys → flat_map f xs ≡ flat_map f ys → xs ≡ ys
  same_from_text [] ys known also same = sym (none_from_text ys (ap length (sym same)))
  same_from_text (x ∷ xs) [] known also same = none_from_text (x ∷ xs) (ap length same)
  same_from_text (x ∷ xs) (y ∷ ys) known also same =
      let first : f x ≡ f y =
      sym (take_at (f x) (flat_map f xs) width (wide x)) ∙ ap (take width) same ∙ take_at (f y) (flat_map f ys) width (wide y) in
      let others : flat_map f xs ≡ flat_map f ys =
      sym (drop_at (f x) (flat_map f xs) width (wide x)) ∙ ap (drop width) same ∙ drop_at (f y) (flat_map f ys) width (wide y) in
      ap₂ ◌∷◌ (one x y (All-head Known x xs known) (All-head Known y ys also) first) (same_from_text xs ys (All-tail Known x xs known) (All-tail Known y ys also) others)
