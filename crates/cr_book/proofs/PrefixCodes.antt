-- Texts of equal width, one after another, are read in one way.
use Rattle.std.proofs.Common.{◌≡◌, ℕ, ◌+◌, ◌≤◌, List, [], ◌∷◌, ◌++◌, length, take, drop, flat_map, All, refl, sym, ap, ap₂, ◌∙◌, arith, append_assoc, length-append}
use Rattle.std.proofs.lemmas.List.{take_at, drop_at}
use Rattle.std.proofs.lemmas.List.Elements.{All-head, All-tail}

module _ (f : ℕ → List ℕ) (Known : ℕ → Type 0) (width : ℕ) (some : 1 ≤ width) (wide : (x : ℕ) → length (f x) ≡ width) (one : (x y : ℕ) → Known x → Known y → f x ≡ f y → x ≡ y) where
  -- what comes after some of a list's texts
  pub record After (xs ys tail : List ℕ) : Type 0 where
    pub rest : List ℕ
    pub is : ys ≡ xs ++ rest
    pub text : flat_map f rest ≡ tail
    pub known : All Known rest

  -- a text that begins with that of a list is that of the list and some more
  pub after : (xs ys tail : List ℕ) → All Known xs → All Known ys → flat_map f ys ≡ flat_map f xs ++ tail → After xs ys tail
  after [] ys tail known also same = record { rest = ys; is = refl; text = same; known = also }
  after (x ∷ xs) [] tail known also same =
      let long : length (f x) + length (flat_map f xs) + length tail ≡ 0 =
      sym (ap length same ∙ length-append (f x ++ flat_map f xs) tail ∙ ap (λ n. n + length tail) (length-append (f x) (flat_map f xs))) in
      absurd (omega (arith, wide x, some))
  after (x ∷ xs) (y ∷ ys) tail known also same =
      let joined : f y ++ flat_map f ys ≡ f x ++ (flat_map f xs ++ tail) = same ∙ append_assoc (f x) (flat_map f xs) tail in
      let first : f y ≡ f x =
      sym (take_at (f y) (flat_map f ys) width (wide y)) ∙ ap (take width) joined ∙ take_at (f x) (flat_map f xs ++ tail) width (wide x) in
      let others : flat_map f ys ≡ flat_map f xs ++ tail =
      sym (drop_at (f y) (flat_map f ys) width (wide y)) ∙ ap (drop width) joined ∙ drop_at (f x) (flat_map f xs ++ tail) width (wide x) in
      let later = after xs ys tail (All-tail Known x xs known) (All-tail Known y ys also) others in
      record {
        rest = later.rest;
        is = ap₂ ◌∷◌ (one y x (All-head Known y ys also) (All-head Known x xs known) first) later.is;
        text = later.text;
        known = later.known;
      }

  -- no list but the empty one has the empty text
  pub none_from_text : (xs : List ℕ) → length (flat_map f xs) ≡ 0 → xs ≡ []
  none_from_text [] none = refl
  none_from_text (x ∷ xs) none = absurd (omega (arith, none, wide x, some, length-append (f x) (flat_map f xs)))

  -- lists with one text are one
  pub same_from_text : (xs ys : List ℕ) → All Known xs → All Known ys → flat_map f xs ≡ flat_map f ys → xs ≡ ys
  same_from_text [] ys known also same = sym (none_from_text ys (ap length (sym same)))
  same_from_text (x ∷ xs) [] known also same = none_from_text (x ∷ xs) (ap length same)
  same_from_text (x ∷ xs) (y ∷ ys) known also same =
      let first : f x ≡ f y =
      sym (take_at (f x) (flat_map f xs) width (wide x)) ∙ ap (take width) same ∙ take_at (f y) (flat_map f ys) width (wide y) in
      let others : flat_map f xs ≡ flat_map f ys =
      sym (drop_at (f x) (flat_map f xs) width (wide x)) ∙ ap (drop width) same ∙ drop_at (f y) (flat_map f ys) width (wide y) in
      ap₂ ◌∷◌ (one x y (All-head Known x xs known) (All-head Known y ys also) first) (same_from_text xs ys (All-tail Known x xs known) (All-tail Known y ys also) others)
