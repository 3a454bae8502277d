-- Laws of bytes taken and appended, one call after another.
use Rattle.std.specs.Prelude.{ℕ, List, [], ◌++◌, length, Option, Some, None}
use Rattle.std.specs.Io.KnownBytes.{Appends, Consumes}
use Rattle.std.proofs.Common.{refl, ap, sym, ◌∙◌, arith, append_assoc, append-nil, length-append}
use Rattle.cr_io.specs.Grown.{Grows, Shows}
use Rattle.cr_io.specs.Tallies.{Counted, Gave, Took}

pub Consumes-starts : (a : Option (List ℕ)) → Consumes a a []
Consumes-starts None = tt
Consumes-starts (Some xs) = refl

pub Consumes-chains : (a b c : Option (List ℕ)) (x y : List ℕ) → Consumes a b x → Consumes b c y → Consumes a c (x ++ y)
Consumes-chains None b c x y p q = tt
Consumes-chains (Some a) None c x y p q = absurd p
Consumes-chains (Some a) (Some b) None x y p q = absurd q
Consumes-chains (Some a) (Some b) (Some c) x y p q = p ∙ ap (λ r. x ++ r) q ∙ sym (append_assoc x y c)

pub Grows-starts : (a : Option (List ℕ)) → Grows a a []
Grows-starts None = tt
Grows-starts (Some xs) = sym (append-nil xs)

pub Grows-chains : (a b c : Option (List ℕ)) (x y : List ℕ) → Grows a b x → Grows b c y → Grows a c (x ++ y)
Grows-chains None None None x y p q = tt
Grows-chains None None (Some c) x y p q = absurd q
Grows-chains None (Some b) c x y p q = absurd p
Grows-chains (Some a) b None x y p q = tt
Grows-chains (Some a) None (Some c) x y p q = absurd q
Grows-chains (Some a) (Some b) (Some c) x y p q = q ∙ ap (λ l. l ++ y) p ∙ append_assoc a x y

pub Grows-shows : (a b : Option (List ℕ)) (x : List ℕ) → Grows a b x → Shows a b x
Grows-shows None b x p = tt
Grows-shows (Some a) None x p = tt
Grows-shows (Some a) (Some b) x p = p

Appends-starts : (a : Option (List ℕ)) → Appends a a []
Appends-starts None = tt
Appends-starts (Some xs) = sym (append-nil xs)

Appends-chains : (a b c : Option (List ℕ)) (x y : List ℕ) → Appends a b x → Appends b c y → Appends a c (x ++ y)
Appends-chains None b c x y p q = tt
Appends-chains (Some a) None c x y p q = absurd p
Appends-chains (Some a) (Some b) None x y p q = absurd q
Appends-chains (Some a) (Some b) (Some c) x y p q = q ∙ ap (λ l. l ++ y) p ∙ append_assoc a x y

pub Took-shows : (a b : Option (List ℕ)) (x : List ℕ) → Appends a b x → Shows a b x
Took-shows None b x p = tt
Took-shows (Some a) None x p = tt
Took-shows (Some a) (Some b) x p = p

Counted-chains : (a b c : ℕ) (x y : List ℕ) → Counted a b (length x) → Counted b c (length y)
    → Counted a c (length (x ++ y))
Counted-chains a b c x y p q = omega (arith, length-append x y)

pub Gave-starts : (a : Option (List ℕ)) (n : ℕ) → Gave a a n n []
Gave-starts a n = (Consumes-starts a, omega arith)

pub Gave-chains : (a b c : Option (List ℕ)) (i j k : ℕ) (x y : List ℕ) → Gave a b i j x → Gave b c j k y
    → Gave a c i k (x ++ y)
Gave-chains a b c i j k x y p q = (Consumes-chains a b c x y p.0 q.0, Counted-chains i j k x y p.1 q.1)

pub Took-starts : (a : Option (List ℕ)) (n : ℕ) → Took a a n n []
Took-starts a n = (Appends-starts a, omega arith)

pub Took-chains : (a b c : Option (List ℕ)) (i j k : ℕ) (x y : List ℕ) → Took a b i j x → Took b c j k y
    → Took a c i k (x ++ y)
Took-chains a b c i j k x y p q = (Appends-chains a b c x y p.0 q.0, Counted-chains i j k x y p.1 q.1)
