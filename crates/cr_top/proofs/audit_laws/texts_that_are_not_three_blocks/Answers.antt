use Rattle.std.proofs.Common.{ℕ, [], ◌∷◌, refl, arith}
use Rattle.std.specs.Prelude.{All, codes}
use Rattle.std.specs.Fmt.{digits}
use Rattle.std.proofs.lemmas.List.Elements.{All-nil, All-cons}
use Rattle.cr_store.specs.Blocks.{IsBody}
use Rattle.cr_store.specs.declared.blocks.Next.TheVariants as next
use Rattle.cr_top.proofs.audit_laws.texts_that_are_not_three_blocks.Goals as goal

one_byte : (b : ℕ) → IsBody (b ∷ [])
one_byte b = (omega arith, omega arith)

of_one : (a : ℕ) → All IsBody ((a ∷ []) ∷ [])
of_one a = All-cons IsBody (a ∷ []) [] (one_byte a) (All-nil IsBody)

of_two : (a b : ℕ) → All IsBody ((a ∷ []) ∷ (b ∷ []) ∷ [])
of_two a b = All-cons IsBody (a ∷ []) ((b ∷ []) ∷ []) (one_byte a) (of_one b)

of_three : (a b c : ℕ) → All IsBody ((a ∷ []) ∷ (b ∷ []) ∷ (c ∷ []) ∷ [])
of_three a b c = All-cons IsBody (a ∷ []) ((b ∷ []) ∷ (c ∷ []) ∷ []) (one_byte a) (of_two b c)

pub returns : goal.returns
unfolding digits
returns c = record {
  empty = record {
    before = [];
    last = next.End;
    ends = record { are = All-nil IsBody; rest = []; is = refl; here = refl; asked = omega arith };
    wrong = (omega arith, refl);
  };
  two = record {
    before = codes "x" ∷ codes "y" ∷ [];
    last = next.End;
    ends = record { are = of_two 120 121; rest = []; is = refl; here = refl; asked = omega arith };
    wrong = (omega arith, refl);
  };
  torn = record {
    before = codes "x" ∷ [];
    last = next.Torn;
    ends = record {
      are = of_one 120;
      rest = codes "block 2\ny";
      is = refl;
      here = (omega arith, record { body = codes "yy"; size = (omega arith, omega arith); rest = codes "y"; some = omega arith; is = refl });
      asked = omega arith;
    };
    wrong = refl;
  };
  more = record {
    before = codes "x" ∷ codes "y" ∷ codes "z" ∷ [];
    last = next.Torn;
    ends = record {
      are = of_three 120 121 122;
      rest = codes "bl";
      is = refl;
      here = (omega arith, record { body = codes "w"; size = one_byte 119; rest = codes "ock 1\nw"; some = omega arith; is = refl });
      asked = omega arith;
    };
    wrong = refl;
  };
  fourth = record {
    before = codes "x" ∷ codes "y" ∷ codes "z" ∷ [];
    last = next.Block 35 1;
    ends = record {
      are = of_three 120 121 122;
      rest = codes "block 1\nw";
      is = refl;
      here = (codes "w", record { size = one_byte 119; rest = []; is = refl }, refl, refl);
      asked = refl;
    };
    wrong = refl;
  };
}
