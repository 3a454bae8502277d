-- The texts compute.
use Rattle.std.proofs.Common.{ℕ, List, [], ◌∷◌, codes, inl, inr, refl, arith}
use Rattle.std.specs.Fmt.{digits}
use Rattle.std.proofs.lemmas.List.Elements.{All-nil, All-cons}
use Rattle.cr_model.specs.Texts.{IsNumber}
use Rattle.cr_store.specs.Shapes.{AreLetters, IsFoundLine, IsNodeLine, IsJobLines}
use Rattle.cr_store.proofs.shape_laws.shapes_by_example.Goals as goal

shares : (shared : ℕ) (steps : List ℕ) → IsNumber shared → AreLetters steps → IsNodeLine 2 (record { shared = shared; steps = steps })
shares shared steps small are = record { shared = small; alone = λ one. absurd (omega arith); steps = inr are }

pub returns-clause-first : goal.returns-clause-first
unfolding digits
returns-clause-first c = record {
  shape = record {
    version = inl refl;
    problem = omega arith;
    found_few = omega arith;
    found = All-nil IsFoundLine;
    jobs_few = omega arith;
    jobs = All-cons (IsJobLines 1) _ [] (record {
      some = omega arith;
      few = omega arith;
      nodes = All-cons (IsNodeLine 1) _ [] (record { shared = omega arith; alone = λ _. refl; steps = inl refl }) (All-nil (IsNodeLine 1));
    }) (All-nil (IsJobLines 1));
  };
  is = refl;
}

pub returns-clause-second : goal.returns-clause-second
unfolding digits
returns-clause-second c = record {
  shape = record {
    version = inr refl;
    problem = omega arith;
    found_few = omega arith;
    found = All-cons IsFoundLine _ [] (record { length = omega arith; calling = record { some = omega arith; letters = refl } }) (All-nil IsFoundLine);
    jobs_few = omega arith;
    jobs = All-cons (IsJobLines 2) _ [] (record {
      some = omega arith;
      few = omega arith;
      nodes = All-cons (IsNodeLine 2) _ (record { shared = 1; steps = codes "p" } ∷ []) (shares 0 (codes "pb") (omega arith) (record { some = omega arith; letters = refl }))
          (All-cons (IsNodeLine 2) _ [] (shares 1 (codes "p") (omega arith) (record { some = omega arith; letters = refl })) (All-nil (IsNodeLine 2)));
    }) (All-nil (IsJobLines 2));
  };
  is = refl;
}
