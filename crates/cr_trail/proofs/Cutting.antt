-- The last whole block of a text of blocks that is cut.
use Rattle.std.proofs.Common.{◌≡◌, ℕ, zero, suc, ◌+◌, ◌-◌, ◌<◌, ◌≤◌, ◌⊎◌, inl, inr, List, [], ◌∷◌, ◌++◌, length, get_or, take, drop, Result, Ok, Err, refl, sym, ap, ap₂, ◌∙◌, subst, arith}
use Rattle.std.proofs.Common.{length-append, append_assoc, append-nil}
use Rattle.std.specs.Prelude.{codes, All}
use Rattle.std.proofs.lemmas.Bool.{cases_lt}
use Rattle.std.proofs.lemmas.List.{take-append-drop, take-append-le, length-take-le, length-drop, append_cancel_left, get_or-take, take-take, take_more}
use Rattle.std.proofs.lemmas.List.Elements.{All-push}
use Rattle.std.proofs.lemmas.Grind.{flat_map-append}
use Rattle.std.proofs.Math.Seq.{take-append_seam, take-append-add, take-add, drop-append_seam, drop-cons, get_or-append_seam}
use Rattle.std.proofs.Math.ListN.{drop_of_length-le}
use Rattle.cr_model.specs.Checkpoints.{number_line}
use Rattle.cr_store.specs.Blocks.{block, blocks, IsBody, IsTorn, Begins, IsNext}
use Rattle.cr_store.specs.declared.blocks.Next.{Next}
use Rattle.cr_store.specs.declared.blocks.Next.TheVariants as next
use Rattle.cr_trail.specs.Lasts.{IsOver, IsLastBody, IsWrongBehind, IsLast, place_of}
use Rattle.cr_trail.specs.Cuts.{NoneFrom, IsLastWhole, TellsLastWhole}
use Rattle.cr_trail.specs.declared.last.TrailFault.{TrailFault}
use Rattle.cr_trail.specs.declared.last.TrailFault.TheVariants as fault

-- one block more
pub blocks_more : (before : List (List ℕ)) (body : List ℕ) → blocks (before ++ body ∷ []) ≡ blocks before ++ block body
blocks_more before body = flat_map-append block before (body ∷ []) ∙ ap (λ t. blocks before ++ t) (append-nil (block body))

-- the first bytes of a text, more than the first ones of two
take_more_of : (xs ys : List ℕ) (n : ℕ) → length xs ≤ n → take n (xs ++ ys) ≡ xs ++ take (n - length xs) ys
take_more_of xs ys n many =
    let split : n ≡ length xs + (n - length xs) = omega (arith, many) in
    ap (λ k. take k (xs ++ ys)) split ∙ take-append-add xs ys (n - length xs)

drop_next : (xs : List (List ℕ)) (n : ℕ) (d : List ℕ) → n < length xs → drop n xs ≡ get_or xs n d ∷ drop (n + 1) xs
drop_next xs n d inside =
    let next : suc n ≡ n + 1 = omega arith in
    drop-cons xs n d inside ∙ ap (λ k. get_or xs n d ∷ drop k xs) next

-- the blocks of more bodies are no fewer bytes
no_fewer : (bodies : List (List ℕ)) (few many : ℕ) → few ≤ many → length (blocks (take few bodies)) ≤ length (blocks (take many bodies))
no_fewer bodies few many less =
    let split : many ≡ few + (many - few) = omega (arith, less) in
    let parts : take many bodies ≡ take few bodies ++ take (many - few) (drop few bodies) = ap (λ n. take n bodies) split ∙ take-add few (many - few) bodies in
    omega (
      arith,
      ap (λ xs. length (blocks xs)) parts,
      ap length (flat_map-append block (take few bodies) (take (many - few) (drop few bodies))),
      length-append (blocks (take few bodies)) (blocks (take (many - few) (drop few bodies))),
    )

abbrev pub OneAnswer : Type 0
OneAnswer = (bytes : List ℕ) (at : ℕ) (one other : Next) → IsNext bytes at one → IsNext bytes at other → one ≡ other

module _ (law : OneAnswer) where
  -- a text that begins with a block has it at its start
  at_start : (text body : List ℕ) → Begins text body → IsNext text 0 (next.Block (length (number_line (codes "block") (length body))) (length body))
  at_start text body begins = (body, begins, omega arith, refl)

  same_size : (place size other most : ℕ) → next.Block place size ≡ next.Block other most → size ≡ most
  same_size place size other most is = cc

  -- two texts that begin with blocks have one body, and one rest
  pub one_body : (b c x y : List ℕ) → IsBody b → IsBody c → block b ++ x ≡ block c ++ y → (b ≡ c) × (x ≡ y)
  one_body b c x y b_size c_size same = (bodies, append_cancel_left (block b) x y (same ∙ ap (λ d. block d ++ y) (sym bodies)))
    where
      many : length b ≡ length c
      many = same_size _ _ _ _ (law (block b ++ x) 0 _ _ (at_start (block b ++ x) b (record { size = b_size; rest = x; is = refl }))
          (at_start (block b ++ x) c (record { size = c_size; rest = y; is = same })))

      line : List ℕ
      line = number_line (codes "block") (length b)

      behind : b ++ x ≡ c ++ y
      behind = append_cancel_left line (b ++ x) (c ++ y) (sym (append_assoc line b x) ∙ same
          ∙ ap (λ n. (number_line (codes "block") n ++ c) ++ y) (sym many) ∙ append_assoc line c y)

      bodies : b ≡ c
      bodies = sym (take-append_seam b x) ∙ ap (take (length b)) behind ∙ ap (λ n. take n (c ++ y)) many ∙ take-append_seam c y

  -- a text that is over begins with no whole block
  pub over_unbegun : (rest body : List ℕ) → IsOver rest → Begins rest body → ⊥
  over_unbegun rest body (inl none) begins = omega (arith, ap length (sym none ∙ begins.is), length-append (block body) begins.rest)
  over_unbegun rest body (inr torn) begins =
      let same : next.Torn ≡ next.Block (length (number_line (codes "block") (length body))) (length body) =
      law rest 0 next.Torn _ (torn.0, torn.1) (at_start rest body begins) in
      absurd (cc)

  -- blocks at the start of blocks are the first of them
  first_blocks : (xs bodies : List (List ℕ)) (y : List ℕ) → All IsBody xs → All IsBody bodies → blocks xs ++ y ≡ blocks bodies
      → (length xs ≤ length bodies) × (xs ≡ take (length xs) bodies) × (y ≡ blocks (drop (length xs) bodies))
  first_blocks [] bodies y xs_are are same = (omega arith, refl, same)
  first_blocks (x ∷ xs) [] y xs_are are same =
      absurd (omega (arith, ap length same, length-append (block x ++ blocks xs) y, length-append (block x) (blocks xs)))
  first_blocks (x ∷ xs) (c ∷ cs) y xs_are are same =
      let both = one_body x c (blocks xs ++ y) (blocks cs) (xs_are 0 [] (omega arith)) (are 0 [] (omega arith)) (sym (append_assoc (block x) (blocks xs) y) ∙ same) in
      let rest = first_blocks xs cs y (λ k d within. xs_are (suc k) d (omega (arith, within))) (λ k d within. are (suc k) d (omega (arith, within))) both.1 in
      (omega (arith, rest.0), ap₂ (λ z zs. z ∷ zs) both.0 rest.1, rest.2)

  -- a text whose first bytes are blocks, and what is left of it
  module _ (bodies : List (List ℕ)) (are : All IsBody bodies) (n : ℕ) (rest more : List ℕ) (is : rest ++ more ≡ blocks (drop n bodies)) where
    -- the next body
    abbrev body : List ℕ
    body = get_or bodies n []

    next_block : n < length bodies → rest ++ more ≡ block body ++ blocks (drop (n + 1) bodies)
    next_block inside = is ∙ ap blocks (drop_next bodies n [] inside)

    begins_next : (inside : n < length bodies) → length (block body) ≤ length rest → Begins rest body
    begins_next inside fits = record {
      size = are n [] inside;
      rest = take (length rest - length (block body)) (blocks (drop (n + 1) bodies));
      is = sym (take-append_seam rest more) ∙ ap (take (length rest)) (next_block inside) ∙ take_more_of (block body) (blocks (drop (n + 1) bodies)) (length rest) fits;
    }

    torn_next : (inside : n < length bodies) → length rest < length (block body) → IsTorn rest
    torn_next inside short = record {
      body = body;
      size = are n [] inside;
      rest = drop (length rest) (block body);
      some = omega (arith, length-drop (length rest) (block body), short);
      is = sym (take-append-drop (length rest) (block body)) ∙ ap (λ t. t ++ drop (length rest) (block body))
          (sym (take-append-le (length rest) (block body) (blocks (drop (n + 1) bodies)) (omega (arith, short))) ∙ ap (take (length rest)) (sym (next_block inside))
          ∙ take-append_seam rest more);
    }

    none_behind : (many : ℕ) → IsOver rest → many ≡ length (blocks (take n bodies)) + length rest → NoneFrom bodies n many
    none_behind many over many_is = λ j low inside. elim (cases_lt many (length (blocks (take (j + 1) bodies)))) [
      | inl less ↦ less
      | inr not ↦
          let here : n < length bodies = omega (arith, low, inside) in
          let one_more : length (blocks (take (n + 1) bodies)) ≡ length (blocks (take n bodies)) + length (block body) =
          ap (λ xs. length (blocks xs)) (take_more bodies n [] here) ∙ ap length (blocks_more (take n bodies) body) ∙ length-append (blocks (take n bodies)) (block body) in
          absurd (over_unbegun rest body over (begins_next here (omega (arith, many_is, one_more, not, no_fewer bodies (n + 1) (j + 1) (omega (arith, low))))))
    ]

  module _ (bodies : List (List ℕ)) (are : All IsBody bodies) (many : ℕ) (short : many ≤ length (blocks bodies)) where
    abbrev cut : List ℕ
    cut = take many (blocks bodies)

    abbrev behind : List ℕ
    behind = drop many (blocks bodies)

    long : length cut ≡ many
    long = length-take-le many (blocks bodies) short

    whole : (xs : List (List ℕ)) (rest : List ℕ) → cut ≡ blocks xs ++ rest → blocks xs ++ (rest ++ behind) ≡ blocks bodies
    whole xs rest is = sym (append_assoc (blocks xs) rest behind) ∙ ap (λ t. t ++ behind) (sym is) ∙ take-append-drop many (blocks bodies)

    last_whole : (place size : ℕ) → IsLastBody cut place size → IsLastWhole bodies many place size
    last_whole place size last = record {
      index = length last.before;
      inside = omega (arith, firsts.0, count);
      whole = omega (arith, ap (λ zs. length (blocks zs)) taken, ap length is, length-append (blocks xs) last.rest, long);
      none = none_behind bodies are (length last.before + 1) last.rest behind
          (firsts.2 ∙ ap (λ k. blocks (drop k bodies)) count) many last.over
          (omega (arith, ap (λ zs. length (blocks zs)) taken, ap length is, length-append (blocks xs) last.rest, long));
      place_is = last.place_is ∙ ap₂ (λ b z. place_of (length (blocks b)) z) before_is body_is;
      size_is = last.size_is ∙ ap length body_is;
    }
      where
        xs : List (List ℕ)
        xs = last.before ++ last.body ∷ []

        count : length xs ≡ length last.before + 1
        count = length-append last.before (last.body ∷ [])

        is : cut ≡ blocks xs ++ last.rest
        is = last.is ∙ sym (append_assoc (blocks last.before) (block last.body) last.rest) ∙ ap (λ t. t ++ last.rest) (sym (blocks_more last.before last.body))

        firsts : (length xs ≤ length bodies) × (xs ≡ take (length xs) bodies) × (last.rest ++ behind ≡ blocks (drop (length xs) bodies))
        firsts = first_blocks xs bodies (last.rest ++ behind) (All-push IsBody last.before last.body last.are last.is_body) are (whole xs last.rest is)

        taken : take (length last.before + 1) bodies ≡ xs
        taken = ap (λ k. take k bodies) (sym count) ∙ sym firsts.1

        before_is : last.before ≡ take (length last.before) bodies
        before_is = sym (take-append_seam last.before (last.body ∷ [])) ∙ ap (take (length last.before)) (sym taken)
            ∙ take-take (length last.before) (length last.before + 1) bodies (omega arith)

        body_is : last.body ≡ get_or bodies (length last.before) []
        body_is = sym (get_or-append_seam last.before last.body [] []) ∙ ap (λ zs. get_or zs (length last.before) []) (sym taken)
            ∙ get_or-take (length last.before + 1) bodies (length last.before) [] (omega arith)

    not_wrong : (place : ℕ) → IsWrongBehind cut place → ⊥
    not_wrong place wrong = elim (cases_lt n (length bodies)) [
      | inl inside ↦ elim (cases_lt (length wrong.rest) (length (block (get_or bodies n [])))) [
        | inl short ↦ torn_here (torn_next bodies are n wrong.rest behind firsts.2 inside short)
        | inr fits ↦ block_here (begins_next bodies are n wrong.rest behind firsts.2 inside (omega (arith, fits)))
      ]
      | inr beyond ↦
          let nothing : length (wrong.rest ++ behind) ≡ 0 = ap length (firsts.2 ∙ ap blocks (drop_of_length-le bodies (omega (arith, beyond)))) in
          omega (arith, nothing, length-append wrong.rest behind, some)
    ]
      where
        n : ℕ
        n = length wrong.before

        firsts : (n ≤ length bodies) × (wrong.before ≡ take n bodies) × (wrong.rest ++ behind ≡ blocks (drop n bodies))
        firsts = first_blocks wrong.before bodies (wrong.rest ++ behind) wrong.are are (whole wrong.before wrong.rest wrong.is)

        left : drop (length (blocks wrong.before)) cut ≡ wrong.rest
        left = ap (drop (length (blocks wrong.before))) wrong.is ∙ drop-append_seam (blocks wrong.before) wrong.rest

        some : 0 < length wrong.rest
        some = omega (arith, ap length wrong.is, length-append (blocks wrong.before) wrong.rest, wrong.wrong.0, wrong.wrong.1)

        torn_here : IsTorn wrong.rest → ⊥
        torn_here torn =
            let same : next.Torn ≡ next.Form place = law cut (length (blocks wrong.before)) next.Torn (next.Form place)
            (omega (arith, ap length wrong.is, length-append (blocks wrong.before) wrong.rest, some), subst IsTorn (sym left) torn) wrong.wrong in
            absurd (cc)

        block_here : Begins wrong.rest (get_or bodies n []) → ⊥
        block_here begins =
            let same : next.Block (place_of (length (blocks wrong.before)) (get_or bodies n [])) (length (get_or bodies n [])) ≡ next.Form place =
            law cut (length (blocks wrong.before)) _ (next.Form place)
            (get_or bodies n [], subst (λ t. Begins t (get_or bodies n [])) (sym left) begins, refl, refl) wrong.wrong in
            absurd (cc)

pub tells_last : OneAnswer → (bodies : List (List ℕ)) (many : ℕ) (last : Result (ℕ × ℕ) TrailFault) → All IsBody bodies → many ≤ length (blocks bodies)
    → IsLast (take many (blocks bodies)) last → TellsLastWhole bodies many last
tells_last law bodies many (Ok last) are short is = last_whole law bodies are many short last.0 last.1 is
tells_last law bodies many (Err fault.Nothing) are short over =
    none_behind law bodies are 0 (take many (blocks bodies)) (drop many (blocks bodies)) (take-append-drop many (blocks bodies)) many over
    (omega (arith, length-take-le many (blocks bodies) short))
tells_last law bodies many (Err (fault.Form place)) are short wrong = not_wrong law bodies are many short place wrong
