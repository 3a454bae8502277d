-- Each text has a shape, or it goes wrong first on some line: line by line it is decided.
use Rattle.std.proofs.Common.{◌≡◌, ℕ, zero, suc, ◌+◌, ◌-◌, ◌^◌, ◌<◌, ◌⊎◌, inl, inr, Bool, true, false, nat_eq, List, [], ◌∷◌, ◌++◌, length, take, drop, codes, decimal, refl, sym, ap, ◌∙◌, subst, arith, append_assoc, take-append-drop}
use Rattle.std.specs.List.{list_any, list_all}
use Rattle.std.specs.Str.{bytes_eq}
use Rattle.std.specs.Str.Parse.{digits_value}
use Rattle.std.proofs.lemmas.Bool.{cases_lt, cases_eq, cases_Bool, both_ways, eqb-true, or_from}
use Rattle.std.proofs.lemmas.List.{take_at, length-take-le}
use Rattle.std.proofs.lemmas.Slice.Eq.{bytes_eq-Decides}
use Rattle.cr_model.specs.Checkpoints.{number_line}
use Rattle.cr_model.specs.Texts.{IsNumber, Lacks, NoneTells, named}
use Rattle.cr_model.proofs.Numerals.{value_of_number}
use Rattle.cr_model.proofs.Bytes.{uncut}
use Rattle.cr_model.proofs.Lacking.{no_number}
use Rattle.cr_store.specs.declared.shape_stop.Stop.TheVariants as stop
use Rattle.cr_store.specs.Shapes.{ShapeParts, is_letter, AreLetters, AreSteps, IsFoundLine, IsNodeLine, HasShape, found_text, node_text, line_feeds}
use Rattle.cr_store.specs.ShapeFaults.{IsFormFault}
use Rattle.cr_store.specs.ShapeStages.{Then, Lines, IsWrongAt, IsCount, IsVersion, AtEnd, AtNodes, AtJobs, AtJobCount, AtFound, AtFoundCount, AtStart}
use Rattle.cr_store.specs.ShapeSteps.{NoneBegins, IsHead, StopsAtAll, found_body, node_body}
use Rattle.cr_store.proofs.ShapeBodies.{no_line, no_length, no_calling, no_share, no_steps}
use Rattle.cr_store.proofs.ShapeCodes.{IsCode, IsLine, code_of_line, line_then, none_of_fewer, another_begins, found_is_line, node_is_line}
use Rattle.cr_store.proofs.ShapeStops.{end_wrong, end_passed, first_found, first_found_known, first_node, first_node_known, some_jobs, some_job_count, some_found_count, found_number, jobs_number, job_number, job_count, job_code, start_number, version_code, version_number, problem_number, start_wrong, stops_at_problem, problem_size_wrong, problem_part_wrong, head_after}
use Rattle.cr_store.proofs.ShapeWhole.{shape_of_start, form_fault}
use Rattle.cr_store.proofs.ShapeWrong.{then_after, then_wrong, some_lines}

-- a fact or its denial
abbrev Either : Type 0 → Type 0
Either P = P ⊎ (P → ⊥)

-- the first such byte
split : (byte : ℕ) (text : List ℕ) → ((front : List ℕ) × (rest : List ℕ) × Lacks byte front × (text ≡ front ++ byte ∷ rest)) ⊎ Lacks byte text
split byte [] = inr refl
split byte (x ∷ text) = by (nat_eq byte x) refl (split byte text)
  where
    by : (b : Bool) → nat_eq byte x ≡ b → ((front : List ℕ) × (rest : List ℕ) × Lacks byte front × (text ≡ front ++ byte ∷ rest)) ⊎ Lacks byte text
        → ((front : List ℕ) × (rest : List ℕ) × Lacks byte front × (x ∷ text ≡ front ++ byte ∷ rest)) ⊎ Lacks byte (x ∷ text)
    by true is later = inl ([], text, refl, ap (λ y. y ∷ text) (sym (eqb-true byte x is)))
    by false is (inl (front, rest, lacks, same)) = inl (x ∷ front, rest, or_from (nat_eq byte x) (list_any (nat_eq byte) front) is lacks, ap (λ l. x ∷ l) same)
    by false is (inr lacks) = inr (or_from (nat_eq byte x) (list_any (nat_eq byte) text) is lacks)

-- a word
begins : (word text : List ℕ) → Either ((rest : List ℕ) × (text ≡ word ++ rest))
begins word text = elim (cases_Bool (bytes_eq (take (length word) text) word)) [
  | inl yes' ↦ inl (drop (length word) text, sym (take-append-drop (length word) text) ∙ ap (λ l. l ++ drop (length word) text) ((bytes_eq-Decides (take (length word) text) word).0 yes'))
  | inr no' ↦ inr (λ found. both_ways _ no' ((bytes_eq-Decides (take (length word) text) word).1 (ap (take (length word)) found.1 ∙ take_at word found.0 (length word) refl)))
]

spaced : (line digits after : List ℕ) (n : ℕ) → line ≡ digits ++ 32 ∷ after → digits ≡ decimal n → line ≡ decimal n ++ codes " " ++ after
spaced line digits after n is told = is ∙ ap (λ l. l ++ 32 ∷ after) told ∙ sym (append_assoc (decimal n) (codes " ") after)

no_space : (line : List ℕ) (n : ℕ) (after : List ℕ) → Lacks 32 line → line ≡ decimal n ++ codes " " ++ after → ⊥
no_space line n after lacks is = uncut 32 (decimal n) after line lacks (is ∙ append_assoc (decimal n) (codes " ") after)

-- the value that a text tells, or none
abbrev Told : {V : Type 0} → (V → List ℕ) → (V → Type 0) → List ℕ → Type 0
Told {V} text Known all = ((value : V) × Known value × (all ≡ text value)) ⊎ NoneTells text Known all

-- the value with whose text it begins, or none
abbrev Begun : {V : Type 0} → (V → List ℕ) → (V → Type 0) → List ℕ → Type 0
Begun {V} text Known all = ((value : V) × (rest : List ℕ) × Known value × (all ≡ text value ++ rest)) ⊎ NoneBegins text Known all

same_text : (text other : List ℕ) → Either (text ≡ other)
same_text text other = elim (cases_Bool (bytes_eq text other)) [
  | inl same ↦ inl ((bytes_eq-Decides text other).0 same)
  | inr differs ↦ inr (λ same. both_ways _ differs ((bytes_eq-Decides text other).1 same))
]

number : (digits : List ℕ) → Told decimal IsNumber digits
number digits = elim (cases_lt (digits_value 10 digits) (2 ^ 63)) [
  | inl small ↦ elim (same_text digits (decimal (digits_value 10 digits))) [
    | inl same ↦ inl (digits_value 10 digits, small, same)
    | inr differs ↦ inr (λ n less is. differs (is ∙ ap decimal (sym (value_of_number n less) ∙ ap (digits_value 10) (sym is))))
  ]
  | inr great ↦ inr (λ n less is. absurd (omega (arith, ap (digits_value 10) is, value_of_number n less)))
]

number_after : (word line : List ℕ) → Told (named word) IsNumber line
number_after word line = elim (begins word line) [
  | inl found ↦ elim (number found.0) [
    | inl told ↦ inl (told.0, told.1, found.1 ∙ ap (λ l. word ++ l) told.2)
    | inr none ↦ inr (no_number line word found.0 found.1 none)
  ]
  | inr none ↦ inr (λ n small is. none (decimal n, is))
]

letters : (text : List ℕ) → Either (AreLetters text)
letters text = elim (cases_Bool (list_all is_letter text)) [
  | inl all ↦ elim (cases_lt 0 (length text)) [
    | inl some ↦ inl (record { some = some; letters = all })
    | inr none ↦ inr (λ are. let some : 0 < length text = are.some in absurd (omega arith))
  ]
  | inr other ↦ inr (λ are. both_ways _ other are.letters)
]

steps : (text : List ℕ) → Either (AreSteps text)
steps text = elim (same_text text (codes "-")) [
  | inl none ↦ inl (inl none)
  | inr some ↦ elim (letters text) [
    | inl are ↦ inl (inr are)
    | inr other ↦ inr (λ are. elim are [ inl none ↦ some none | inr are ↦ other are ])
  ]
]

found_told : (line : List ℕ) → Told found_body IsFoundLine line
found_told line = elim (split 32 line) [
  | inl (digits, calling, lacks, is) ↦ elim (number digits) [
    | inl told ↦ elim (letters calling) [
      | inl are ↦ inl (record { length = told.0; calling = calling }, record { length = told.1; calling = are }, spaced line digits calling told.0 is told.2)
      | inr other ↦ inr (no_calling line digits calling lacks is other)
    ]
    | inr none ↦ inr (no_length line digits calling lacks is none)
  ]
  | inr lacks ↦ inr (λ found known is. no_space line found.length found.calling lacks is)
]

shared_told : (line : List ℕ) → Told (node_body 2) (IsNodeLine 2) line
shared_told line = elim (split 32 line) [
  | inl (digits, text, lacks, is) ↦ elim (number digits) [
    | inl told ↦ elim (steps text) [
      | inl are ↦ inl (record { shared = told.0; steps = text }, record { shared = told.1; alone = λ one. absurd (omega arith); steps = are }, spaced line digits text told.0 is told.2)
      | inr other ↦ inr (no_steps line digits text lacks is other)
    ]
    | inr none ↦ inr (no_share line digits text lacks is none)
  ]
  | inr lacks ↦ inr (λ node known is. no_space line node.shared node.steps lacks is)
]

whole_told : (line : List ℕ) → Told (node_body 1) (IsNodeLine 1) line
whole_told line = elim (steps line) [
  | inl are ↦ inl (record { shared = 0; steps = line }, record { shared = omega arith; alone = λ _. refl; steps = are }, refl)
  | inr other ↦ inr (λ node known is. other (subst AreSteps (sym is) known.steps))
]

node_told : (version : ℕ) → IsVersion version → (line : List ℕ) → Told (node_body version) (IsNodeLine version) line
node_told version (inl one) line = subst (λ v. Told (node_body v) (IsNodeLine v) line) (sym one) (whole_told line)
node_told version (inr two) line = subst (λ v. Told (node_body v) (IsNodeLine v) line) (sym two) (shared_told line)

-- a set of texts is decided: a text is of it, or goes wrong first somewhere
abbrev Decided : (List ℕ → Type 0) → Type 0
Decided Set = (all : List ℕ) → Set all ⊎ ((left : ℕ) × IsWrongAt Set all left)

module _ {V : Type 0} (body text : V → List ℕ) (Known : V → Type 0) (line : IsLine body text Known) where
  line_begun : ((l : List ℕ) → Told body Known l) → (all : List ℕ) → Begun text Known all
  line_begun told all = elim (split 10 all) [
    | inl (first, rest, lacks, is) ↦ elim (told first) [
      | inl (value, known, same) ↦ inl (value, rest, known, is ∙ ap (λ l. l ++ 10 ∷ rest) same ∙ sym (line_then body text Known line value rest))
      | inr none ↦ inr (λ value more known same. no_line body Known line.lacks all first rest lacks is none value more known (same ∙ ap (λ l. l ++ more) (line.ends value)))
    ]
    | inr lacks ↦ inr (λ value rest known is. uncut 10 (body value) rest all lacks (is ∙ line_then body text Known line value rest))
  ]

  then_decided : (Next : V → List ℕ → Type 0) → ((all : List ℕ) → Begun text Known all) → (more : List ℕ) → Then text Known Next more → ((value : V) → Known value → Decided (Next value))
      → Decided (Then text Known Next)
  then_decided Next begun more some next all = elim (begun all) [
    | inl (value, rest, known, is) ↦ elim (next value known rest) [
      | inl at ↦ inl (record { value = value; rest = rest; known = known; is = is; next = at })
      | inr wrong ↦ inr (
        wrong.0,
        subst (λ l. IsWrongAt (Then text Known Next) l wrong.0) (sym is)
            (then_after text Known Next (code_of_line body text Known line) value known rest wrong.0 wrong.1),
      )
    ]
    | inr none ↦ inr (length all, then_wrong text Known Next body line all none more some)
  ]

  lines_decided : (Next : List ℕ → Type 0) → ((all : List ℕ) → Begun text Known all) → (first : V) → Known first → (t : List ℕ) → Next t → Decided Next → (n : ℕ)
      → Decided (Lines text Known Next n)
  lines_decided Next begun first known t some next zero = next
  lines_decided Next begun first known t some next (suc n) =
      let more = some_lines text Known Next first known t some (suc n) in
      then_decided (λ _. Lines text Known Next n) begun more.0 more.1 (λ _ _. lines_decided Next begun first known t some next n)

end_decided : Decided AtEnd
end_decided all = elim (begins (codes "end\n") all) [
  | inl found ↦ at found.0 found.1
  | inr none ↦ inr (length all, end_wrong all (λ rest is. none (rest, is)))
]
  where
    at : (rest : List ℕ) → all ≡ codes "end\n" ++ rest → AtEnd all ⊎ ((left : ℕ) × IsWrongAt AtEnd all left)
    at [] is = inl is
    at (byte ∷ rest) is = inr (length (byte ∷ rest), end_passed all (byte ∷ rest) is (omega arith))

fewer_begun : {V : Type 0} (text : V → List ℕ) (Known Fewer : V → Type 0) → IsCode text Known → ((v : V) → Fewer v → Known v) → ((v : V) → Known v → Either (Fewer v)) → (all : List ℕ)
    → Begun text Known all → Begun text Fewer all
fewer_begun text Known Fewer code weaken decides all begun = elim begun [
  | inl (value, rest, known, is) ↦ elim (decides value known) [
    | inl fewer ↦ inl (value, rest, fewer, is)
    | inr other ↦ inr (another_begins text Known Fewer weaken code all value rest known is other)
  ]
  | inr none ↦ inr (none_of_fewer text Known Fewer weaken all none)
]

count_decides : (n : ℕ) → IsNumber n → Either (IsCount n)
count_decides n small = elim (cases_lt 0 n) [ inl some ↦ inl (some, small) | inr none ↦ inr (λ count. absurd (omega (arith, count.0))) ]

version_decides : (n : ℕ) → IsNumber n → Either (IsVersion n)
version_decides n small = elim (cases_eq n 1) [
  | inl one ↦ inl (inl one)
  | inr not_one ↦ elim (cases_eq n 2) [
    | inl two ↦ inl (inr two)
    | inr not_two ↦ inr (λ known. elim known [ inl one ↦ not_one one | inr two ↦ not_two two ])
  ]
]

-- each line
number_begun : (word : List ℕ) → IsLine (named (word ++ codes " ")) (number_line word) IsNumber → (all : List ℕ) → Begun (number_line word) IsNumber all
number_begun word line all = line_begun (named (word ++ codes " ")) (number_line word) IsNumber line (number_after (word ++ codes " ")) all

job_begun : (all : List ℕ) → Begun (number_line (codes "job")) IsCount all
job_begun all = fewer_begun (number_line (codes "job")) IsNumber IsCount job_code (λ n count. count.1) count_decides all (number_begun (codes "job") job_number all)

version_begun : (all : List ℕ) → Begun (number_line (codes "ringsearch checkpoint")) IsVersion all
version_begun all = fewer_begun (number_line (codes "ringsearch checkpoint")) IsNumber IsVersion version_code version_number version_decides all (number_begun (codes "ringsearch checkpoint") start_number all)

-- each stage
jobs_decided : (version : ℕ) → IsVersion version → (n : ℕ) → Decided (AtJobs version n)
jobs_decided version known zero = end_decided
jobs_decided version known (suc n) =
    let some = some_jobs version (suc n) in
    let next = some_jobs version n in
    then_decided (named (codes "job ")) (number_line (codes "job")) IsCount job_count (AtNodes version (AtJobs version n)) job_begun some.0 some.1
    (λ count _. lines_decided (node_body version) (node_text version) (IsNodeLine version) (node_is_line version) (AtJobs version n)
    (line_begun (node_body version) (node_text version) (IsNodeLine version) (node_is_line version) (node_told version known))
    first_node (first_node_known version) next.0 next.1 (jobs_decided version known n) count)

job_count_decided : (version : ℕ) → IsVersion version → Decided (AtJobCount version)
job_count_decided version known =
    let some = some_job_count version in
    then_decided (named (codes "jobs ")) (number_line (codes "jobs")) IsNumber jobs_number (AtJobs version) (number_begun (codes "jobs") jobs_number) some.0 some.1
    (λ count _. jobs_decided version known count)

found_count_decided : (version : ℕ) → IsVersion version → Decided (AtFoundCount version)
found_count_decided version known =
    let some = some_found_count version in
    let next = some_job_count version in
    then_decided (named (codes "found ")) (number_line (codes "found")) IsNumber found_number (AtFound version) (number_begun (codes "found") found_number) some.0 some.1
    (λ count _. lines_decided found_body found_text IsFoundLine found_is_line (AtJobCount version)
    (line_begun found_body found_text IsFoundLine found_is_line found_told)
    first_found first_found_known next.0 next.1 (job_count_decided version known) count)

-- a text has a shape, or it goes wrong first on some line
abbrev Answered : List ℕ → Type 0
Answered all = AtStart all ⊎ ((line : ℕ) × IsFormFault all line)

wrong_at : (all : List ℕ) (left : ℕ) → StopsAtAll all (stop.Wrong left) → (line : ℕ) × IsFormFault all line
wrong_at all left stops = (1 + line_feeds (take (length all - left) all), form_fault all left (1 + line_feeds (take (length all - left) all)) stops refl)

at_found : (all : List ℕ) (version : ℕ) (problem rest : List ℕ) → IsHead all version problem rest → Answered all
at_found all version problem rest head = elim (found_count_decided version head.known rest) [
  | inl at ↦ inl (record {
    value = version;
    rest = number_line (codes "problem") (length problem) ++ (problem ++ codes "\n" ++ rest);
    known = head.known;
    is = head.is;
    next = record {
      value = length problem;
      rest = problem ++ codes "\n" ++ rest;
      known = head.fits;
      is = refl;
      next = record { problem = problem; rest = rest; long = refl; is = refl; next = at };
    };
  })
  | inr wrong ↦ inr (wrong_at all wrong.0 (head_after all version problem rest head (stop.Wrong wrong.0) wrong.1))
]

at_problem : (all : List ℕ) (version : ℕ) (lines : List ℕ) (size : ℕ) (rest : List ℕ) → IsVersion version → all ≡ number_line (codes "ringsearch checkpoint") version ++ lines
    → IsNumber size → lines ≡ number_line (codes "problem") size ++ rest → Answered all
at_problem all version lines size rest known is small sized = elim (cases_lt (length rest) size) [
  | inl few ↦ inr (2, inl (stops_at_problem version all lines known is stop.Short (record { size = size; rest = rest; fits = small; is = sized; few = few }), refl))
  | inr enough ↦
      let problem = take size rest in
      let after = drop size rest in
      let long : length problem ≡ size = length-take-le size rest enough in
      let parts : rest ≡ problem ++ after = sym (take-append-drop size rest) in
      elim (begins (codes "\n") after) [
        | inl found ↦ at_found all version problem found.0 (record {
          known = known;
          fits = subst IsNumber (sym long) small;
          is = is ∙ ap (λ l. number_line (codes "ringsearch checkpoint") version ++ l)
              (sized ∙ ap (λ n. number_line (codes "problem") n ++ rest) (sym long)
              ∙ ap (λ l. number_line (codes "problem") (length problem) ++ l) (parts ∙ ap (λ l. problem ++ l) found.1 ∙ sym (append_assoc problem (codes "\n") found.0)));
        })
        | inr none ↦
            let stops = problem_part_wrong size lines rest problem after small sized long parts (λ more is. none (more, is)) in
            inr (wrong_at all (length after) (stops_at_problem version all lines known is (stop.Wrong (length after)) stops))
      ]
]

answered : (all : List ℕ) → Answered all
answered all = elim (version_begun all) [
  | inl (version, lines, known, is) ↦ elim (number_begun (codes "problem") problem_number lines) [
    | inl (size, rest, small, sized) ↦ at_problem all version lines size rest known is small sized
    | inr none ↦ inr (wrong_at all (length lines) (stops_at_problem version all lines known is (stop.Wrong (length lines)) (problem_size_wrong lines none)))
  ]
  | inr none ↦ inr (wrong_at all (length all) (start_wrong all none))
]

pub decided : (text : List ℕ) → ((s : ShapeParts) × HasShape text s) ⊎ ((line : ℕ) × IsFormFault text line)
decided text = elim (answered text) [ inl at ↦ inl (shape_of_start text at) | inr wrong ↦ inr wrong ]
