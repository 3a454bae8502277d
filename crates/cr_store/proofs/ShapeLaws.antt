-- A text has one shape at most, or one line on which it goes wrong first, and never both.
use Rattle.std.proofs.Common.{◌≡◌, ℕ, ◌+◌, ◌<◌, ◌≤◌, inl, inr, List, [], ◌∷◌, ◌++◌, length, take, drop, codes, flat_map, All, refl, sym, ap, ap₂, ◌∙◌, subst, arith, append_assoc, length-drop, take-append-drop}
use Rattle.std.proofs.Math.Seq.{take-add}
use Rattle.std.proofs.lemmas.Bool.{cases_lt}
use Rattle.std.proofs.lemmas.List.{append_cancel_left}
use Rattle.cr_model.specs.Checkpoints.{number_line}
use Rattle.cr_model.specs.Texts.{IsNumber, Lacks, named}
use Rattle.cr_store.specs.Shapes.{FoundParts, NodeParts, ShapeParts, IsFoundLine, IsNodeLine, IsJobLines, HasShape, found_text, node_text, job_text, line_feeds, found_line}
use Rattle.cr_store.specs.ShapeFaults.{CanBeginShape, IsFirstWrongLine, IsFirstWrongPlace, IsFormFault}
use Rattle.cr_store.specs.ShapeSteps.{found_body, node_body}
use Rattle.cr_store.proofs.ShapeBytes.{feeds_joined, goes_past, append_parts, feeds_lacking}
use Rattle.cr_store.proofs.ShapeBodies.{named_lacks}
use Rattle.cr_store.proofs.ShapeCodes.{IsCode, code_of_line, codes_joined, found_is_line, node_is_line}
use Rattle.cr_store.proofs.ShapeStops.{version_number, start_code, problem_code, found_code, jobs_code, job_code, not_short}
use Rattle.cr_store.proofs.ShapeWhole.{parts_of}

job_is_code : (version : ℕ) → IsCode (job_text version) (IsJobLines version)
job_is_code version = record {
  one = λ v w a b known also same.
      let count = job_code.one (length v) (length w) (flat_map (node_text version) v ++ a) (flat_map (node_text version) w ++ b) known.few also.few
      (sym (append_assoc (number_line (codes "job") (length v)) (flat_map (node_text version) v) a) ∙ same
      ∙ append_assoc (number_line (codes "job") (length w)) (flat_map (node_text version) w) b) in
      codes_joined (node_text version) (IsNodeLine version) (code_of_line (node_body version) (node_text version) (IsNodeLine version) (node_is_line version))
      v w a b count.0 known.nodes also.nodes count.1;
}

abbrev record_of : ℕ → List ℕ → List FoundParts → List (List NodeParts) → ShapeParts
record_of version problem found jobs = record { version = version; problem = problem; found = found; jobs = jobs }

pub one_shape : (text : List ℕ) (one other : ShapeParts) → HasShape text one → HasShape text other → one ≡ other
one_shape text one other has also =
    let p = parts_of text one has in
    let q = parts_of text other also in
    let version = start_code.one one.version other.version _ _ p.head.known q.head.known (sym p.head.is ∙ q.head.is) in
    let size = problem_code.one (length one.problem) (length other.problem) _ _ p.head.fits q.head.fits version.1 in
    let problem = append_parts one.problem other.problem (codes "\n" ++ p.found_rest) (codes "\n" ++ q.found_rest) size.0
    (sym (append_assoc one.problem (codes "\n") p.found_rest) ∙ size.1 ∙ append_assoc other.problem (codes "\n") q.found_rest) in
    let found_rest : p.found_rest ≡ q.found_rest = append_cancel_left (codes "\n") p.found_rest q.found_rest problem.1 in
    let found_count = found_code.one (length one.found) (length other.found) p.found.lines q.found.lines p.found.few q.found.few (sym p.found.is ∙ found_rest ∙ q.found.is) in
    let found = codes_joined found_text IsFoundLine (code_of_line found_body found_text IsFoundLine found_is_line) one.found other.found p.jobs_rest q.jobs_rest
    found_count.0 p.found.read.known q.found.read.known (sym p.found.read.is ∙ found_count.1 ∙ q.found.read.is) in
    let job_count = jobs_code.one (length one.jobs) (length other.jobs) p.jobs.lines q.jobs.lines p.jobs.few q.jobs.few (sym p.jobs.is ∙ found.1 ∙ q.jobs.is) in
    let of_other : All (IsJobLines one.version) other.jobs = subst (λ v. All (IsJobLines v) other.jobs) (sym version.0) q.jobs.read.known in
    let their_lines : q.jobs.lines ≡ flat_map (job_text one.version) other.jobs ++ q.end_rest =
    q.jobs.read.is ∙ ap (λ v. flat_map (job_text v) other.jobs ++ q.end_rest) (sym version.0) in
    let jobs = codes_joined (job_text one.version) (IsJobLines one.version) (job_is_code one.version) one.jobs other.jobs p.end_rest q.end_rest
    job_count.0 p.jobs.read.known of_other (sym p.jobs.read.is ∙ job_count.1 ∙ their_lines) in
    let first : record_of one.version one.problem one.found one.jobs ≡ record_of other.version other.problem one.found one.jobs =
    ap₂ (λ v l. record_of v l one.found one.jobs) version.0 problem.0 in
    let second : record_of other.version other.problem one.found one.jobs ≡ record_of other.version other.problem other.found other.jobs =
    ap₂ (λ f j. record_of other.version other.problem f j) found.0 jobs.0 in
    first ∙ second

pub never_both : (text : List ℕ) (s : ShapeParts) (line : ℕ) → HasShape text s → IsFormFault text line → ⊥
never_both text s line has (inl short) = let p = parts_of text s has in not_short text s.version s.problem p.found_rest p.head short.0
never_both text s line has (inr wrong) = wrong.1.none s has

-- of two lines the first is not less
not_less : (text : List ℕ) (line other : ℕ) → IsFirstWrongLine text line → IsFirstWrongLine text other → line < other → ⊥
not_less text line other one two less = one.here two.front two.rest two.is (omega (arith, two.line_is)) two.before

pub one_line : (text : List ℕ) (line other : ℕ) → IsFormFault text line → IsFormFault text other → line ≡ other
one_line text line other (inl one) (inl two) = one.1 ∙ sym two.1
one_line text line other (inl one) (inr two) = absurd (two.0 one.0)
one_line text line other (inr one) (inl two) = absurd (one.0 two.0)
one_line text line other (inr one) (inr two) = elim (cases_lt line other) [
  | inl less ↦ absurd (not_less text line other one.1 two.1 less)
  | inr within ↦ elim (cases_lt other line) [ inl less ↦ absurd (not_less text other line two.1 one.1 less) | inr also ↦ omega arith ]
]

-- what can begin a text with a shape, its fronts can too
begins_shorter : (front more : List ℕ) → CanBeginShape (front ++ more) → CanBeginShape front
begins_shorter front more can = record {
  shape = can.shape;
  more = more ++ can.more;
  has = subst (λ l. HasShape l can.shape) (append_assoc front more can.more) can.has;
}

-- a byte more
one_more : (text : List ℕ) (place : ℕ) (byte : ℕ) (rest : List ℕ) → place ≤ length text → drop place text ≡ byte ∷ rest → take (place + 1) text ≡ take place text ++ byte ∷ []
one_more text place byte rest within is = take-add place 1 text ∙ ap (λ l. take place text ++ take 1 l) is

pub byte_and_line : (text : List ℕ) (place : ℕ) → IsFirstWrongPlace text place → IsFirstWrongLine text (1 + line_feeds (take place text))
byte_and_line text place wrong = record {
  none = wrong.none;
  front = take place text;
  rest = drop place text;
  is = sym (take-append-drop place text);
  before = wrong.before;
  line_is = refl;
  here = λ upto others same many can.
      let past = goes_past (take place text) (drop place text) upto others (take-append-drop place text ∙ same) (omega arith) in
      by upto others past.part past.is past.rest_is many can;
}
  where
    by : (upto others part : List ℕ) → upto ≡ take place text ++ part → drop place text ≡ part ++ others → 1 + line_feeds (take place text) ≤ line_feeds upto → CanBeginShape upto → ⊥
    by upto others [] is rest many can = absurd (omega (arith, feeds_joined (take place text) [], ap line_feeds is))
    by upto others (byte ∷ part) is rest many can =
        let long : length (drop place text) ≡ length (byte ∷ part ++ others) = ap length rest in
        let inside : place < length text = omega (arith, length-drop place text) in
        let split : upto ≡ take (place + 1) text ++ part =
        is ∙ sym (append_assoc (take place text) (byte ∷ []) part) ∙ ap (λ l. l ++ part) (sym (one_more text place byte (part ++ others) wrong.within rest)) in
        wrong.here inside (begins_shorter (take (place + 1) text) part (subst CanBeginShape split can))

regrouped : (a b c d : List ℕ) → a ++ (b ++ (c ++ d)) ≡ a ++ (b ++ c) ++ d
regrouped a b c d = simp append_assoc

pub number_feeds : (word : List ℕ) (n : ℕ) → Lacks 10 (word ++ codes " ") → IsNumber n → line_feeds (number_line word n) ≡ 1
number_feeds word n lacks small =
    feeds_joined (named (word ++ codes " ") n) (codes "\n") ∙ ap (λ k. k + 1) (feeds_lacking (named (word ++ codes " ") n) (named_lacks (word ++ codes " ") n lacks small))

head_feeds : (start size problem : List ℕ) → line_feeds start ≡ 1 → line_feeds size ≡ 1 → 4 + line_feeds problem ≡ 1 + line_feeds (start ++ (size ++ (problem ++ codes "\n")))
head_feeds start size problem one two =
    omega (arith, feeds_joined start (size ++ (problem ++ codes "\n")), feeds_joined size (problem ++ codes "\n"), feeds_joined problem (codes "\n"))

-- the line `found`
pub found_line_is : (text : List ℕ) (s : ShapeParts) → HasShape text s
    → (front : List ℕ) × (rest : List ℕ) × (text ≡ front ++ (number_line (codes "found") (length s.found) ++ rest)) × (found_line s ≡ 1 + line_feeds front)
found_line_is text s has =
    let p = parts_of text s has in
    let start = number_line (codes "ringsearch checkpoint") s.version in
    let size = number_line (codes "problem") (length s.problem) in (
      start ++ (size ++ (s.problem ++ codes "\n")),
      p.found.lines,
      p.head.is ∙ ap (λ l. start ++ (size ++ (s.problem ++ codes "\n" ++ l))) p.found.is ∙ regrouped start size (s.problem ++ codes "\n") (number_line (codes "found") (length s.found) ++ p.found.lines),
      head_feeds start size s.problem (number_feeds (codes "ringsearch checkpoint") s.version refl (version_number s.version p.head.known)) (number_feeds (codes "problem") (length s.problem) refl p.head.fits),
    )
