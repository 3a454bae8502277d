-- The book of what is joined of shards.
use Rattle.std.proofs.Common.{◌≡◌, ℕ, ◌+◌, ◌^◌, ◌<◌, ◌↔◌, List, [], ◌∷◌, length, Option, None, inl, inr, refl, sym, subst, arith, length-append}
use Rattle.std.specs.Prelude.{All, codes}
use Rattle.std.specs.List.{AllZip}
use Rattle.std.specs.List.Sorted.{IsPermutation}
use Rattle.std.proofs.lemmas.List.Elements.{All-nil, All-cons}
use Rattle.cr_model.specs.Problems.{ProblemParts}
use Rattle.cr_model.specs.Nodes.{Covers}
use Rattle.cr_model.specs.Books.{IsBook}
use Rattle.cr_model.specs.ProblemFiles.{ProblemFile}
use Rattle.cr_model.specs.Checkpoints.{CanGoOn, CheckFile, IsCheckpoint, checkpoint_text, nodes_of_jobs, number_line}
use Rattle.cr_model.specs.Inputs.{Input, SameCover}
use Rattle.cr_shard.specs.Deals.{IsDealt}
use Rattle.cr_shard.specs.Joins.{AreRead, IsJoinedOf, NoneOverlap}
use Rattle.cr_shard.specs.JoinFaults.{IsJoin}
use Rattle.cr_store.specs.Blocks.{block, blocks}
use Rattle.cr_store.specs.Progress.{Progress}
use Rattle.cr_top.specs.Shards.{IsCutOf}
use Rattle.cr_top.specs.Texts.{IsBookOf}
use Rattle.cr_top.proofs.CutTrails.{Alone, book_of_same}

-- what the law on joined shards says
abbrev pub JoinedCovers : Type 0
JoinedCovers = (p : ProblemParts) (bytes : List ℕ) (found : List (List ℕ)) (jobs : List (List (List ℕ))) (into : ℕ) (shards searched bodies : List (List ℕ))
    (parts : List Progress) (q : ProblemParts) (others joined : List ℕ) → ProblemFile bytes p → CanGoOn p found jobs → 0 < into
    → IsDealt p bytes found jobs into shards → AllZip SameCover shards searched → IsPermutation searched bodies
    → All (λ text. length text < 2 ^ 63) shards → All (λ text. length text < 2 ^ 63) bodies
    → AreRead bodies parts → IsJoinedOf parts others q joined
    → (input : List ℕ) → Input input bytes p found (nodes_of_jobs jobs) → NoneOverlap q parts → SameCover input joined

-- bodies are no longer than their blocks
short_bodies : (bodies : List (List ℕ)) → length (blocks bodies) < 2 ^ 63 → All (λ text. length text < 2 ^ 63) bodies
short_bodies [] few = All-nil (λ text. length text < 2 ^ 63)
short_bodies (body ∷ bodies) few =
    let all : length (blocks (body ∷ bodies)) ≡ length (block body) + length (blocks bodies) = length-append (block body) (blocks bodies) in
    let one : length (block body) ≡ length (number_line (codes "block") (length body)) + length body = length-append (number_line (codes "block") (length body)) body in
    All-cons (λ text. length text < 2 ^ 63) body bodies (omega (arith, few, all, one)) (short_bodies bodies (omega (arith, few, all)))

pub joined_has_book : JoinedCovers → Alone → (into : ℕ) (input cut text joined book : List ℕ) (searched : List (List ℕ)) → 0 < into
    → (dealt : IsCutOf into input cut) → length cut < 2 ^ 63 → AllZip SameCover dealt.cut.shards searched → (is : IsJoin text joined)
    → IsPermutation searched is.bodies → length joined < 2 ^ 63 → IsBookOf None joined book → IsBookOf None input book
joined_has_book law alone into input cut text joined book searched some dealt few covers is same short made =
    book_of_same alone input joined book whole short made
  where
    shards_short : All (λ text. length text < 2 ^ 63) dealt.cut.shards
    shards_short = short_bodies dealt.cut.shards (subst (λ t. length t < 2 ^ 63) dealt.cut.is few)

    bodies_short : All (λ text. length text < 2 ^ 63) is.bodies
    bodies_short = λ k d inside. (is.has.are.are k d inside).1

    whole : SameCover input joined
    whole = law dealt.p dealt.bytes dealt.found dealt.jobs into dealt.cut.shards searched is.bodies is.shards is.p is.bytes joined
        dealt.start.file dealt.start.goes_on some dealt.cut.dealt covers same shards_short bodies_short is.read is.joined_is input dealt.start.of_input is.apart

-- the problem's file of an input
input_file : (text bytes : List ℕ) (p : ProblemParts) (found nodes : List (List ℕ)) → Input text bytes p found nodes → ProblemFile bytes p
input_file text bytes p found nodes (inl is) = is.file.problem
input_file text bytes p found nodes (inr is) = subst (λ b. ProblemFile b p) (sym is.bytes_are) is.file

-- what the law on checkpoints says
abbrev pub BeginAsSuch : Type 0
BeginAsSuch = (text bytes : List ℕ) (p : ProblemParts) (found : List (List ℕ)) (jobs : List (List (List ℕ))) → CheckFile text bytes p found jobs → IsCheckpoint text

-- what the laws on books say
abbrev pub BookChecks : Type 0
BookChecks = (bytes : List ℕ) (p : ProblemParts) (found nodes book : List (List ℕ)) → ProblemFile bytes p → IsBook p found nodes book
    → CheckFile (checkpoint_text p bytes book []) bytes p book []

abbrev pub BookCovers : Type 0
BookCovers = (p : ProblemParts) (found nodes book : List (List ℕ)) → IsBook p found nodes book → (calling : List ℕ)
    → Covers p book [] calling ↔ Covers p found nodes calling

pub book_for_shard : BeginAsSuch → BookChecks → BookCovers → (turns : Option ℕ) (shard text : List ℕ) → (is : IsBookOf turns shard text)
    → SameCover shard (checkpoint_text is.p is.bytes is.book [])
book_for_shard begins checks covers turns shard text is = record {
  bytes = is.bytes;
  p = is.p;
  found = is.found;
  nodes = is.nodes;
  other_found = is.book;
  other_nodes = [];
  input = is.of_input;
  other_input = inl (record { begins = begins made is.bytes is.p is.book [] file; jobs = []; file = file; nodes_are = refl });
  covers = λ calling. let both = covers is.p is.found is.nodes is.book is.is_book calling in (both.1, both.0);
}
  where
    made : List ℕ
    made = checkpoint_text is.p is.bytes is.book []

    file : CheckFile made is.bytes is.p is.book []
    file = checks is.bytes is.p is.found is.nodes is.book (input_file shard is.bytes is.p is.found is.nodes is.of_input) is.is_book
