-- The checks of a join, one after another.
use Rattle.std.proofs.Common.{◌≡◌, ℕ, ◌<◌, List, [], length, get_or, inl, inr, sym, ap, ◌∙◌, subst, arith}
use Rattle.std.specs.Prelude.{All}
use Rattle.std.proofs.lemmas.List.{get_or-map}
use Rattle.cr_model.specs.Problems.{ProblemParts}
use Rattle.cr_model.specs.ProblemFiles.{ProblemFile}
use Rattle.cr_model.specs.Checkpoints.{CanGoOn}
use Rattle.cr_store.specs.Progress.{Progress}
use Rattle.cr_shard.specs.declared.fault.JoinFault.{JoinFault}
use Rattle.cr_shard.specs.declared.fault.JoinFault.TheVariants as fault
use Rattle.cr_shard.specs.Joins.{AreRead, AreOfOne}
use Rattle.cr_shard.specs.JoinFaults.{AreOneFile, HasBodies, HasShards, IsJoin, FirstJoinFault, bytes_at}
use Rattle.cr_shard.specs.Reads.{IsHeld, IsJoinOf, IsUnjoinable, AreRefused, OrNoMemory, CanMeet}
use Rattle.cr_shard.proofs.JoinedFacts.{read_at, read_many}

-- what the law on problem files says
abbrev pub OneProblem : Type 0
OneProblem = (bytes : List ℕ) (one other : ProblemParts) → ProblemFile bytes one → ProblemFile bytes other → one ≡ other

pub bytes_of : (shards : List Progress) (k : ℕ) (d : Progress) → k < length shards → bytes_at shards k ≡ (get_or shards k d).bytes
bytes_of shards k d inside = get_or-map (λ c. c.bytes) shards k d [] inside

-- shards with the same bytes are of one problem
pub of_one_file : OneProblem → (shards : List Progress) (d : Progress) → 0 < length shards → All IsHeld shards → AreOneFile shards
    → AreOfOne (bytes_at shards 0) (get_or shards 0 d).problem shards
of_one_file one shards d some held same = λ k e inside.
    let first = held 0 d some in
    let here = held k e inside in
    let bytes : (get_or shards k e).bytes ≡ bytes_at shards 0 = sym (bytes_of shards k e inside) ∙ same k inside in
    let own : ProblemFile (bytes_at shards 0) (get_or shards k e).problem = subst (λ (b : List ℕ). ProblemFile b (get_or shards k e).problem) bytes here.1.problem in
    let other : ProblemFile (bytes_at shards 0) (get_or shards 0 d).problem =
    subst (λ (b : List ℕ). ProblemFile b (get_or shards 0 d).problem) (sym (bytes_of shards 0 d some)) first.1.problem in
    (bytes, one (bytes_at shards 0) (get_or shards k e).problem (get_or shards 0 d).problem own other)

-- and a search can go on from each
pub held_can_meet : (shards : List Progress) (bytes : List ℕ) (p : ProblemParts) → All IsHeld shards → AreOfOne bytes p shards → CanMeet p shards
held_can_meet shards bytes p held of_one = λ k d inside.
    let here = held k d inside in
    subst (λ (q : ProblemParts). CanGoOn q (get_or shards k d).found (get_or shards k d).jobs) (of_one k d inside).1 here.1.goes_on

pub held_file : (shards : List Progress) (d : Progress) → 0 < length shards → All IsHeld shards → ProblemFile (bytes_at shards 0) (get_or shards 0 d).problem
held_file shards d some held =
    subst (λ (b : List ℕ). ProblemFile b (get_or shards 0 d).problem) (sym (bytes_of shards 0 d some)) (held 0 d some).1.problem

-- the same, of the first shard as it is read
module _ (one : OneProblem) (shards : List Progress) (first : Progress) (some : 0 < length shards) (held : All IsHeld shards) (same : AreOneFile shards)
    (is : first ≡ get_or shards 0 first) (bytes : List ℕ) (p : ProblemParts) (bytes_are : bytes ≡ first.bytes) (problem_is : p ≡ first.problem) where
  file_is : bytes ≡ bytes_at shards 0
  file_is = bytes_are ∙ ap (λ c. c.bytes) is ∙ sym (bytes_of shards 0 first some)

  known : p ≡ (get_or shards 0 first).problem
  known = problem_is ∙ ap (λ c. c.problem) is

  pub at_bytes : AreOfOne (bytes_at shards 0) p shards
  at_bytes = subst (λ (q : ProblemParts). AreOfOne (bytes_at shards 0) q shards) (sym known) (of_one_file one shards first some held same)

  pub read_of_one : AreOfOne bytes p shards
  read_of_one = subst (λ (b : List ℕ). AreOfOne b p shards) (sym file_is) at_bytes

  pub read_meet : CanMeet p shards
  read_meet = held_can_meet shards (bytes_at shards 0) p held at_bytes

  pub read_file : ProblemFile bytes p
  read_file = subst (λ (b : List ℕ). ProblemFile b p) (sym file_is) (subst (ProblemFile (bytes_at shards 0)) (sym known) (held_file shards first some held))

pub shards_held : (bodies : List (List ℕ)) (shards : List Progress) → AreRead bodies shards → All IsHeld shards
shards_held bodies shards read = λ k d inside. read_at bodies shards k d read inside

-- the shards of a text
pub text_held : (text : List ℕ) (shards : List Progress) → HasShards text shards → All IsHeld shards
text_held text shards has = shards_held has.bodies shards has.read

pub text_some : (text : List ℕ) (shards : List Progress) → HasShards text shards → 0 < length shards
text_some text shards has = omega (arith, has.has.some, read_many has.bodies shards has.read)

pub refused_text : (text : List ℕ) (bodies : List (List ℕ)) (why : JoinFault) → HasBodies text bodies → OrNoMemory (AreRefused bodies) why
    → OrNoMemory (FirstJoinFault text) why
refused_text text bodies why has (inl memory) = inl memory
refused_text text bodies why has (inr refused) = inr (subst (FirstJoinFault text) (sym refused.2) (bodies, has, refused.3))

pub unjoinable_text : (text : List ℕ) (shards : List Progress) (why : JoinFault) → HasShards text shards → OrNoMemory (IsUnjoinable shards) why
    → OrNoMemory (FirstJoinFault text) why
unjoinable_text text shards why has (inl memory) = inl memory
unjoinable_text text shards why has (inr cause) = inr (by why cause)
  where
    by : (f : JoinFault) → IsUnjoinable shards f → FirstJoinFault text f
    by (fault.OtherProblem i place) h = (shards, has, h)
    by (fault.Overlap i j) h = (shards, h.0, h.1, has, h.2, h.3)
    by (fault.Form place) h = absurd h
    by (fault.Blocks number) h = absurd h
    by (fault.Check i cause) h = absurd h
    by fault.NoMemory h = absurd h

pub join_text : (text : List ℕ) (shards : List Progress) (joined : List ℕ) → HasShards text shards → IsJoinOf shards joined → IsJoin text joined
join_text text shards joined has is = record {
  bodies = has.bodies;
  has = has.has;
  shards = shards;
  read = has.read;
  bytes = is.bytes;
  p = is.p;
  joined_is = is.joined_is;
  apart = is.apart;
}

-- a fault that is not want of memory
pub not_memory : (text : List ℕ) (why : JoinFault) → OrNoMemory (FirstJoinFault text) why → (why ≡ fault.NoMemory → ⊥) → FirstJoinFault text why
not_memory text why (inl memory) other = absurd (other memory)
not_memory text why (inr cause) other = cause
