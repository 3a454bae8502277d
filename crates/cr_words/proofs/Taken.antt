-- Words at which clap's definition lists no error are taken.
use Rattle.std.proofs.Common.{◌≡◌, ◌∙◌, refl, ap, sym, arith, ℕ, zero, suc, Bool, true, false, not, ◌||◌, ◌&&◌, cond, nat_le, nat_lt, Option, Some, None, is_some, List, [], ◌∷◌, length, drop}
use Rattle.std.specs.Prelude.{◌==◌, slice_get, encode_utf8, codes, Result, Ok, Err, IfOk}
use Rattle.std.specs.List.{list_all}
use Rattle.std.specs.Option.{option_map_or}
use Rattle.std.specs.Str.{bytes_eq, chars}
use Rattle.std.proofs.lemmas.Bool.{le-leb, ltb-false, eqb-true}
use Rattle.clap.specs.declared.builder.action.ArgAction.{ArgAction}
use Rattle.clap.specs.declared.builder.action.ArgAction.TheVariants as action
use Rattle.clap.specs.declared.builder.value_parser.ValueParser.{ValueParser}
use Rattle.clap.specs.declared.error.kind.ErrorKind.{ErrorKind}
use Rattle.clap.specs.declared.error.kind.ErrorKind.TheVariants as kind
use Rattle.clap.specs.Facts.{unwrap_or_range}
use Rattle.clap.specs.Lexer.{long_of, short_of}
use Rattle.clap.specs.ValueTests.{accepts}
use Rattle.clap.specs.Kinds.{FailsBy, Kinds, or_else, range_kinds, value_kinds, values_kinds}
use Rattle.clap.specs.Walk.{Held, Names, Row, Rule, Step, Text, Waiting, Walk, value, next, trailing, subcommand, action_of, arg_by_id, arg_by_index, arg_by_long, arg_by_short, attached_value, has_row, is_pending, most_values, nothing_held, reacted, settled, subcommand_met, takes_several, takes_values, values_or_missing, walk, walk_from, walked, word_met}
use Rattle.clap.specs.Simple.{App, Shape, built}
use Rattle.clap.specs.declared.error.Error.{Error}
use Rattle.clap.specs.Takes.{count_passes, set_passes, action_passes, use_passes, settle_passes, react_passes, option_passes, long_passes, short_passes, bundle_step_passes, flags_pass, bundle_passes, flag_word_passes, other_passes, word_passes, positional_passes, step_passes, turn_passes, walk_passes, level_passes}
use Rattle.clap.specs.Faults.{values_fault, count_fault, repeat_fault, set_fault, action_fault, use_fault, settle_fault, react_fault, option_fault, long_fault, short_fault, bundle_step_fault, flags_fault, bundle_fault, flag_word_fault, other_fault, word_fault, positional_fault, stray_fault, step_fault, turn_fault, walk_fault, level_fault, fault_of, is_simple_and_free}
use Rattle.clap.proofs.TakesLemmas.{leaf_takes}
use Rattle.clap.proofs.FaultLemmas.{leaf_fault}
use Rattle.cr_words.specs.Commands.{ring_app, are_taken}

-- lists of kinds, and tests

some_kind : (k : ErrorKind) (ks : Kinds) → (k ∷ ks) ≡ [] → ⊥
some_kind k ks e = let counted : length (k ∷ ks) ≡ 0 = ap length e in omega (arith, counted)

nil_parts : (x y : Kinds) → or_else x y ≡ [] → (x ≡ []) × (y ≡ [])
nil_parts [] y e = (refl, e)
nil_parts (k ∷ ks) y e = absurd (some_kind k ks e)

and_true : (a b : Bool) → a ≡ true → b ≡ true → (a && b) ≡ true
and_true a b p q = ap (λ x. x && b) p ∙ q

passing : (b : Bool) (k : ErrorKind) → cond b [] (k ∷ []) ≡ [] → b ≡ true
passing true k e = refl
passing false k e = absurd (some_kind k [] e)

past_kind : (b : Bool) (k : ErrorKind) (rest : Kinds) → cond b (k ∷ []) rest ≡ [] → (b ≡ false) × (rest ≡ [])
past_kind true k rest e = absurd (some_kind k [] e)
past_kind false k rest e = (refl, e)

allowed : (b again : Bool) (k : ErrorKind) (ks : Kinds) → cond (b && not again) (k ∷ ks) [] ≡ [] → (not b || again) ≡ true
allowed false again k ks e = refl
allowed true true k ks e = refl
allowed true false k ks e = absurd (some_kind k ks e)

skipping : (b : Bool) (x : Kinds) (y : Bool) → (x ≡ [] → y ≡ true) → cond b [] x ≡ [] → (b || y) ≡ true
skipping true x y passes e = refl
skipping false x y passes e = passes e

at_most : (a b : ℕ) → nat_lt b a ≡ false → nat_le a b ≡ true
at_most a b e = le-leb a b (ltb-false b a e)

in_bounds : (least most n : ℕ) → range_kinds least most n ≡ [] → (nat_le least n ≡ true) × (nat_le n most ≡ true)
in_bounds least most n e = by (least == most) refl (past_kind _ _ _ e).1
  where
    by : (b : Bool) → (least == most) ≡ b
        → cond b (cond (least == n) [] (kind.WrongNumberOfValues ∷ []))
        (cond (nat_lt n least) (kind.TooFewValues ∷ []) (cond (nat_lt most n) (kind.TooManyValues ∷ []) [])) ≡ []
        → (nat_le least n ≡ true) × (nat_le n most ≡ true)
    by true same e =
        let one : least ≡ n = eqb-true least n (passing (least == n) kind.WrongNumberOfValues e) in
        let other : least ≡ most = eqb-true least most same in
        (le-leb least n (omega (arith, one)), le-leb n most (omega (arith, one, other)))
    by false same e =
        let few = past_kind (nat_lt n least) kind.TooFewValues _ e in
        let many = past_kind (nat_lt most n) kind.TooManyValues _ few.1 in
        (at_most least n few.0, at_most n most many.0)

-- one use of an argument

values_ok : (ignore_case : Bool) (p : ValueParser) (vs : List Text) → values_kinds ignore_case p vs ≡ [] → list_all (accepts ignore_case p) vs ≡ true
values_ok ignore_case p [] e = refl
values_ok ignore_case p (v ∷ vs) e =
    let both = nil_parts (value_kinds ignore_case p v) (values_kinds ignore_case p vs) e in
    and_true _ _ (passing (accepts ignore_case p v) _ both.0) (values_ok ignore_case p vs both.1)

count_ok : (a : Rule) (values : List Text) (rows : List Row) → count_fault a values rows ≡ [] → count_passes a values rows ≡ true
count_ok a [] rows e = passing _ _ e
count_ok a (v ∷ vs) rows e = values_ok _ _ (v ∷ vs) e

set_ok : (again : Bool) (a : Rule) (values : List Text) (rows : List Row) → set_fault again a values rows ≡ [] → set_passes again a values rows ≡ true
set_ok again a values rows e =
    let both = nil_parts (repeat_fault again a.id rows) (values_fault a values) e in
    and_true _ _ (allowed (has_row a.id rows) again _ _ both.0) (values_ok _ _ values both.1)

action_ok : (x : ArgAction) (again : Bool) (a : Rule) (values : List Text) (rows : List Row)
    → action_fault x again a values rows ≡ [] → action_passes x again a values rows ≡ true
action_ok action.Set again a values rows e = set_ok again a values rows e
action_ok action.SetTrue again a values rows e = set_ok again a values rows e
action_ok action.SetFalse again a values rows e = set_ok again a values rows e
action_ok action.Append again a values rows e = values_ok _ _ values e
action_ok action.Count again a values rows e = count_ok a values rows e
action_ok action.Help again a values rows e = absurd (some_kind _ _ e)
action_ok action.HelpShort again a values rows e = absurd (some_kind _ _ e)
action_ok action.HelpLong again a values rows e = absurd (some_kind _ _ e)
action_ok action.Version again a values rows e = absurd (some_kind _ _ e)

use_ok : (again : Bool) (a : Rule) (values : List Text) (rows : List Row) → use_fault again a values rows ≡ [] → use_passes again a values rows ≡ true
use_ok again a values rows e =
    let both = nil_parts (range_kinds (unwrap_or_range a.range).start_inclusive (most_values a) (length values))
    (action_fault (action_of a) again a (values_or_missing a values) rows) e in
    let bounds = in_bounds (unwrap_or_range a.range).start_inclusive (most_values a) (length values) both.0 in
    and_true _ _ bounds.0 (and_true _ _ bounds.1 (action_ok (action_of a) again a (values_or_missing a values) rows both.1))

-- the walk

settle_ok : (c : List Rule) (again : Bool) (h : Held) → settle_fault c again h ≡ [] → settle_passes c again h ≡ true
settle_ok c again h = by h.pending
  where
    used : (p : Text × List Text) (o : Option Rule) → option_map_or (λ a. use_fault again a p.1 h.rows) o [] ≡ []
        → option_map_or (λ a. use_passes again a p.1 h.rows) o true ≡ true
    used p None e = refl
    used p (Some a) e = use_ok again a p.1 h.rows e

    by : (o : Option (Text × List Text)) → option_map_or (λ p. option_map_or (λ a. use_fault again a p.1 h.rows) (arg_by_id c p.0) []) o [] ≡ []
        → option_map_or (λ p. option_map_or (λ a. use_passes again a p.1 h.rows) (arg_by_id c p.0) true) o true ≡ true
    by None e = refl
    by (Some p) e = used p (arg_by_id c p.0) e

react_ok : (c : List Rule) (again : Bool) (a : Rule) (values : List Text) (h : Held) → react_fault c again a values h ≡ [] → react_passes c again a values h ≡ true
react_ok c again a values h e =
    let both = nil_parts (settle_fault c again h) (use_fault again a values (settled c h).rows) e in
    and_true _ _ (settle_ok c again h both.0) (use_ok again a values (settled c h).rows both.1)

option_ok : (c : List Rule) (again : Bool) (a : Rule) (v : Option Text) (h : Held) → option_fault c again a v h ≡ [] → option_passes c again a v h ≡ true
option_ok c again a (Some v) h e = react_ok c again a (v ∷ []) h e
option_ok c again a None h e = settle_ok c again h e

long_ok : (c : List Rule) (again : Bool) (found : Option Rule) (v : Option Text) (h : Held) → long_fault c again found v h ≡ [] → long_passes c again found v h ≡ true
long_ok c again None v h e = absurd (some_kind _ _ e)
long_ok c again (Some a) v h e = by (takes_values a) v e
  where
    by : (b : Bool) (v : Option Text)
        → cond b (option_fault c again a v h) (cond (is_some v) (kind.TooManyValues ∷ []) (react_fault c again a [] h)) ≡ []
        → cond b (option_passes c again a v h) (not (is_some v) && react_passes c again a [] h) ≡ true
    by true v e = option_ok c again a v h e
    by false (Some x) e = absurd (some_kind _ _ e)
    by false None e = react_ok c again a [] h e

short_ok : (c : List Rule) (again : Bool) (found : Option Rule) (rest : Text) (h : Held) (fault : Held → Kinds) (ok : Held → Bool)
    → ((h : Held) → fault h ≡ [] → ok h ≡ true) → short_fault c again found rest h fault ≡ [] → short_passes c again found rest h ok ≡ true
short_ok c again None rest h fault ok each e = absurd (some_kind _ _ e)
short_ok c again (Some a) rest h fault ok each e = by (takes_values a) e
  where
    by : (b : Bool) → cond b (option_fault c again a (attached_value rest) h) (or_else (react_fault c again a [] h) (fault (reacted c a [] h))) ≡ []
        → cond b (option_passes c again a (attached_value rest) h) (react_passes c again a [] h && ok (reacted c a [] h)) ≡ true
    by true e = option_ok c again a (attached_value rest) h e
    by false e =
        let both = nil_parts (react_fault c again a [] h) (fault (reacted c a [] h)) e in
        and_true _ _ (react_ok c again a [] h both.0) (each (reacted c a [] h) both.1)

bundle_step_ok : (c : List Rule) (again : Bool) (x : Option ℕ) (flags : Text) (skip : ℕ) (h : Held) (fault : Text → ℕ → Held → Kinds) (ok : Text → ℕ → Held → Bool)
    → ((flags : Text) (skip : ℕ) (h : Held) → fault flags skip h ≡ [] → ok flags skip h ≡ true)
    → bundle_step_fault c again x flags skip h fault ≡ [] → bundle_step_passes c again x flags skip h ok ≡ true
bundle_step_ok c again None flags skip h fault ok each e = refl
bundle_step_ok c again (Some x) flags zero h fault ok each e =
    short_ok c again (arg_by_short c x) (drop (length (encode_utf8 x)) flags) h (fault (drop (length (encode_utf8 x)) flags) 0)
    (ok (drop (length (encode_utf8 x)) flags) 0) (each (drop (length (encode_utf8 x)) flags) 0) e
bundle_step_ok c again (Some x) flags (suc skip) h fault ok each e = each (drop (length (encode_utf8 x)) flags) skip h e

flags_ok : (c : List Rule) (again : Bool) (k : ℕ) (flags : Text) (skip : ℕ) (h : Held) → flags_fault c again k flags skip h ≡ [] → flags_pass c again k flags skip h ≡ true
unfolding flags_fault flags_pass
flags_ok c again zero flags skip h e = refl
flags_ok c again (suc k) flags skip h e =
    bundle_step_ok c again (slice_get (chars flags) 0) flags skip h (flags_fault c again k) (flags_pass c again k) (flags_ok c again k) e

flag_word_ok : (c : List Rule) (again : Bool) (o : Option (Text × Option Text)) (word : Text) (h : Held)
    → flag_word_fault c again o word h ≡ [] → flag_word_passes c again o word h ≡ true
flag_word_ok c again (Some p) word h e = long_ok c again (arg_by_long c p.0) p.1 h e
flag_word_ok c again None word h e = by (short_of word) e
  where
    by : (o : Option Text) → option_map_or (λ flags. bundle_fault c again flags h) o [] ≡ [] → option_map_or (λ flags. bundle_passes c again flags h) o true ≡ true
    by None e = refl
    by (Some flags) e = flags_ok c again (length flags) flags h.skip (record h { skip = 0 }) e

other_ok : (s : Shape) (o : Option Text) (word : Text) (h : Held) → other_fault s o word h ≡ [] → other_passes s o word h ≡ true
other_ok s (Some name) word h e = allowed (bytes_eq name (codes "help")) s.disable_help_subcommand _ _ e
other_ok s None word h e = skipping (bytes_eq word (45 ∷ 45 ∷ [])) _ _ (flag_word_ok s.rules s.args_override_self (long_of word) word h) e

word_ok : (s : Shape) (names : Names) (is_trailing : Bool) (waiting : Waiting) (word : Text) (h : Held)
    → word_fault s names is_trailing waiting word h ≡ [] → word_passes s names is_trailing waiting word h ≡ true
word_ok s names is_trailing waiting word h = skipping is_trailing _ _ (other_ok s (subcommand_met names waiting word) word h)

positional_ok : (c : List Rule) (again : Bool) (a : Rule) (h : Held) → positional_fault c again a h ≡ [] → positional_passes c again a h ≡ true
positional_ok c again a h = skipping (is_pending a h.pending && takes_several a) _ _ (settle_ok c again h)

stray : (s : Shape) → stray_fault s ≡ [] → ⊥
stray s = by s.is_leaf
  where
    by : (b : Bool) → cond b (kind.UnknownArgument ∷ []) (kind.UnknownArgument ∷ kind.InvalidSubcommand ∷ []) ≡ [] → ⊥
    by true e = some_kind _ _ e
    by false e = some_kind _ _ e

step_ok : (s : Shape) (position : ℕ) (h : Held) (step : Step) → step_fault s position h step ≡ [] → step_passes s position h step ≡ true
step_ok s position h value e = by (arg_by_index s.rules position) e
  where
    by : (o : Option Rule) → option_map_or (λ a. positional_fault s.rules s.args_override_self a h) o (stray_fault s) ≡ []
        → option_map_or (λ a. positional_passes s.rules s.args_override_self a h) o false ≡ true
    by None e = absurd (stray s e)
    by (Some a) e = positional_ok s.rules s.args_override_self a h e
step_ok s position h (next waiting) e = refl
step_ok s position h (trailing p) e = refl
step_ok s position h (subcommand name) e = refl

met_ok : (s : Shape) (names : Names) (w : Walk) (word : Text) (met : Held × Step)
    → or_else (word_fault s names w.is_trailing w.waiting word w.held) (step_fault s w.position met.0 met.1) ≡ []
    → (word_passes s names w.is_trailing w.waiting word w.held && step_passes s w.position met.0 met.1) ≡ true
met_ok s names w word met e =
    let both = nil_parts (word_fault s names w.is_trailing w.waiting word w.held) (step_fault s w.position met.0 met.1) e in
    and_true _ _ (word_ok s names w.is_trailing w.waiting word w.held both.0) (step_ok s w.position met.0 met.1 both.1)

turn_ok : (s : Shape) (names : Names) (w : Walk) (word : Text) → turn_fault s names w word ≡ [] → turn_passes s names w word ≡ true
turn_ok s names w word = skipping (is_some w.stopped) _ _
    (met_ok s names w word (word_met s.rules names w.is_trailing w.waiting w.position word w.held))

walk_ok : (s : Shape) (names : Names) (w : Walk) (words : List Text) → walk_fault s names w words ≡ [] → walk_passes s names w words ≡ true
unfolding walk_fault walk_passes
walk_ok s names w [] e = refl
walk_ok s names w (word ∷ rest) e =
    let both = nil_parts (turn_fault s names w word) (walk_fault s names (walked s.rules names w word) rest) e in
    and_true _ _ (turn_ok s names w word both.0) (walk_ok s names (walked s.rules names w word) rest both.1)

-- words of the command line without an error are taken
level_ok : (words : List Text) → level_fault (built ring_app).top [] nothing_held words false [] ≡ []
    → level_passes (built ring_app).top [] nothing_held words false ≡ true
level_ok words e =
    let end : Held = (walk (built ring_app).top.rules [] nothing_held words).held in
    let walks = nil_parts (walk_fault (built ring_app).top [] (walk_from nothing_held) words) _ e in
    let settles = nil_parts (settle_fault (built ring_app).top.rules (built ring_app).top.args_override_self end) _ walks.1 in
    and_true _ _ (walk_ok (built ring_app).top [] (walk_from nothing_held) words walks.0)
    (and_true _ _ (settle_ok (built ring_app).top.rules (built ring_app).top.args_override_self end settles.0) refl)

pub taken_without_error : (words : List Text) → fault_of ring_app words ≡ [] → are_taken words ≡ true
unfolding are_taken
taken_without_error words e =
    leaf_takes (built ring_app) nothing_held words refl
    (level_ok words (sym (leaf_fault (built ring_app) nothing_held words refl) ∙ e))

-- a parse by the command that succeeds has words that are taken
pub taken_by : {T : Type 0} (r : Result T Error) (a : App) (words : List Text) → a ≡ ring_app
    → (is_simple_and_free a ≡ true → FailsBy (fault_of a words) r) → IfOk r (λ _. are_taken words ≡ true)
taken_by (Ok m) a words same fails =
    taken_without_error words (ap (λ a. fault_of a words) (sym same) ∙ fails (ap is_simple_and_free same))
taken_by (Err e) a words same fails = tt
