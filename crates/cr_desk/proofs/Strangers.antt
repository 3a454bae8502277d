-- Who resigned is a stranger.
use Rattle.std.proofs.Common.{◌≡◌, ℕ, ◌<◌, Bool, true, false, not, cond, nat_lt, ◌||◌, List, length, get_or, set, Option, Some, None, refl, arith}
use Rattle.std.proofs.lemmas.Bool.{ltb-true}
use Rattle.std.proofs.lemmas.List.{get_or-set_same}
use Rattle.cr_board.specs.Boards.{BoardParts, held_at}
use Rattle.cr_board.specs.Choices.{is_stranger, next_answer}
use Rattle.cr_board.specs.Moves.{put_back, after_resigning}
use Rattle.cr_board.specs.declared.held.Held.{Held}
use Rattle.cr_board.specs.declared.taken.Taken.TheVariants as taken

either_true : (a b : Bool) → b ≡ true → (a || b) ≡ true
either_true true b is = refl
either_true false b is = is

stranger_answered : (b : BoardParts) (worker : ℕ) → is_stranger b worker ≡ true → next_answer b worker ≡ taken.Stranger
stranger_answered b worker is = rw is refl

none_below : (b : BoardParts) (worker : ℕ) → nat_lt worker b.opening.workers ≡ false → is_stranger b worker ≡ true
none_below b worker is = rw is refl

flag_set : (flags : List Bool) (worker : ℕ) → worker < length flags → get_or (set flags worker true) worker false ≡ true
flag_set flags worker inside = get_or-set_same flags worker true false inside

resigned_stranger : (b : BoardParts) (worker : ℕ) (held : Option Held) → worker < length b.resigned
    → is_stranger (record (put_back b worker held) { resigned = set b.resigned worker true }) worker ≡ true
resigned_stranger b worker None inside = either_true (not (nat_lt worker b.opening.workers)) _ (flag_set b.resigned worker inside)
resigned_stranger b worker (Some held) inside = either_true (not (nat_lt worker b.opening.workers)) _ (flag_set b.resigned worker inside)

-- who resigned, or is none of the workers, is a stranger
pub stranger_after : (b : BoardParts) (worker : ℕ) → length b.resigned ≡ b.opening.workers
    → next_answer (cond (nat_lt worker b.opening.workers) (after_resigning b worker) b) worker ≡ taken.Stranger
stranger_after b worker shape = by (nat_lt worker b.opening.workers) refl
  where
    by : (below : Bool) → nat_lt worker b.opening.workers ≡ below → next_answer (cond below (after_resigning b worker) b) worker ≡ taken.Stranger
    by true is = stranger_answered (after_resigning b worker) worker (resigned_stranger b worker (held_at b.held worker) (let inside : worker < b.opening.workers = ltb-true worker b.opening.workers is in omega (arith, shape)))
    by false is = stranger_answered b worker (none_below b worker is)
