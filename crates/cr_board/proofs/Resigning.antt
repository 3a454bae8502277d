-- To resign again changes nothing.
use Rattle.std.proofs.Common.{◌≡◌, ℕ, true, set, ap, ◌∙◌}
use Rattle.cr_board.specs.Boards.{BoardParts}
use Rattle.cr_board.specs.Moves.{put_back, given_back, after_resigning}
use Rattle.cr_board.proofs.Reading.{set_again}
use Rattle.cr_board.proofs.Events.{gives_all}

module _ (b : BoardParts) (worker : ℕ) where
  abbrev once : BoardParts
  once = after_resigning b worker

  -- nothing is held, so nothing goes back
  nothing_back : given_back (after_resigning b worker) worker ≡ after_resigning b worker
  nothing_back = ap (put_back (after_resigning b worker) worker) (gives_all b worker)

  pub resigned_twice : after_resigning (after_resigning b worker) worker ≡ after_resigning b worker
  resigned_twice =
      ap (λ (a : BoardParts). record a { resigned = set once.resigned worker true }) nothing_back
      ∙ ap (λ flags. record (given_back b worker) { resigned = flags }) (set_again b.resigned worker true true)
