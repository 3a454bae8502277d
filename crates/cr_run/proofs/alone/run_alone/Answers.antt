use Rattle.std.proofs.Common.{refl, sym, ◌∙◌}
use Rattle.std.proofs.lemmas.Bool.{false≢true}
use Rattle.cr_run.proofs.Playing.{IsPlayed, played, goes_on}
use Rattle.cr_run.proofs.alone.run_alone.Given as given
use Rattle.cr_run.proofs.alone.run_alone.Goals as goal

pub loop-alloc-init : goal.loop-alloc-init
loop-alloc-init g c = record { opening = refl; idle = c.requires.idle; stays = c.requires.stays; ran = (0, refl) }

-- the board after a take and the work on what was taken
after_playing : (g : given.Over) (c : goal.In_ok-do_job g) → IsPlayed c.loop-alloc.board c.do_job.new.board
after_playing g c = played c.loop-alloc.board c.has_ended.ensures.kept c.loop-alloc.invariant.idle c.loop-alloc.invariant.stays
    (λ ended. false≢true (sym c.loop-alloc-test.true ∙ c.has_ended.ensures.is.1 ended))
    c.journals_tell_boards.ensures.budget c.an_empty_board_is_done.ensures
    c.events_keep_the_partition.ensures.event c.events_keep_the_partition.ensures.events
    c.do_job.new.board c.in_ok-do_job.ensures

pub loop-alloc-smaller : goal.loop-alloc-smaller
loop-alloc-smaller g c = (after_playing g c).less

pub loop-alloc-preserved : goal.loop-alloc-preserved
loop-alloc-preserved g c = goes_on c.events_chain.ensures c.args.board c.loop-alloc.board c.do_job.new.board c.loop-alloc.invariant c.in_ok-do_job.ensures
    (after_playing g c)
