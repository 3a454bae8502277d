use Rattle.std.proofs.Common.{◌<◌, List, ℕ, length, sym, ap, ◌∙◌, subst}
use Rattle.std.specs.Prelude.{All}
use Rattle.cr_audit.specs.Logs.{log_text}
use Rattle.cr_model.specs.Callings.{HasSteps}
use Rattle.cr_model.specs.Books.{book_text}
use Rattle.cr_top.proofs.LogParts.{book_steps, some_file, some_book, some_log, is_logged}
use Rattle.cr_top.proofs.logging.logged.Goals as goal

pub book_text-requires : goal.book_text-requires
book_text-requires c = subst (All (HasSteps c.args.problem.now)) (sym c.deref.ensures.value)
    (book_steps c.args.problem.now _ c.in_ok-run.run'.book.items c.in_ok-run.ensures.proves)

pub three_blocks-requires-clause-first : goal.three_blocks-requires-clause-first
three_blocks-requires-clause-first c = some_file c.args.bytes.now c.args.problem.now c.requires.file

pub three_blocks-requires-clause-second : goal.three_blocks-requires-clause-second
three_blocks-requires-clause-second c = subst (λ (t : List ℕ). 0 < length t) (sym (c.deref-3.ensures.value ∙ c.in_ok-book.ensures))
    (some_book c.args.problem.now c.deref.result.now)

pub three_blocks-requires-clause-third : goal.three_blocks-requires-clause-third
three_blocks-requires-clause-third c = subst (λ (t : List ℕ). 0 < length t)
    (sym (c.deref-4.ensures.value ∙ c.in_ok-log.ensures ∙ ap (log_text c.args.problem.now) c.deref-2.ensures.value))
    (some_log c.args.problem.now _ c.in_ok-run.run'.book.items c.in_ok-run.ensures.proves)

pub returns : goal.returns
returns c =
    let p = c.args.problem.now in
    let run = c.in_ok-run.run' in
    is_logged c.args.bytes.now c.in_ok-text.text.items c.deref-3.result.now c.deref-4.result.now p run.book.items run.lines.items
    c.requires.begins c.requires.file
    (c.what_a_log_proves_is_the_book.ensures p _ run.book.items c.requires.file.sound c.in_ok-run.ensures.proves)
    c.in_ok-run.ensures.first c.in_ok-run.ensures.proves
    (c.deref-3.ensures.value ∙ c.in_ok-book.ensures ∙ ap (book_text p) c.deref.ensures.value)
    (c.deref-4.ensures.value ∙ c.in_ok-log.ensures ∙ ap (log_text p) c.deref-2.ensures.value)
    c.in_ok-text.ensures
