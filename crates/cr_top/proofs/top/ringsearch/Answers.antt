use Rattle.std.proofs.Common.{Some, refl}
use Rattle.cr_words.specs.Commands.{texts_of}
use Rattle.cr_top.proofs.Wishing.{refused, as_search, as_make, as_trail, as_last, as_cut, as_join, as_log, as_audit}
use Rattle.cr_top.proofs.Completeness.{made, ends_finished, ends_stopped, ends_refused}
use Rattle.cr_top.proofs.TrailAnswers.{trail_finished, trail_refused}
use Rattle.cr_top.proofs.LastAnswers.{last_finished, last_refused}
use Rattle.cr_top.proofs.ShardAnswers.{cut_finished, cut_refused, join_finished, join_refused}
use Rattle.cr_top.proofs.LogAnswers.{log_finished, log_refused}
use Rattle.cr_top.proofs.AuditAnswers.{audit_finished, audit_refused}
use Rattle.cr_top.proofs.top.ringsearch.Goals as goal

pub returns-clause-refuses_words : goal.returns-clause-refuses_words
returns-clause-refuses_words g c = λ fault is.
    refused _ _ c.words_are_accepted_or_have_a_fault.ensures.apart c.words_are_accepted_or_have_a_fault.ensures.one
    (texts_of c.args.words.now) fault is c.ended-status.result c.ended-status.ensures.ends

pub returns-clause-makes : goal.returns-clause-makes
returns-clause-makes g c = λ number asks writes. made _ number writes c.ended-status.result
    (as_make _ _ c.words_read_as_one_wish.ensures c.words_are_accepted_or_have_a_fault.ensures.apart
    (texts_of c.args.words.now) c.ended-status.result number asks c.ended-status.ensures.ends)

pub returns-clause-complete : goal.returns-clause-complete
returns-clause-complete g c = λ turns asks input bytes p found nodes told short is keeps reads writes.
    ends_finished _ _ turns c.ended-status.result
    (as_search _ _ c.words_read_as_one_wish.ensures c.words_are_accepted_or_have_a_fault.ensures.apart
    (texts_of c.args.words.now) c.ended-status.result turns asks c.ended-status.ensures.ends)
    (λ taken took. g.met.S.Source.shows _ _ taken took) input
    (c.inputs_have_one_answer.ensures input) told reads bytes p found nodes short is writes keeps

pub returns-clause-stops : goal.returns-clause-stops
returns-clause-stops g c = λ after asks input bytes p found nodes told short is less reads writes.
    ends_stopped _ _ (Some after) c.ended-status.result
    (as_search _ _ c.words_read_as_one_wish.ensures c.words_are_accepted_or_have_a_fault.ensures.apart
    (texts_of c.args.words.now) c.ended-status.result (Some after) asks c.ended-status.ensures.ends)
    (λ taken took. g.met.S.Source.shows _ _ taken took) input
    (c.inputs_have_one_answer.ensures input) told reads bytes p found nodes short is writes after refl less

pub returns-clause-refuses : goal.returns-clause-refuses
returns-clause-refuses g c = λ turns asks input told due is reads.
    ends_refused _ _ turns c.ended-status.result
    (as_search _ _ c.words_read_as_one_wish.ensures c.words_are_accepted_or_have_a_fault.ensures.apart
    (texts_of c.args.words.now) c.ended-status.result turns asks c.ended-status.ensures.ends)
    (λ taken took. g.met.S.Source.shows _ _ taken took) input
    (c.inputs_have_one_answer.ensures input) told reads due is

pub returns-clause-trails : goal.returns-clause-trails
returns-clause-trails g c = λ every asks input bytes p found nodes told short is reads writes.
    trail_finished _ _ every c.ended-status.result
    (as_trail _ _ c.words_read_as_one_wish.ensures c.words_are_accepted_or_have_a_fault.ensures.apart
    (texts_of c.args.words.now) c.ended-status.result every asks c.ended-status.ensures.ends)
    (λ taken took. g.met.S.Source.shows _ _ taken took) input
    (c.inputs_have_one_answer.ensures input) told reads bytes p found nodes short is writes

pub returns-clause-refuses_trail : goal.returns-clause-refuses_trail
returns-clause-refuses_trail g c = λ every asks input told due is reads.
    trail_refused _ _ every c.ended-status.result
    (as_trail _ _ c.words_read_as_one_wish.ensures c.words_are_accepted_or_have_a_fault.ensures.apart
    (texts_of c.args.words.now) c.ended-status.result every asks c.ended-status.ensures.ends)
    (λ taken took. g.met.S.Source.shows _ _ taken took) input
    (c.inputs_have_one_answer.ensures input) told reads due is

pub returns-clause-lasts : goal.returns-clause-lasts
returns-clause-lasts g c = λ asks input last told short is reads writes.
    last_finished _ _ c.ended-status.result
    (as_last _ _ c.words_read_as_one_wish.ensures c.words_are_accepted_or_have_a_fault.ensures.apart
    (texts_of c.args.words.now) c.ended-status.result asks c.ended-status.ensures.ends)
    (λ taken took. g.met.S.Source.shows _ _ taken took) c.each_text_has_one_last_block.ensures input told reads last short is writes

pub returns-clause-refuses_last : goal.returns-clause-refuses_last
returns-clause-refuses_last g c = λ asks input told due is reads.
    last_refused _ _ c.ended-status.result
    (as_last _ _ c.words_read_as_one_wish.ensures c.words_are_accepted_or_have_a_fault.ensures.apart
    (texts_of c.args.words.now) c.ended-status.result asks c.ended-status.ensures.ends)
    (λ taken took. g.met.S.Source.shows _ _ taken took) c.each_text_has_one_last_block.ensures input told reads due is

pub returns-clause-cuts : goal.returns-clause-cuts
returns-clause-cuts g c = λ into asks input bytes p found nodes told short is reads writes.
    cut_finished _ _ into c.ended-status.result
    (as_cut _ _ c.words_read_as_one_wish.ensures c.words_are_accepted_or_have_a_fault.ensures.apart
    (texts_of c.args.words.now) c.ended-status.result into asks c.ended-status.ensures.ends)
    (λ taken took. g.met.S.Source.shows _ _ taken took) input
    (c.inputs_have_one_answer.ensures input) told reads bytes p found nodes short is writes

pub returns-clause-refuses_cut : goal.returns-clause-refuses_cut
returns-clause-refuses_cut g c = λ into asks input told due is reads.
    cut_refused _ _ into c.ended-status.result
    (as_cut _ _ c.words_read_as_one_wish.ensures c.words_are_accepted_or_have_a_fault.ensures.apart
    (texts_of c.args.words.now) c.ended-status.result into asks c.ended-status.ensures.ends)
    (λ taken took. g.met.S.Source.shows _ _ taken took) input
    (c.inputs_have_one_answer.ensures input) told reads due is

pub returns-clause-joins : goal.returns-clause-joins
returns-clause-joins g c = λ asks input joined told short is reads writes.
    join_finished _ _ c.ended-status.result
    (as_join _ _ c.words_read_as_one_wish.ensures c.words_are_accepted_or_have_a_fault.ensures.apart
    (texts_of c.args.words.now) c.ended-status.result asks c.ended-status.ensures.ends)
    (λ taken took. g.met.S.Source.shows _ _ taken took)
    (record { one_fault = c.texts_have_one_answer.ensures.one_fault; never_both = c.texts_have_one_answer.ensures.never_both })
    input told reads joined short is writes

pub returns-clause-refuses_join : goal.returns-clause-refuses_join
returns-clause-refuses_join g c = λ asks input told due is reads.
    join_refused _ _ c.ended-status.result
    (as_join _ _ c.words_read_as_one_wish.ensures c.words_are_accepted_or_have_a_fault.ensures.apart
    (texts_of c.args.words.now) c.ended-status.result asks c.ended-status.ensures.ends)
    (λ taken took. g.met.S.Source.shows _ _ taken took)
    (record { one_fault = c.texts_have_one_answer.ensures.one_fault; never_both = c.texts_have_one_answer.ensures.never_both })
    input told reads due is

pub returns-clause-logs : goal.returns-clause-logs
returns-clause-logs g c = λ asks input p told short begins file reads writes.
    log_finished _ _ c.ended-status.result
    (as_log _ _ c.words_read_as_one_wish.ensures c.words_are_accepted_or_have_a_fault.ensures.apart
    (texts_of c.args.words.now) c.ended-status.result asks c.ended-status.ensures.ends)
    (λ taken took. g.met.S.Source.shows _ _ taken took)
    (record { one_fault = c.bytes_have_one_answer.ensures.one_fault; never_both = c.bytes_have_one_answer.ensures.never_both })
    input told reads p short begins file writes

pub returns-clause-refuses_log : goal.returns-clause-refuses_log
returns-clause-refuses_log g c = λ asks input told due is reads.
    log_refused _ _ c.ended-status.result
    (as_log _ _ c.words_read_as_one_wish.ensures c.words_are_accepted_or_have_a_fault.ensures.apart
    (texts_of c.args.words.now) c.ended-status.result asks c.ended-status.ensures.ends)
    (λ taken took. g.met.S.Source.shows _ _ taken took)
    (record { one_fault = c.bytes_have_one_answer.ensures.one_fault; never_both = c.bytes_have_one_answer.ensures.never_both })
    input told reads due is

pub returns-clause-audits : goal.returns-clause-audits
returns-clause-audits g c = λ asks input number told short is reads writes.
    audit_finished _ _ c.ended-status.result
    (as_audit _ _ c.words_read_as_one_wish.ensures c.words_are_accepted_or_have_a_fault.ensures.apart
    (texts_of c.args.words.now) c.ended-status.result asks c.ended-status.ensures.ends)
    (λ taken took. g.met.S.Source.shows _ _ taken took)
    (record {
      one_fault = c.texts_have_one_audit.ensures.one_fault;
      one_problem = c.texts_have_one_audit.ensures.one_problem;
      no_fault = c.texts_have_one_audit.ensures.no_fault;
      a_problem = c.texts_have_one_audit.ensures.a_problem;
      never_both = c.texts_have_one_audit.ensures.never_both;
    })
    input told reads number short is writes

pub returns-clause-refuses_audit : goal.returns-clause-refuses_audit
returns-clause-refuses_audit g c = λ asks input told due is reads.
    audit_refused _ _ c.ended-status.result
    (as_audit _ _ c.words_read_as_one_wish.ensures c.words_are_accepted_or_have_a_fault.ensures.apart
    (texts_of c.args.words.now) c.ended-status.result asks c.ended-status.ensures.ends)
    (λ taken took. g.met.S.Source.shows _ _ taken took)
    (record {
      one_fault = c.texts_have_one_audit.ensures.one_fault;
      one_problem = c.texts_have_one_audit.ensures.one_problem;
      no_fault = c.texts_have_one_audit.ensures.no_fault;
      a_problem = c.texts_have_one_audit.ensures.a_problem;
      never_both = c.texts_have_one_audit.ensures.never_both;
    })
    input told reads due is
