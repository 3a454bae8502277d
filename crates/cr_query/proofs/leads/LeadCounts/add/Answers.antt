use Rattle.std.proofs.Common.{◌≡◌, ◌<◌, length, map, ap, ap₂, ◌∙◌, arith}
use Rattle.std.proofs.lemmas.List.{length-map}
use Rattle.cr_query.specs.Fronts.{counted_on}
use Rattle.cr_query.specs.Meters.{change_between}
use Rattle.cr_query.specs.Tallies.{tallied}
use Rattle.cr_query.proofs.Metering.{kinds_counted, whole, one_more, written}
use Rattle.cr_query.proofs.leads.LeadCounts.add.Goals as goal

pub returns-clause-is : goal.returns-clause-is
returns-clause-is c p node kinds counted =
    let m = c.args.self.now in
    let kind = c.kind_at-kind.result in
    let front : c.len-front.result ≡ length node = omega (arith, ap length counted.node_is) in
    let change_is : c.change_to-change.result ≡ change_between c.args.kinds.now node kind.method =
    c.change_to-change.ensures.is ∙ ap (λ steps. change_between c.args.kinds.now steps kind.method) (c.deref.ensures.value ∙ counted.node_is) in
    let inside : c.args.step < length p.leads = omega (arith, c.requires.step, kinds_counted p c.args.kinds.now kinds) in
    let room : length node < 1024 = omega (arith, c.requires.few, ap length counted.node_is) in
    let marks : c.raise.new.tallies ≡ map (tallied (length node) kind.mark) m.marks.items = c.raise.ensures ∙ ap₂ (λ n l. map (tallied n kind.mark) l) front c.deref_mut.ensures.value in
    let letters : c.raise-2.new.tallies ≡ map (tallied (length node) kind.letter) m.letters.items = c.raise-2.ensures ∙ ap₂ (λ n l. map (tallied n kind.letter) l) front c.deref_mut-2.ensures.value in
    one_more p node c.args.kinds.now m c.args.step kind c.change_to-change.result c.ringing_on.ensures.lengths kinds (c.kind_at-kind.ensures p kinds) change_is
    counted.steps (whole p node m counted) _
    (written m.marks.len m.marks.items c.raise.new.tallies m.marks.ok.0 (ap length marks ∙ length-map m.marks.items (tallied (length node) kind.mark)) ∙ marks)
    (written m.letters.len m.letters.items c.raise-2.new.tallies m.letters.ok.0 (ap length letters ∙ length-map m.letters.items (tallied (length node) kind.letter)) ∙ letters)
    (c.count-2.ensures ∙ ap₂ (λ n more. counted_on n more m.lengths) front c.from.ensures)
    (c.count.ensures ∙ ap (λ n. counted_on n c.change_to-change.result m.changes) front)
    counted inside room c.put.ensures.items
