use Rattle.std.proofs.Common.{◌∙◌}
use Rattle.cr_path.proofs.Fitting.{few_fittings, fits_after}
use Rattle.cr_path.proofs.walks.node_counts.count_lead.Goals as goal

pub take_fits-requires : goal.take_fits-requires
take_fits-requires c = few_fittings c.args.numbers.now c.args.place c.args.step c.args.meter.now.node c.args.meter.now c.requires.lead

pub add_counted-requires-clause-step : goal.add_counted-requires-clause-step
add_counted-requires-clause-step c = c.requires.lead.known

pub add_counted-requires-clause-fitting : goal.add_counted-requires-clause-fitting
add_counted-requires-clause-fitting c = c.numbers.ensures ∙ c.take_fits.ensures ∙ fits_after c.args.numbers.now c.args.place c.args.step c.args.meter.now.node c.args.meter.now c.requires.lead
