-- Each job is read after those before it.
use Rattle.std.proofs.Common.{◌≡◌, ◌<◌, true, false, [], length, get_or, map, take, ap, ◌∙◌, subst, arith}
use Rattle.std.specs.Prelude.{flat_map}
use Rattle.std.proofs.lemmas.List.{length-map}
use Rattle.cr_store.specs.ShapeReads.{node_parts, job_parts}
use Rattle.cr_store.specs.Reading.{lines_of_jobs, AddsNodes}
use Rattle.cr_store.proofs.LineReads.{nodes_known}
use Rattle.cr_store.proofs.NodeReads.{job_added, job_stopped, jobs_read, job_lines_at}
use Rattle.cr_store.proofs.reading.read_nodes.Goals as goal

pub read_job-requires : goal.read_job-requires
read_job-requires c =
    nodes_known c.args.problem.now c.args.shape.now.version [] (flat_map (λ job. job) (take c.loop-lines.lines-index (lines_of_jobs c.args.shape.now.jobs.items))) c.loop-lines.nodes.items c.loop-lines.invariant

pub returns-then-not-branch : goal.returns-then-not-branch
returns-then-not-branch c =
    let p = c.args.problem.now in
    let version = c.args.shape.now.version in
    let jobs = c.args.shape.now.jobs.items in
    let i = c.loop-lines.lines-index in
    let value = c.deref-lines-items.ensures.value in
    let inside : i < length jobs = omega (arith, c.loop-lines-test.true, ap length value) in
    let line : map node_parts c.deref.result.now ≡ get_or (lines_of_jobs jobs) i [] =
    ap (map node_parts) c.deref.ensures.value ∙ job_lines_at jobs i c.lines-item.result inside (c.lines-item.is ∙ ap (λ js. get_or js i c.lines-item.result) value) in
    let adds = subst (AddsNodes p version (map node_parts c.deref.result.now) c.loop-lines.nodes.items c.read_job.new.nodes.items) c.if-not-branch.true c.in_ok-read_job.ensures in
    job_stopped p version (lines_of_jobs jobs) i c.loop-lines.nodes.items (omega (arith, inside, length-map jobs job_parts)) c.loop-lines.invariant c.read_job.new.nodes.items
    (subst (λ l. AddsNodes p version l c.loop-lines.nodes.items c.read_job.new.nodes.items false) line adds)

pub loop-lines-preserved : goal.loop-lines-preserved
loop-lines-preserved c =
    let p = c.args.problem.now in
    let version = c.args.shape.now.version in
    let jobs = c.args.shape.now.jobs.items in
    let i = c.loop-lines.lines-index in
    let value = c.deref-lines-items.ensures.value in
    let inside : i < length jobs = omega (arith, c.loop-lines-test.true, ap length value) in
    let line : map node_parts c.deref.result.now ≡ get_or (lines_of_jobs jobs) i [] =
    ap (map node_parts) c.deref.ensures.value ∙ job_lines_at jobs i c.lines-item.result inside (c.lines-item.is ∙ ap (λ js. get_or js i c.lines-item.result) value) in
    let adds = subst (AddsNodes p version (map node_parts c.deref.result.now) c.loop-lines.nodes.items c.read_job.new.nodes.items) c.if-not-branch.false c.in_ok-read_job.ensures in
    job_added p version (lines_of_jobs jobs) i c.loop-lines.nodes.items (omega (arith, inside, length-map jobs job_parts)) c.loop-lines.invariant c.read_job.new.nodes.items
    (subst (λ l. AddsNodes p version l c.loop-lines.nodes.items c.read_job.new.nodes.items true) line adds)

pub returns : goal.returns
returns c =
    let jobs = c.args.shape.now.jobs.items in
    jobs_read c.args.problem.now c.args.shape.now.version (lines_of_jobs jobs) c.loop-lines.lines-index c.loop-lines.nodes.items
    (omega (arith, c.loop-lines-test.false, ap length c.deref-lines-items.ensures.value, length-map jobs job_parts)) c.loop-lines.invariant
