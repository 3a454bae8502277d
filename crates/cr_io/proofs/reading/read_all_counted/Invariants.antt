use Rattle.std.proofs.Common.{◌≡◌, ◌≤◌, ◌+◌, ◌-◌, ◌*◌, length, vec_len}
use Rattle.cr_io.proofs.reading.read_all_counted.Given as goal

abbrev pub invariant-loop-count : goal.invariant-loop-count
invariant-loop-count g l =
    (vec_len l.bytes ≤ l.limit) ×
    g.S.Source.took l.initial.source l.source l.bytes.items ×
    (g.S.Source.faults l.source ≡ g.S.Source.faults l.initial.source) ×
    (l.initial.steps ≤ l.steps) ×
    (l.steps ≤ l.initial.steps + vec_len l.bytes) ×
    (vec_len l.bytes ≤ 4096 * (l.steps - l.initial.steps)) ×
    (length l.buf ≡ 4096)

abbrev pub decreases-loop-count : goal.decreases-loop-count
decreases-loop-count g l = l.limit + 1 - vec_len l.bytes
