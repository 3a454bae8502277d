use Rattle.std.proofs.Common.{◌++◌, map, sym, ◌∙◌, ap}
use Rattle.cr_read.proofs.UnknownKeys.{unknown_first}
use Rattle.cr_read.proofs.keys.check_unknown_of.Goals as goal

pub returns-then-not-is_key : goal.returns-then-not-is_key
returns-then-not-is_key c =
    unknown_first c.args.path.now (map (λ key. key.name.now) c.args.keys.now) c.in-Some.key.now c.in-Some.field-0-1.now c.next.new.self _ c.as_str.result.now _ _
    c.in-Some.ensures.steps c.loop-key.invariant c.as_str.ensures.value (sym c.is_key.ensures ∙ c.if-not-is_key.true)
    (c.in_ok-path_to.ensures ∙ ap (λ name. c.args.path.now ++ name) c.as_str-then-not-is_key.ensures.value)
