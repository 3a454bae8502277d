use Rattle.std.proofs.Common.{◌≡◌, ℕ, ◌+◌, ◌<◌, ◌≤◌, ◌^◌, ◌++◌, length, ap, sym, ◌∙◌, subst, arith, rules}
use Rattle.std.proofs.lemmas.List.{with_items_is}
use Rattle.cr_model.specs.Books.{lead_text, calling_text}
use Rattle.cr_model.specs.Callings.{HasSteps, rows_of}
use Rattle.cr_model.specs.Queries.{changes_of_method}
use Rattle.cr_model.specs.Sizes.{child}
use Rattle.cr_audit.specs.Paths.{AreTaken, AreFitting, front}
use Rattle.cr_audit.proofs.Fits.{fitting_down}
use Rattle.cr_audit.proofs.Fronts.{front_of}
use Rattle.cr_audit.proofs.Paths.{child_text, steps_on}
use Rattle.cr_audit.proofs.Taken.{few_taken, com_few}
use Rattle.cr_audit.proofs.path.go_down.Goals as goal

pub overflow_add-path : goal.overflow_add-path
overflow_add-path c =
    let p = c.args.problem.now in
    let node = c.args.path.now.node.items in
    let is : c.push.new.self.items ≡ child node c.args.step = c.in_ok-push.ensures.items in
    let value : c.deref.result.now ≡ child node c.args.step = c.deref.ensures.value ∙ is in
    let fits : length c.push.new.self.items < 2 ^ 64 = search rules in
    omega (
      arith,
      c.change_at_end.ensures,
      ap (λ l. changes_of_method p (front l)) value,
      ap (changes_of_method p) (front_of node c.args.step),
      c.requires.open.changes,
      com_few p c.deref.result.now,
      ap length value,
      ap length is,
      fits,
    )

pub returns-clause-at : goal.returns-clause-at
returns-clause-at c =
    let p = c.args.problem.now in
    let node = c.args.path.now.node.items in
    let is : c.push.new.self.items ≡ child node c.args.step = c.in_ok-push.ensures.items in
    let value : c.deref.result.now ≡ child node c.args.step = c.deref.ensures.value ∙ is in
    let more : AreTaken p (child node c.args.step) c.add_step.new.taken = c.add_step.ensures p node (subst (AreTaken p node) (sym c.deref_mut.ensures.value) c.requires.open.taken) in
    record {
      known = subst (HasSteps p) (sym is) (steps_on p node c.args.step c.requires.open.known c.requires.step);
      text = c.in_ok-write_lead.ensures ∙ ap (λ text. text ++ lead_text p c.args.step) c.requires.open.text ∙ sym (child_text p node c.args.step) ∙ ap (calling_text p) (sym is);
      taken = subst (AreTaken p c.push.new.self.items) (sym (with_items_is c.args.path.now.taken c.add_step.new.taken (more.all ∙ sym c.requires.open.taken.all ∙ ap length (sym c.deref_mut.ensures.value) ∙ c.deref_mut.ensures.len)))
          (subst (λ n. AreTaken p n c.add_step.new.taken) (sym is) more);
      changes = omega (
        arith,
        c.change_at_end.ensures,
        ap (λ l. changes_of_method p (front l)) value,
        ap (changes_of_method p) (front_of node c.args.step),
        c.requires.open.changes,
        ap (changes_of_method p) c.deref.ensures.value,
      );
      fitting = subst (λ n. AreFitting p n (length n) c.args.path.now.fitting.items) (sym is) (fitting_down p node c.args.step c.args.path.now.fitting.items c.requires.open.fitting);
      rows = c.requires.open.rows ∙ ap (rows_of p) (sym (ap front is ∙ front_of node c.args.step));
    }
