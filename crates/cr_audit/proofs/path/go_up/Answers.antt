use Rattle.std.proofs.Common.{◌≡◌, ℕ, ◌+◌, ◌-◌, ◌<◌, length, ap, ◌∙◌, sym, subst, arith, rules}
use Rattle.std.proofs.lemmas.List.{with_items_is}
use Rattle.cr_model.specs.Callings.{HasSteps, rows_of}
use Rattle.cr_model.specs.Books.{calling_text}
use Rattle.cr_model.specs.Queries.{changes_of_method}
use Rattle.cr_model.specs.Sizes.{child}
use Rattle.cr_audit.specs.Paths.{AreTaken, AreFitting, front}
use Rattle.cr_audit.proofs.Fits.{fitting_up}
use Rattle.cr_audit.proofs.Fronts.{front_of}
use Rattle.cr_audit.proofs.Paths.{text_back, steps_back, step_back}
use Rattle.cr_audit.proofs.Taken.{some_taken}
use Rattle.cr_audit.proofs.path.go_up.Goals as goal

pub remove_step-requires-clause-some : goal.remove_step-requires-clause-some
remove_step-requires-clause-some c =
    let p = c.args.problem.now in
    let node = c.pop.new.self.items in
    let is : c.args.path.now.node.items ≡ child node c.in_ok-step.step = c.in_ok-step.ensures.items in
    let inside = step_back p node c.in_ok-step.step (subst (HasSteps p) is c.requires.known) in
    rw c.deref_mut.ensures.value (some_taken p node c.args.path.now.taken.items c.in_ok-step.step inside (subst (λ n. AreTaken p n c.args.path.now.taken.items) is c.requires.taken))

pub returns-clause-at : goal.returns-clause-at
returns-clause-at c =
    let p = c.args.problem.now in
    let node = c.pop.new.self.items in
    let step = c.in_ok-step.step in
    let is : c.args.path.now.node.items ≡ child node step = c.in_ok-step.ensures.items in
    let fewer : AreTaken p node c.remove_step.new.taken =
    c.remove_step.ensures p node (subst (AreTaken p (child node step)) (sym c.deref_mut.ensures.value) (subst (λ n. AreTaken p n c.args.path.now.taken.items) is c.requires.taken)) in
    record {
      known = steps_back p node step (subst (HasSteps p) is c.requires.known);
      text = c.cut_text.ensures ∙ text_back p node step c.lead_width.result c.args.path.now.text.items c.lead_width.ensures (c.requires.text ∙ ap (calling_text p) is);
      taken = subst (AreTaken p node) (sym (with_items_is c.args.path.now.taken c.remove_step.new.taken (fewer.all ∙ sym c.requires.taken.all ∙ ap length (sym c.deref_mut.ensures.value) ∙ c.deref_mut.ensures.len))) fewer;
      changes = omega (
        arith,
        c.change_at_end.ensures,
        ap (λ l. changes_of_method p (front l)) (c.deref.ensures.value ∙ is),
        ap (changes_of_method p) (front_of node step),
        c.requires.changes,
        ap (changes_of_method p) c.deref.ensures.value,
      );
      fitting = fitting_up p node step c.args.path.now.fitting.items (subst (λ n. AreFitting p n (length n) c.args.path.now.fitting.items) is c.requires.fitting);
      rows = c.requires.rows ∙ ap (rows_of p) (ap front is ∙ front_of node step);
    }
