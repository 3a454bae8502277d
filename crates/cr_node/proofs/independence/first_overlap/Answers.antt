use Rattle.std.proofs.Common.{◌≡◌, List, length, None, sym, ap, ◌∙◌, subst, arith}
use Rattle.std.proofs.lemmas.List.{length-map}
use Rattle.cr_node.specs.declared.words.Word.{Word}
use Rattle.cr_node.specs.Overlaps.{Item, items, item_at, item_of, items_of, ApartBelow, IsLeastBelow, IsFirstOverlap, TellsLeast}
use Rattle.cr_node.proofs.Least.{one_more_apart}
use Rattle.cr_node.proofs.independence.first_overlap.Goals as goal

pub first_to_overlap-requires : goal.first_to_overlap-requires
first_to_overlap-requires c = λ apart.
    let words = c.deref.result.now in
    let is : items_of words ≡ items c.args.problem.now c.args.found.now c.args.nodes.now = ap items_of c.deref.ensures.value ∙ c.in_ok-words.ensures in
    let long : length words ≡ length (items_of words) = sym (length-map words item_of) in
    c.requires (subst (λ (l : List Item). ApartBelow l (length l)) is (subst (ApartBelow (items_of words)) long apart))

pub unreachable-requires : goal.unreachable-requires
unreachable-requires c =
    let later = c.in_ok-later.later in
    let words = c.deref.result.now in
    let same : c.deref-2.result.now ≡ words = c.deref-2.ensures.value ∙ sym c.deref.ensures.value in
    let none = subst (λ (l : List Word). TellsLeast (items_of l) (item_at (items_of l) later) later None) same c.in-None.ensures in
    c.in_ok-later.ensures.overlaps (one_more_apart (items_of words) later c.in_ok-later.ensures.apart none)

pub returns : goal.returns
returns c =
    let later = c.in_ok-later.later in
    let words = c.deref.result.now in
    let is : items_of words ≡ items c.args.problem.now c.args.found.now c.args.nodes.now = ap items_of c.deref.ensures.value ∙ c.in_ok-words.ensures in
    let same : c.deref-2.result.now ≡ words = c.deref-2.ensures.value ∙ sym c.deref.ensures.value in
    let least = subst (λ (l : List Word). IsLeastBelow (items_of l) (item_at (items_of l) later) later c.in-Some.earlier) same c.in-Some.ensures in
    let first : IsFirstOverlap (items_of words) c.in-Some.earlier later = record {
      inside = omega (arith, c.in_ok-later.ensures.inside, length-map words item_of);
      apart = c.in_ok-later.ensures.apart;
      least = least;
    } in
    subst (λ (l : List Item). IsFirstOverlap l c.in-Some.earlier later) is first
