use Rattle.std.proofs.Common.{◌≡◌, ◌-◌, map, take, drop, sum, vec_items, sym, ap, ◌∙◌, arith}
use Rattle.std.proofs.lemmas.List.{take-map}
use Rattle.std.proofs.lemmas.Iterator.{YieldsList-from_slice}
use Rattle.std.proofs.lemmas.Iterator.Consumers.{fits_from_yields_list, sum_from_yields_List}
use Rattle.masks.specs.Masks.{mask_of}
use Rattle.storage.specs.Stored.{Stored}
use Rattle.storage.proofs.Pieces.{held_within, stay_and_go, what_goes, held_cut}
use Rattle.storage.proofs.storage.Storage.cut.Goals as goal

pub sum-gone-requires-clause-fits : goal.sum-gone-requires-clause-fits
sum-gone-requires-clause-fits c =
    let w = stay_and_go c.self.inside c.self.invariant c.args.count in
    let goes = c.iter.ensures.rest ∙ what_goes c.self.inside c.self.invariant c.args.count c.len.result c.deref.result.now c.deref.ensures.value (omega arith) in
    fits_from_yields_list c.iter.result _ (YieldsList-from_slice (drop c.args.count (vec_items c.self.inside.lengths)) goes) (omega arith)

pub overflow_sub-left : goal.overflow_sub-left
overflow_sub-left c =
    let w = stay_and_go c.self.inside c.self.invariant c.args.count in
    let goes = c.iter.ensures.rest ∙ what_goes c.self.inside c.self.invariant c.args.count c.len.result c.deref.result.now c.deref.ensures.value (omega arith) in
    let gone : c.sum-gone.result ≡ sum (drop c.args.count (vec_items c.self.inside.lengths)) = sum_from_yields_List c.iter.result _ c.sum-gone.ensures.ran (YieldsList-from_slice (drop c.args.count (vec_items c.self.inside.lengths)) goes) in
    omega arith

pub invariant_of-self : goal.invariant_of-self
invariant_of-self c =
    let w = stay_and_go c.self.inside c.self.invariant c.args.count in
    let goes = c.iter.ensures.rest ∙ what_goes c.self.inside c.self.invariant c.args.count c.len.result c.deref.result.now c.deref.ensures.value (omega arith) in
    let gone : c.sum-gone.result ≡ sum (drop c.args.count (vec_items c.self.inside.lengths)) = sum_from_yields_List c.iter.result _ c.sum-gone.ensures.ran (YieldsList-from_slice (drop c.args.count (vec_items c.self.inside.lengths)) goes) in
    let stay = ap sum c.truncate-2.ensures.items in
    let left : c.len-2.result - c.sum-gone.result ≡ sum c.truncate-2.new.self.items = omega arith in
    let held = held_cut c.self.inside c.self.invariant _ _ _ _ c.truncate-2.ensures.items left c.truncate-3.ensures.items in
    let p = c.self.invariant.paired in
    record {
      whole = omega arith;
      paired = omega arith;
      masked = c.truncate.ensures.items ∙ ap (take _) c.self.invariant.masked ∙ take-map mask_of _ _ ∙ ap (map mask_of) (sym held);
      clauses_within = omega arith;
      literals_within = omega arith;
      masks_reserved = omega arith;
      lengths_reserved = omega arith;
      literals_reserved = omega arith;
    }

pub returns-clause-held : goal.returns-clause-held
returns-clause-held c =
    let w = stay_and_go c.self.inside c.self.invariant c.args.count in
    let goes = c.iter.ensures.rest ∙ what_goes c.self.inside c.self.invariant c.args.count c.len.result c.deref.result.now c.deref.ensures.value (omega arith) in
    let gone : c.sum-gone.result ≡ sum (drop c.args.count (vec_items c.self.inside.lengths)) = sum_from_yields_List c.iter.result _ c.sum-gone.ensures.ran (YieldsList-from_slice (drop c.args.count (vec_items c.self.inside.lengths)) goes) in
    let stay = ap sum c.truncate-2.ensures.items in
    let left : c.len-2.result - c.sum-gone.result ≡ sum c.truncate-2.new.self.items = omega arith in
    held_cut c.self.inside c.self.invariant _ _ _ _ c.truncate-2.ensures.items left c.truncate-3.ensures.items ∙ ap (λ (v : Stored). take c.args.count v.held) c.self.view_is

pub returns-clause-within : goal.returns-clause-within
returns-clause-within c = held_within _ (invariant_of-self c)
