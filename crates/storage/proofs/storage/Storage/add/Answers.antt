use Rattle.std.proofs.Common.{◌≡◌, true, [], ◌∷◌, ◌++◌, map, length, is_ok, sum, vec_items, sym, ap, ◌∙◌, ap₂, subst, arith}
use Rattle.std.proofs.lemmas.List.{map_push}
use Rattle.std.proofs.lemmas.List.Sums.{sum_by_push}
use Rattle.std.proofs.lemmas.Grind.{common_steps}
use Rattle.std.proofs.lemmas.Bool.{cond-true}
use Rattle.solver.specs.Answers.{fits}
use Rattle.masks.specs.Masks.{mask_of}
use Rattle.storage.specs.Stored.{Stored, Within}
use Rattle.storage.proofs.Pieces.{no_room, held_size, held_within, held_more}
use Rattle.storage.proofs.storage.Storage.add.Goals as goal

pub returns-then-clause-self-clause-test : goal.returns-then-clause-self-clause-test
returns-then-clause-self-clause-test c =
    sym (no_room c.self.inside c.self.invariant c.args.clause.now (omega arith)) ∙ ap (λ (v : Stored). fits v.held c.args.clause.now v.capacity) c.self.view_is

pub invariant_of-self : goal.invariant_of-self
invariant_of-self c =
    let ok : is_ok c.extend_from_slice.result ≡ true = c.extend_from_slice.ensures.succeeds (omega arith) in
    let items = c.extend_from_slice.ensures.items ∙ cond-true _ _ _ ok in
    let len = c.extend_from_slice.ensures.len ∙ cond-true _ _ _ ok in
    let held = held_more c.self.inside c.self.invariant c.args.clause.now _ _ c.push_reserved.ensures.items items in
    let w = c.self.invariant.whole in
    let total = ap sum c.push_reserved.ensures.items ∙ sum_by_push (λ x. x) (vec_items c.self.inside.lengths) (length c.args.clause.now) in
    record {
      whole = omega arith;
      paired = omega arith;
      masked = c.push_reserved-2.ensures.items ∙ ap₂ (λ ms m. ms ++ m ∷ []) c.self.invariant.masked c.from-mask.ensures ∙ sym (map_push mask_of _ _) ∙ ap (map mask_of) (sym held);
      clauses_within = omega arith;
      literals_within = omega arith;
      masks_reserved = omega arith;
      lengths_reserved = omega arith;
      literals_reserved = omega arith;
    }

pub returns-clause-test : goal.returns-clause-test
returns-clause-test c = grind (arith, common_steps, held_size c.self.inside c.self.invariant)

pub returns-clause-held : goal.returns-clause-held
returns-clause-held c =
    let ok : is_ok c.extend_from_slice.result ≡ true = c.extend_from_slice.ensures.succeeds (omega arith) in
    held_more c.self.inside c.self.invariant c.args.clause.now _ _ c.push_reserved.ensures.items (c.extend_from_slice.ensures.items ∙ cond-true _ _ _ ok)
    ∙ ap (λ (v : Stored). v.held ++ c.args.clause.now ∷ []) c.self.view_is

pub returns-then-len-self-clause-within : goal.returns-then-len-self-clause-within
returns-then-len-self-clause-within c = subst Within c.self.view_is (held_within c.self.inside c.self.invariant)

pub returns-then-clause-self-clause-within : goal.returns-then-clause-self-clause-within
returns-then-clause-self-clause-within c = subst Within c.self.view_is (held_within c.self.inside c.self.invariant)

pub returns-clause-within : goal.returns-clause-within
returns-clause-within c = held_within _ (invariant_of-self c)
