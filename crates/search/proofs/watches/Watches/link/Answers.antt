use Rattle.std.proofs.Common.{◌≡◌, ◌<◌, length, get_or, set, Some, None, ap, subst₂, sym, ◌∙◌, vec_items, arith}
use Rattle.std.proofs.lemmas.List.{length-set, get_or-set_same, get_or-set_other}
use Rattle.search.specs.declared.watches.Link.{Link}
use Rattle.search.specs.Chains.{head_of, Linked}
use Rattle.search.proofs.Chains.{linked_push}
use Rattle.search.proofs.watches.Watches.link.Goals as goal

pub invariant_of-self : goal.invariant_of-self
invariant_of-self c =
    let s = c.args.self.now in
    let r = c.from-head.result in
    let o = Some c.len-place.result in
    let k : Link = record { clause = c.args.clause; literal = c.args.literal; next = get_or c.deref.result.now r None } in
    let e : r ≡ c.args.literal = c.from-head.ensures in
    let within : r < length s.heads.value = omega (arith, s.wide) in
    let place : c.len-place.result ≡ length (vec_items s.links) = omega (arith, s.links.ok.0) in
    let linked : Linked (set s.heads.value r o) _ =
    linked_push (vec_items s.links) k s.heads.value (set s.heads.value r o) (ap (λ hs. get_or hs r None) c.deref.ensures ∙ ap (head_of s.heads.value) e)
    (ap (head_of (set s.heads.value r o)) (sym e) ∙ get_or-set_same s.heads.value r o None within ∙ ap (λ x. Some x) place)
    (λ l n. get_or-set_other s.heads.value r l o None (λ f. n (f ∙ e))) s.linked in
    record {
      wide = length-set c.deref_mut.result.now r o ∙ ap length c.deref_mut.ensures.value ∙ s.wide;
      linked = subst₂ (λ hs ls. Linked (set hs r o) ls) (sym c.deref_mut.ensures.value) (sym c.push_reserved.ensures.items) linked;
    }
