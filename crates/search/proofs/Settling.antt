-- Clauses that are settled by decisions, and the literals that these leave behind. Assumes nothing.
use Rattle.std.proofs.Common.{◌≡◌, ℕ, ◌+◌, ◌/◌, ◌%◌, ◌^◌, ◌<◌, ◌≤◌, Bool, true, false, not, cond, ◌&&◌, ◌||◌, nat_lt, List, [], ◌∷◌, ◌++◌, length, get_or, refl, sym, ap, ◌∙◌, subst, inl, inr, arith}
use Rattle.std.proofs.lemmas.Bool.{cases_eq, eqb-true, or_cases, or_right, and_parts, not-true}
use Rattle.std.proofs.lemmas.List.{get_or_append_left, get_or_default, length-append}
use Rattle.system.specs.Literals.{bit}
use Rattle.system.specs.Spelling.{literal_of}
use Rattle.system.proofs.Bits.{bit_none, bit_pow}
use Rattle.masks.specs.Masks.{inside}
use Rattle.masks.specs.Standings.{Unassigned, Stands, TwoOpen}
use Rattle.masks.specs.declared.mask.ClauseMask.{ClauseMask}
use Rattle.masks.specs.declared.mask.Standing.{Standing}
use Rattle.masks.specs.declared.mask.Standing.TheVariants.{True, Open, Forces, False}
use Rattle.masks.proofs.Sets.{clash, in_variables, not_in_variables}
use Rattle.trail.specs.Decisions.{has, Spells}
use Rattle.trail.specs.declared.decision.Decision.{Decision}
use Rattle.trail.proofs.Deciding.{gives, gives_own, has_push, has_at}
use Rattle.search.specs.Chains.{link_at, beside, partner_of}
use Rattle.search.specs.Looks.{Settled, Settles, NoneBehind}
use Rattle.search.specs.Searches.{Extends, Brings}
use Rattle.search.specs.Watched.{Moves, Advanced}
use Rattle.search.specs.declared.watches.Link.{Link}

-- a test that is not passed for want of one part
not_false : (a b c : Bool) → a ≡ false → a ≡ (b && not c) → b ≡ true → c ≡ true
not_false a true true e f g = refl
not_false a true false e f g = cc
not_false a false c e f g = cc

-- what decisions make true stays so
has_append : (ds more : List Decision) (j : ℕ) (b : Bool) → has ds j b ≡ true → has (ds ++ more) j b ≡ true
has_append [] more j b h = cc
has_append (d ∷ ds) more j b h =
    elim (or_cases (gives d j b) (has ds j b) h) [
      | inl g ↦ ap (λ x. x || has (ds ++ more) j b) g
      | inr r ↦ or_right (gives d j b) (has (ds ++ more) j b) (has_append ds more j b r)
    ]

pub has_more : (ds es : List Decision) (j : ℕ) (b : Bool) → Extends ds es → has ds j b ≡ true → has es j b ≡ true
has_more ds es j b (more, e) h = ap (λ xs. has xs j b) e ∙ has_append ds more j b h

pub settled_later : (m : ClauseMask) (ds es : List Decision) → Extends ds es → Settled m ds → Settled m es
settled_later m ds es e (inl (j, b, i, h)) = inl (j, b, i, has_more ds es j b e h)
settled_later m ds es e (inr t) = inr t

-- a literal is of one variable
literal_variable : (v w : ℕ) (b c : Bool) → literal_of v b ≡ literal_of w c → v ≡ w
literal_variable v w true true e = omega arith
literal_variable v w true false e = omega arith
literal_variable v w false true e = omega arith
literal_variable v w false false e = omega arith

-- the partner is one variable at most
one_bit : (k i j : ℕ) (c : Bool) → bit (cond c (2 ^ k) 0) i ≡ true → bit (cond c (2 ^ k) 0) j ≡ true → i ≡ j
one_bit k i j true f g = eqb-true i k (sym (bit_pow k i) ∙ f) ∙ sym (eqb-true j k (sym (bit_pow k j) ∙ g))
one_bit k i j false f g = clash (bit 0 i) f (bit_none i)

pub one_partner : (links : List Link) (p i j : ℕ) → bit (partner_of links p) i ≡ true → bit (partner_of links p) j ≡ true → i ≡ j
one_partner links p i j f g = one_bit ((link_at links (beside p)).literal / 2 % 128) i j (nat_lt (beside p) (length links)) f g

-- a clause that is open, whose link moved, by the decisions es
module _ (m known : ClauseMask) (es : List Decision) (spelled : Spells known es) (x partner l : ℕ) (v : ℕ) (b : Bool) where
  unvalued : ((j : ℕ) → bit x j ≡ (inside known j true || inside known j false)) → (j : ℕ) → Unassigned known j → bit x j ≡ false
  unvalued is j f = is j ∙ ap (λ c. c || inside known j false) (f true) ∙ f false

  -- where no variable is free but the partner's, its two open literals are of one variable
  both_signs : ((j : ℕ) → bit x j ≡ (inside known j true || inside known j false)) → TwoOpen m known → ((i j : ℕ) → bit partner i ≡ true → bit partner j ≡ true → i ≡ j)
      → (mv : Moves m x partner l) → mv.rest ≡ 0 → (j : ℕ) × (inside m j true ≡ true) × (inside m j false ≡ true)
  both_signs is t one mv z = go t.one_sign t.other_sign t.one_inside (subst (λ j. inside m j t.other_sign ≡ true) (sym same) t.other_inside) (t.different same)
    where
      own : (j : ℕ) (c : Bool) → inside m j c ≡ true → Unassigned known j → bit partner j ≡ true
      own j c i f =
          not_false (bit mv.rest j) (bit mv.free j) (bit partner j) (ap (λ y. bit y j) z ∙ bit_none j) (mv.others j)
          (mv.is j ∙ ap (λ y. y && not (bit x j)) (in_variables m j c i) ∙ ap not (unvalued is j f))

      same : t.one ≡ t.other
      same = one t.one t.other (own t.one t.one_sign t.one_inside t.one_open) (own t.other t.other_sign t.other_inside t.other_open)

      go : (c d : Bool) → inside m t.one c ≡ true → inside m t.one d ≡ true → (c ≡ d → ⊥) → (j : ℕ) × (inside m j true ≡ true) × (inside m j false ≡ true)
      go true true i k n = absurd (n refl)
      go true false i k n = (t.one, i, k)
      go false true i k n = (t.one, k, i)
      go false false i k n = absurd (n refl)

  -- and else the link comes to be of a variable that has no value
  moved_free : ((j : ℕ) → bit x j ≡ (inside known j true || inside known j false)) → (mv : Moves m x partner l) → (mv.rest ≡ 0 → ⊥) → has es v b ≡ true → l ≡ literal_of v (not b) → ⊥
  moved_free is mv n h e =
      let j = mv.other in
      let parts = and_parts (bit mv.free j) (not (bit partner j)) (sym (mv.others j) ∙ mv.highest.is (omega arith)) in
      let more = and_parts (inside m j true || inside m j false) (not (bit x j)) (sym (mv.is j) ∙ parts.0) in
      let none : (inside known j true || inside known j false) ≡ false = sym (is j) ∙ not-true (bit x j) more.1 in
      let same : mv.other % 128 ≡ v = literal_variable (mv.other % 128) v (inside m (mv.other % 128) true) (not b) (sym mv.literal ∙ e) in
      let small = mv.small in
      let at : j ≡ v = omega arith in
      clash (has es v b) h (ap (λ i. has es i b) (sym at) ∙ sym (spelled j b) ∙ not_in_variables known j none b)

  pub open_settled : ((j : ℕ) → bit x j ≡ (inside known j true || inside known j false)) → TwoOpen m known → ((i j : ℕ) → bit partner i ≡ true → bit partner j ≡ true → i ≡ j)
      → Moves m x partner l → has es v b ≡ true → l ≡ literal_of v (not b) → Settled m es
  open_settled is t one mv h e =
      elim (cases_eq mv.rest 0) [ inl z ↦ inr (both_signs is t one mv z) | inr n ↦ absurd (moved_free is mv n h e) ]

-- a clause that was looked at is settled where its link is, afterwards, of a literal that is false
pub looked_settled : (m known : ClauseMask) (es fs : List Decision) (s : Standing) (after : ClauseMask) (x partner was l v : ℕ) (b : Bool)
    → Spells known es → Stands m known s → Brings m es s fs → (s ≡ False → ⊥) → Spells after fs → ((j : ℕ) → bit x j ≡ (inside after j true || inside after j false))
    → ((i j : ℕ) → bit partner i ≡ true → bit partner j ≡ true → i ≡ j) → Advanced m x partner s was l → has fs v b ≡ true → l ≡ literal_of v (not b) → Settled m fs
looked_settled m known es fs True after x partner was l v b spelled (j, c, i, k) brings not_all later is one adv h e =
    inl (j, c, i, ap (λ ds. has ds j c) brings ∙ sym (spelled j c) ∙ k)
looked_settled m known es fs Open after x partner was l v b spelled stands brings not_all later is one adv h e =
    let same = λ (j : ℕ) (c : Bool). later j c ∙ ap (λ ds. has ds j c) brings ∙ sym (spelled j c) in
    let t = stands.1 in
    open_settled m after fs later x partner l v b is (record {
      one = t.one;
      one_sign = t.one_sign;
      one_inside = t.one_inside;
      one_open = λ c. same t.one c ∙ t.one_open c;
      other = t.other;
      other_sign = t.other_sign;
      other_inside = t.other_inside;
      other_open = λ c. same t.other c ∙ t.other_open c;
      different = t.different;
    }) one adv h e
looked_settled m known es fs (Forces k) after x partner was l v b spelled stands made not_all later is one adv h e =
    let own : gives made.made k.variable k.value ≡ true = subst (λ y. gives made.made k.variable y ≡ true) made.value (subst (λ y. gives made.made y made.made.value ≡ true) made.variable (gives_own made.made)) in
    inl (
      k.variable,
      k.value,
      stands.1,
      ap (λ ds. has ds k.variable k.value) made.is ∙ has_push es made.made k.variable k.value ∙ or_right (has es k.variable k.value) (gives made.made k.variable k.value) own,
    )
looked_settled m known es fs False after x partner was l v b spelled stands brings not_all later is one adv h e = absurd (not_all refl)

-- the decisions that there were stay where they are
entry_later : (ds es : List Decision) (j : ℕ) (d : Decision) → Extends ds es → j < length ds → get_or es j d ≡ get_or ds j d
entry_later ds es j d (more, e) h = ap (λ xs. get_or xs j d) e ∙ get_or_append_left ds more d j h

-- with more decisions no more literals are left behind by those that there were
pub behind_later : (links : List Link) (ms : List ClauseMask) (ds es : List Decision) (a b c : ℕ) → Extends ds es → b ≤ c → b ≤ length ds
    → NoneBehind links ms ds a c → NoneBehind links ms es a b
behind_later links ms ds es a b c more h g none j q d m low high in_links e =
    let same = entry_later ds es j d more (omega arith) in
    settled_later (get_or ms (link_at links q).clause m) ds es more
    (none j q d m low (omega arith) in_links (e ∙ ap (λ x. literal_of x.variable (not x.value)) same))

-- once the links of the literal that the decision at k makes false were followed, it leaves none behind
pub behind_next : (was now : List Link) (ms : List ClauseMask) (ds es fs : List Decision) (a b c k l : ℕ) (d : Decision)
    → NoneBehind was ms ds a c → k ≤ c → k < length ds → b ≤ k + 1 → d ≡ get_or ds k d → l ≡ literal_of d.variable (not d.value)
    → Extends ds es → Extends es fs → Settles was now l ms es fs → length now ≡ length was → ((q : ℕ) → (link_at now q).clause ≡ (link_at was q).clause)
    → NoneBehind now ms fs a b
behind_next was now ms ds es fs a b c k l d none kc kd bk is li more later settles many clauses j q x m low high in_links e =
    let long : length ds ≤ length es = let (n, f) = more in let g = ap length f in let h = length-append ds n in omega arith in
    let one = entry_later ds es j x more (omega arith) in
    let two = entry_later es fs j x later (omega arith) in
    let here : (link_at now q).literal ≡ literal_of (get_or ds j x).variable (not (get_or ds j x).value) =
    e ∙ ap (λ (z : Decision). literal_of z.variable (not z.value)) (two ∙ one) in
    let held = has_more ds es (get_or ds j x).variable (get_or ds j x).value more (has_at ds j x (omega arith)) in
    elim (settles q (get_or ds j x).variable (get_or ds j x).value m in_links held here) [
      | inl s ↦ s
      | inr o ↦ elim (cases_eq j k) [
        | inl f ↦
            let g : get_or ds j x ≡ d = ap (λ i. get_or ds i x) f ∙ get_or_default ds k x d kd ∙ sym is in
            absurd (o.1 (here ∙ ap (λ (z : Decision). literal_of z.variable (not z.value)) g ∙ sym li))
        | inr f ↦
            let s = none j q x m low (omega arith) (omega arith) (o.0 ∙ here) in
            subst (λ i. Settled (get_or ms i m) fs) (sym (clauses q))
            (settled_later (get_or ms (link_at was q).clause m) es fs later (settled_later (get_or ms (link_at was q).clause m) ds es more s))
      ]
    ]
