-- The rules of entries, place by place: which entries keep them, and that they stay kept with more entries behind. Assumes nothing.
use Rattle.std.proofs.Common.{◌≡◌, ℕ, zero, suc, ◌+◌, ◌-◌, ◌/◌, ◌^◌, ◌<◌, ◌≤◌, Bool, true, false, cond, not, ◌&&◌, T, List, [], ◌∷◌, ◌++◌, length, get_or, None, sym, refl, subst, inl, inr, arith, nat_lt, nat_le, length-append}
use Rattle.std.proofs.lemmas.Bool.{cases_lt, lt-ltb, ltb-true, eq-eqb}
use Rattle.std.proofs.lemmas.List.{get_or_append_left, get_or-append_right}
use Rattle.system.specs.Literals.{bit, clause, Member}
use Rattle.system.specs.Systems.{System, OverRelays}
use Rattle.system.specs.Spelling.{literal_of}
use Rattle.system.proofs.Truth.{T_of, T_true, and_l, and_r, and_i, or_l, or_e, member_all}
use Rattle.system.proofs.Spelled.{literal_of_half}
use Rattle.faults.specs.Firsts.{unmet}
use Rattle.faults.proofs.Firsts.{or_none, unmet_none}
use Rattle.faults.specs.declared.work.WorkFault.TheVariants.{AgainstRules}
use Rattle.books.specs.Entries.{blank, entry_of, subgoal, has_literal}
use Rattle.books.specs.Books.{subgoal_at, clause_rule, rule_as, rule, against, Ruled}
use Rattle.books.specs.Targets.{aimed}
use Rattle.books.specs.declared.entry.Entry.{Entry}
use Rattle.books.specs.declared.entry.Kind.{Kind}
use Rattle.books.specs.declared.entry.Kind.TheVariants.{Blank, Found, Subgoal, Taken}
use Rattle.books.proofs.Binary.{number_low, number_within}
use Rattle.books.proofs.Entries.{member_at, at_member, subgoal_at_below, subgoal_at_append}
use Rattle.books.proofs.Meanings.{contains_member, occurs}

-- every entry keeps the rule of its place
abbrev pub EachRuled : System → List Entry → Type 0
EachRuled c es = (j : ℕ) → j < length es → T (rule c es j (get_or es j blank))

module _ (c : System) (es : List Entry) where
  each_from : (i : ℕ) (rest : List Entry) → against c es i rest ≡ None → (j : ℕ) → j < length rest → T (rule c es (i + j) (get_or rest j blank))
  each_from i [] h j l = absurd (let z : ⊥ = omega arith in z)
  each_from i (e ∷ rest) h zero l =
      let p = or_none (unmet (rule c es i e) (AgainstRules i)) (against c es (suc i) rest) h in
      subst (λ k. T (rule c es k e)) (let z : i ≡ i + 0 = omega arith in z) (T_of (unmet_none (rule c es i e) (AgainstRules i) p.0))
  each_from i (e ∷ rest) h (suc j) l =
      let p = or_none (unmet (rule c es i e) (AgainstRules i)) (against c es (suc i) rest) h in
      subst (λ k. T (rule c es k (get_or rest j blank))) (let z : suc i + j ≡ i + suc j = omega arith in z) (each_from (suc i) rest p.1 j (omega arith))

  none_from : (i : ℕ) (rest : List Entry) → ((j : ℕ) → j < length rest → T (rule c es (i + j) (get_or rest j blank))) → against c es i rest ≡ None
  none_from i [] h = refl
  none_from i (e ∷ rest) h =
      rw (T_true (rule c es i e) (subst (λ k. T (rule c es k e)) (let z : i + 0 ≡ i = omega arith in z) (h 0 (omega arith))))
      (none_from (suc i) rest (λ j l. subst (λ k. T (rule c es k (get_or rest j blank))) (let z : i + suc j ≡ suc i + j = omega arith in z) (h (suc j) (omega arith))))

  pub ruled_each : Ruled c es → EachRuled c es
  ruled_each h j l = subst (λ k. T (rule c es k (get_or es j blank))) (let z : 0 + j ≡ j = omega arith in z) (each_from 0 es h j l)

  pub each_ruled : EachRuled c es → Ruled c es
  each_ruled h = none_from 0 es (λ j l. subst (λ k. T (rule c es k (get_or es j blank))) (let z : j ≡ 0 + j = omega arith in z) (h j l))

  pub member_rule : Ruled c es → (e : Entry) → Member e es → (j : ℕ) × T (rule c es j e)
  member_rule h e m = let r = member_at es e blank m in (r.0, subst (λ (x : Entry). T (rule c es r.0 x)) r.2 (ruled_each h r.0 r.1))

-- a clause's relays and a subgoal's state are numbers below
pub rule_low : (k : Kind) (c : System) (es : List Entry) (j : ℕ) (e : Entry) → T (rule_as k c es j e) → e.first < 2 ^ c.n
rule_low k c es j e t = ltb-true e.first (2 ^ c.n) (T_true (nat_lt e.first (2 ^ c.n)) (go k t))
  where
    go : (k : Kind) → T (rule_as k c es j e) → T (nat_lt e.first (2 ^ c.n))
    go Blank t = absurd t
    go Found t = and_l _ _ (and_l _ _ t)
    go Subgoal t = and_l _ _ (and_l _ _ t)
    go Taken t = and_l _ _ (and_l _ _ t)

-- a rule stays with more entries behind, and at a later place
pub rule_more : (k : Kind) (c : System) (es new : List Entry) (j i : ℕ) (e : Entry) → j ≤ i → T (rule_as k c es j e) → T (rule_as k c (es ++ new) i e)
rule_more Blank c es new j i e l t = t
rule_more Found c es new j i e l t = t
rule_more Taken c es new j i e l t = t
rule_more Subgoal c es new j i e l t = and_i (nat_lt e.first (2 ^ c.n) && nat_lt e.second (2 ^ c.n)) _ (and_l _ _ t) (go (nat_lt e.third (length c.safety)) (and_r (nat_lt e.first (2 ^ c.n) && nat_lt e.second (2 ^ c.n)) _ t))
  where
    go : (b : Bool) → T (cond b true (nat_le 256 e.third && nat_lt (e.third - 256) j && subgoal_at es (e.third - 256) e.second)) → T (cond b true (nat_le 256 e.third && nat_lt (e.third - 256) i && subgoal_at (es ++ new) (e.third - 256) e.second))
    go true h = tt
    go false h =
        let k = e.third - 256 in
        let early = and_l (nat_le 256 e.third && nat_lt k j) (subgoal_at es k e.second) h in
        let below = ltb-true k j (T_true (nat_lt k j) (and_r (nat_le 256 e.third) (nat_lt k j) early)) in
        and_i (nat_le 256 e.third && nat_lt k i) (subgoal_at (es ++ new) k e.second)
        (and_i (nat_le 256 e.third) (nat_lt k i) (and_l (nat_le 256 e.third) (nat_lt k j) early) (T_of (lt-ltb k i (omega arith))))
        (subgoal_at_append es new k e.second (and_r (nat_le 256 e.third && nat_lt k j) (subgoal_at es k e.second) h))

-- entries that keep the rules behind those that keep them
pub ruled_append : (c : System) (es new : List Entry) → Ruled c es → ((e : Entry) → Member e new → T (rule c es (length es) e)) → Ruled c (es ++ new)
ruled_append c es new old h = each_ruled c (es ++ new) (λ j low.
    elim (cases_lt j (length es)) [
      | inl l ↦ subst (λ (e : Entry). T (rule c (es ++ new) j e)) (sym (get_or_append_left es new blank j l)) (rule_more _ c es new j j _ (omega arith) (ruled_each c es old j l))
      | inr g ↦ (let n = length-append es new in let m = at_member new blank (j - length es) (omega arith) in subst (λ (e : Entry). T (rule c (es ++ new) j e)) (sym (get_or-append_right es new (length es) j blank refl g)) (rule_more _ c es new (length es) j _ g (h _ m)))
    ])

-- the entry of a clause over the relays keeps the rule of a clause
pub clause_ruled : (c : System) (k : Kind) (d : List ℕ) → OverRelays c.n d → T (clause_rule c (entry_of k d))
clause_ruled c k d over =
    and_i _ true
    (and_i (nat_lt (entry_of k d).first (2 ^ c.n)) _
    (T_of (lt-ltb (entry_of k d).first (2 ^ c.n) (number_low 32 c.n (occurs d) (λ i l t. elim (or_e _ _ t) [ inl h ↦ within i true h | inr h ↦ within i false h ]))))
    (T_of (eq-eqb _ _ (number_within 32 (occurs d) (λ i. has_literal d (literal_of i true)) (λ i t. or_l _ _ t)))))
    tt
  where
    within : (i : ℕ) (b : Bool) → T (has_literal d (literal_of i b)) → i < c.n
    within i b t = subst (λ z. z < c.n) (literal_of_half i b) (member_all (λ l. l / 2 < c.n) d (literal_of i b) over (contains_member d (literal_of i b) t))

-- and the entry of a state before a target that of a subgoal behind the entries
pub subgoal_ruled : (c : System) (es : List Entry) (k s t : ℕ) → s < 2 ^ c.n → t < 2 ^ c.n → T (aimed c es k t) → T (rule c es (length es) (subgoal s t k))
subgoal_ruled c es k s t low next h =
    and_i (nat_lt s (2 ^ c.n) && nat_lt t (2 ^ c.n)) _ (and_i (nat_lt s (2 ^ c.n)) (nat_lt t (2 ^ c.n)) (T_of (lt-ltb s (2 ^ c.n) low)) (T_of (lt-ltb t (2 ^ c.n) next))) (go (nat_lt k (length c.safety)) h)
  where
    go : (b : Bool) → T (cond b (not (clause (bit t) (get_or c.safety k []))) (nat_le 256 k && subgoal_at es (k - 256) t)) → T (cond b true (nat_le 256 k && nat_lt (k - 256) (length es) && subgoal_at es (k - 256) t))
    go true h = tt
    go false h =
        let at = and_r (nat_le 256 k) (subgoal_at es (k - 256) t) h in
        and_i (nat_le 256 k && nat_lt (k - 256) (length es)) (subgoal_at es (k - 256) t)
        (and_i (nat_le 256 k) (nat_lt (k - 256) (length es)) (and_l (nat_le 256 k) (subgoal_at es (k - 256) t) h) (T_of (lt-ltb (k - 256) (length es) (subgoal_at_below es (k - 256) t at))))
        at
