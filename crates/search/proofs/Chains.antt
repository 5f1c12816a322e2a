-- What becomes of the chains of links when a link is added or moved. Assumes nothing.
use Rattle.std.proofs.Common.{◌≡◌, ◌≢◌, ℕ, zero, suc, ◌+◌, ◌<◌, ◌≤◌, Bool, true, false, ◌&&◌, cond, eqb, ltb, ◌⊎◌, List, [], ◌∷◌, ◌++◌, length, get_or, set, Option, Some, None, refl, sym, ap, ◌∙◌, subst, inl, inr, arith}
use Rattle.std.proofs.lemmas.Bool.{cases_eq, cases_lt, eqb-true, ltb-true, eq-eqb, ne_eqb, lt-ltb, and_from, and_parts}
use Rattle.std.proofs.lemmas.List.{get_or_append_left, get_or_push, length_push, get_or-set_same, get_or-set_other, get_or_default, length-set}
use Rattle.search.specs.declared.watches.Cursor.{Cursor}
use Rattle.search.specs.declared.watches.Link.{Link}
use Rattle.search.specs.Chains.{link_at, head_of, tally, owned, Runs, Chain, places, Linked, onto, first_of, At, Unlinked, Moved}

-- how often a place comes
pub tally_same : (p q : ℕ) (qs : List ℕ) → p ≡ q → tally p (q ∷ qs) ≡ 1 + tally p qs
tally_same p q qs e = ap (λ b. cond b 1 0 + tally p qs) (eq-eqb p q e)

pub tally_other : (p q : ℕ) (qs : List ℕ) → p ≢ q → tally p (q ∷ qs) ≡ tally p qs
tally_other p q qs n = let e : tally p (q ∷ qs) ≡ 0 + tally p qs = ap (λ b. cond b 1 0 + tally p qs) (ne_eqb p q n) in omega arith

pub tally_tail : (p q : ℕ) (qs : List ℕ) → tally p qs ≤ tally p (q ∷ qs)
tally_tail p q qs = omega arith

pub tally_onto : (p : ℕ) (front rest : List ℕ) → tally p (onto front rest) ≡ tally p front + tally p rest
tally_onto p [] rest = omega arith
tally_onto p (b ∷ front) rest = let e = tally_onto p front (b ∷ rest) in omega arith

-- what the table owns
pub owned_in : (ls : List Link) (l p : ℕ) → 0 < owned ls l p → (p < length ls) × ((link_at ls p).literal ≡ l)
owned_in ls l p h = go (ltb p (length ls) && eqb (link_at ls p).literal l) refl h
  where
    go : (b : Bool) → (ltb p (length ls) && eqb (link_at ls p).literal l) ≡ b → 0 < cond b 1 0 → (p < length ls) × ((link_at ls p).literal ≡ l)
    go true e h = let t = and_parts _ _ e in (ltb-true _ _ t.0, eqb-true _ _ t.1)
    go false e h = absurd (let f : ⊥ = omega arith in f)

pub owned_yes : (ls : List Link) (l p : ℕ) → p < length ls → (link_at ls p).literal ≡ l → owned ls l p ≡ 1
owned_yes ls l p h e = ap (λ b. cond b 1 0) (and_from _ _ (lt-ltb p (length ls) h) (eq-eqb _ _ e))

pub owned_none : (ls : List Link) (l p : ℕ) → ((p < length ls) → (link_at ls p).literal ≡ l → ⊥) → owned ls l p ≡ 0
owned_none ls l p n = go (owned ls l p) refl
  where
    go : (k : ℕ) → owned ls l p ≡ k → owned ls l p ≡ 0
    go zero e = e
    go (suc k) e = let o = owned_in ls l p (omega arith) in absurd (n o.0 o.1)

pub owned_at_most : (ls : List Link) (l p : ℕ) → owned ls l p ≤ 1
owned_at_most ls l p = go (ltb p (length ls) && eqb (link_at ls p).literal l)
  where
    go : (b : Bool) → cond b 1 0 ≤ 1
    go true = omega arith
    go false = omega arith

pub owned_stays : (ls ks : List Link) (l p : ℕ) → length ks ≡ length ls → (link_at ks p).literal ≡ (link_at ls p).literal → owned ks l p ≡ owned ls l p
owned_stays ls ks l p e f = ap (λ n. cond (ltb p n && eqb (link_at ks p).literal l) 1 0) e ∙ ap (λ k. cond (ltb p (length ls) && eqb k l) 1 0) f

-- a run stays where the links of its places have the same next
pub runs_stay : (ls ks : List Link) (first : Option ℕ) (qs : List ℕ) → ((q : ℕ) → 0 < tally q qs → (link_at ks q).next ≡ (link_at ls q).next) → Runs ls first qs → Runs ks first qs
runs_stay ls ks first [] same r = r
runs_stay ls ks first (q ∷ qs) same r =
    let e = tally_same q q qs refl in
    let after : Runs ks (link_at ls q).next qs = runs_stay ls ks (link_at ls q).next qs (λ p h. same p (let t = tally_tail p q qs in omega arith)) r.1 in
    (r.0, subst (λ o. Runs ks o qs) (sym (same q (omega arith))) after)

-- and so it does behind a front of such places
pub runs_behind : (ls ks : List Link) (first : Option ℕ) (front xs ys : List ℕ)
    → ((q : ℕ) → 0 < tally q front → (link_at ks q).next ≡ (link_at ls q).next)
    → ((o : Option ℕ) → Runs ls o xs → Runs ks o ys) → Runs ls first (onto front xs) → Runs ks first (onto front ys)
runs_behind ls ks first [] xs ys same turn r = turn first r
runs_behind ls ks first (b ∷ front) xs ys same turn r =
    runs_behind ls ks first front (b ∷ xs) (b ∷ ys) (λ q h. same q (let t = tally_tail q b front in omega arith))
    (λ o p. (p.0, subst (λ n. Runs ks n ys) (sym (same b (let e = tally_same b b front refl in omega arith))) (turn (link_at ls b).next p.1))) r

-- where the run goes on behind a front
pub runs_from : (ls : List Link) (first : Option ℕ) (front : List ℕ) (q : ℕ) (rest : List ℕ) → Runs ls first (onto front (q ∷ rest)) → Runs ls (link_at ls q).next rest
runs_from ls first [] q rest r = r.1
runs_from ls first (b ∷ front) q rest r = (runs_from ls first front b (q ∷ rest) r).1

pub runs_first : (ls : List Link) (first : Option ℕ) (qs : List ℕ) → Runs ls first qs → first ≡ first_of qs
runs_first ls first [] r = r
runs_first ls first (q ∷ qs) r = r.0

-- numbers below n, none of them twice, are at most n
without : ℕ → List ℕ → List ℕ
without n [] = []
without n (q ∷ qs) = cond (eqb n q) (without n qs) (q ∷ without n qs)

without_other : (n p : ℕ) (qs : List ℕ) → (p ≡ n → ⊥) → tally p (without n qs) ≡ tally p qs
unfolding without
without_other n p [] d = refl
without_other n p (q ∷ qs) d = go (without_other n p qs d) (cases_eq n q)
  where
    go : tally p (without n qs) ≡ tally p qs → (n ≡ q) ⊎ (n ≡ q → ⊥) → tally p (without n (q ∷ qs)) ≡ tally p (q ∷ qs)
    go h (inl e) = ap (λ b. tally p (cond b (without n qs) (q ∷ without n qs))) (eq-eqb n q e) ∙ h ∙ sym (tally_other p q qs (λ f. d (f ∙ sym e)))
    go h (inr m) = ap (λ b. tally p (cond b (without n qs) (q ∷ without n qs))) (ne_eqb n q m) ∙ ap (λ k. cond (eqb p q) 1 0 + k) h

without_gone : (n : ℕ) (qs : List ℕ) → tally n (without n qs) ≡ 0
unfolding without
without_gone n [] = refl
without_gone n (q ∷ qs) = go (without_gone n qs) (cases_eq n q)
  where
    go : tally n (without n qs) ≡ 0 → (n ≡ q) ⊎ (n ≡ q → ⊥) → tally n (without n (q ∷ qs)) ≡ 0
    go h (inl e) = ap (λ b. tally n (cond b (without n qs) (q ∷ without n qs))) (eq-eqb n q e) ∙ h
    go h (inr m) = ap (λ b. tally n (cond b (without n qs) (q ∷ without n qs))) (ne_eqb n q m) ∙ tally_other n q (without n qs) m ∙ h

length_without : (n : ℕ) (qs : List ℕ) → length qs ≡ tally n qs + length (without n qs)
unfolding without
length_without n [] = refl
length_without n (q ∷ qs) = go (length_without n qs) (cases_eq n q)
  where
    go : length qs ≡ tally n qs + length (without n qs) → (n ≡ q) ⊎ (n ≡ q → ⊥) → length (q ∷ qs) ≡ tally n (q ∷ qs) + length (without n (q ∷ qs))
    go a (inl e) =
        let b : length (without n (q ∷ qs)) ≡ length (without n qs) = ap (λ b. length (cond b (without n qs) (q ∷ without n qs))) (eq-eqb n q e) in
        let c = tally_same n q qs e in
        omega arith
    go a (inr m) =
        let b : length (without n (q ∷ qs)) ≡ suc (length (without n qs)) = ap (λ b. length (cond b (without n qs) (q ∷ without n qs))) (ne_eqb n q m) in
        let c = tally_other n q qs m in
        omega arith

none_is_empty : (qs : List ℕ) → ((p : ℕ) → tally p qs ≡ 0) → length qs ≡ 0
none_is_empty [] h = refl
none_is_empty (q ∷ qs) h = let a = h q in let b = tally_same q q qs refl in omega arith

few : (n : ℕ) (qs : List ℕ) → ((p : ℕ) → tally p qs ≤ 1) → ((p : ℕ) → n ≤ p → tally p qs ≡ 0) → length qs ≤ n
few zero qs once none = let e = none_is_empty qs (λ p. none p (omega arith)) in omega arith
few (suc n) qs once none =
    let l = length_without n qs in
    let a = once n in
    let b = few n (without n qs) (λ p. at_most p (cases_eq p n)) (λ p h. gone p h (cases_eq p n)) in
    omega arith
  where
    at_most : (p : ℕ) → (p ≡ n) ⊎ (p ≡ n → ⊥) → tally p (without n qs) ≤ 1
    at_most p (inl e) = let g : tally p (without n qs) ≡ 0 = ap (λ k. tally k (without n qs)) e ∙ without_gone n qs in omega arith
    at_most p (inr d) = let g = without_other n p qs d in let o = once p in omega arith

    gone : (p : ℕ) → n ≤ p → (p ≡ n) ⊎ (p ≡ n → ⊥) → tally p (without n qs) ≡ 0
    gone p h (inl e) = ap (λ k. tally k (without n qs)) e ∙ without_gone n qs
    gone p h (inr d) = let g = without_other n p qs d in let o = none p (omega arith) in omega arith

-- a chain has no more places than the table
pub chain_length : (ls : List Link) (l : ℕ) (first : Option ℕ) (qs : List ℕ) → Chain ls l first qs → length qs ≤ length ls
chain_length ls l first qs c =
    few (length ls) qs (λ p. let o = c.once p in let a = owned_at_most ls l p in omega arith) (λ p h. c.once p ∙ owned_none ls l p (λ g e. omega arith))

-- what the places are that are come to along a run
places_are : (ls : List Link) (n : ℕ) (first : Option ℕ) (qs : List ℕ) → Runs ls first qs → length qs ≤ n → places ls n first ≡ qs
places_are ls n first [] r h = ap (places ls n) r
places_are ls zero first (q ∷ qs) r h = absurd (let f : ⊥ = omega arith in f)
places_are ls (suc n) first (q ∷ qs) r h = ap (places ls (suc n)) r.0 ∙ ap (λ xs. q ∷ xs) (places_are ls n (link_at ls q).next qs r.1 (omega arith))

pub linked_of : (heads : List (Option ℕ)) (ls : List Link) → ((l : ℕ) → l < 256 → (qs : List ℕ) × Chain ls l (head_of heads l) qs) → Linked heads ls
linked_of heads ls chains l h =
    let (qs, c) = chains l h in
    let e = places_are ls (length ls) (head_of heads l) qs c.runs (chain_length ls l (head_of heads l) qs c) in
    subst (Chain ls l (head_of heads l)) (sym e) c

-- nothing is watched
pub linked_none : (heads : List (Option ℕ)) (ls : List Link) → ls ≡ [] → ((l : ℕ) → l < 256 → head_of heads l ≡ None) → Linked heads ls
linked_none heads ls e none = linked_of heads ls (λ l h. ([], record { runs = none l h; once = λ p. sym (owned_none ls l p (λ k m. let n = ap length e in omega arith)) }))

-- one more link, in front of its chain
module _ (ls : List Link) (k : Link) where
  pushed : (p : ℕ) → p < length ls → link_at (ls ++ k ∷ []) p ≡ link_at ls p
  pushed p h = get_or_append_left ls (k ∷ []) _ p h

  pushed_last : link_at (ls ++ k ∷ []) (length ls) ≡ k
  pushed_last = get_or_push ls k _ (length ls) refl

  owned_pushed : (l p : ℕ) → (p ≡ length ls → ⊥) → owned (ls ++ k ∷ []) l p ≡ owned ls l p
  owned_pushed l p n = go (cases_lt p (length ls))
    where
      go : (p < length ls) ⊎ (length ls ≤ p) → owned (ls ++ k ∷ []) l p ≡ owned ls l p
      go (inl h) =
          ap (λ b. cond (b && eqb (link_at (ls ++ k ∷ []) p).literal l) 1 0) (lt-ltb p (length (ls ++ k ∷ [])) (omega (arith, length_push ls k)) ∙ sym (lt-ltb p (length ls) h))
          ∙ ap (λ (x : Link). cond (ltb p (length ls) && eqb x.literal l) 1 0) (pushed p h)
      go (inr h) =
          owned_none (ls ++ k ∷ []) l p (λ g e. n (omega (arith, length_push ls k)))
          ∙ sym (owned_none ls l p (λ g e. omega arith))

  runs_pushed : (l : ℕ) (first : Option ℕ) (qs : List ℕ) → ((p : ℕ) → tally p qs ≡ owned ls l p) → Runs ls first qs → Runs (ls ++ k ∷ []) first qs
  runs_pushed l first qs once r =
      runs_stay ls (ls ++ k ∷ []) first qs (λ q h. ap (λ (x : Link). x.next) (pushed q (owned_in ls l q (let e = once q in omega arith)).0)) r

  chain_front : (l : ℕ) (qs : List ℕ) → k.literal ≡ l → Chain ls l k.next qs → Chain (ls ++ k ∷ []) l (Some (length ls)) (length ls ∷ qs)
  chain_front l qs e c =
      record {
        runs = (refl, subst (λ o. Runs (ls ++ k ∷ []) o qs) (sym (ap (λ (x : Link). x.next) pushed_last)) (runs_pushed l k.next qs c.once c.runs));
        once = λ p. go p (cases_eq p (length ls));
      }
    where
      go : (p : ℕ) → (p ≡ length ls) ⊎ (p ≡ length ls → ⊥) → tally p (length ls ∷ qs) ≡ owned (ls ++ k ∷ []) l p
      go p (inl s) =
          let last : link_at (ls ++ k ∷ []) p ≡ k = ap (link_at (ls ++ k ∷ [])) s ∙ pushed_last in
          let none : owned ls l p ≡ 0 = owned_none ls l p (λ g f. omega arith) in
          let own : owned (ls ++ k ∷ []) l p ≡ 1 = owned_yes (ls ++ k ∷ []) l p (omega (arith, length_push ls k)) (ap (λ (x : Link). x.literal) last ∙ e) in
          tally_same p (length ls) qs s ∙ ap (λ n. 1 + n) (c.once p ∙ none) ∙ sym own
      go p (inr n) = tally_other p (length ls) qs n ∙ c.once p ∙ sym (owned_pushed l p n)

  chain_aside : (l : ℕ) (first : Option ℕ) (qs : List ℕ) → (k.literal ≡ l → ⊥) → Chain ls l first qs → Chain (ls ++ k ∷ []) l first qs
  chain_aside l first qs n c =
      record { runs = runs_pushed l first qs c.once c.runs; once = λ p. go p (cases_eq p (length ls)) }
    where
      go : (p : ℕ) → (p ≡ length ls) ⊎ (p ≡ length ls → ⊥) → tally p qs ≡ owned (ls ++ k ∷ []) l p
      go p (inl s) =
          let last : link_at (ls ++ k ∷ []) p ≡ k = ap (link_at (ls ++ k ∷ [])) s ∙ pushed_last in
          c.once p ∙ owned_none ls l p (λ g f. omega arith) ∙ sym (owned_none (ls ++ k ∷ []) l p (λ g f. n (sym (ap (λ (x : Link). x.literal) last) ∙ f)))
      go p (inr m) = c.once p ∙ sym (owned_pushed l p m)

  pub linked_push : (heads new_heads : List (Option ℕ)) → k.next ≡ head_of heads k.literal → head_of new_heads k.literal ≡ Some (length ls)
      → ((l : ℕ) → (l ≡ k.literal → ⊥) → head_of new_heads l ≡ head_of heads l) → Linked heads ls → Linked new_heads (ls ++ k ∷ [])
  linked_push heads new_heads next head others linked = linked_of new_heads (ls ++ k ∷ []) (λ l h. go l h (cases_eq l k.literal))
    where
      go : (l : ℕ) → l < 256 → (l ≡ k.literal) ⊎ (l ≡ k.literal → ⊥) → (qs : List ℕ) × Chain (ls ++ k ∷ []) l (head_of new_heads l) qs
      go l h (inl e) =
          let qs = places ls (length ls) (head_of heads l) in
          let c = linked l h in
          let d : Chain ls l k.next qs = subst (λ o. Chain ls l o qs) (ap (head_of heads) e ∙ sym next) c in
          (length ls ∷ qs, subst (λ o. Chain (ls ++ k ∷ []) l o (length ls ∷ qs)) (sym (ap (head_of new_heads) e ∙ head)) (chain_front l qs (sym e) d))
      go l h (inr n) =
          let qs = places ls (length ls) (head_of heads l) in
          let c = linked l h in
          (qs, subst (λ o. Chain (ls ++ k ∷ []) l o qs) (sym (others l n)) (chain_aside l (head_of heads l) qs (λ e. n (sym e)) c))

-- moving a link to another literal
module _ (heads new_heads : List (Option ℕ)) (ls ks : List Link) (at : Cursor) (p l : ℕ) (m : Moved heads new_heads ls ks at p l) (apart : l ≡ at.literal → ⊥) (rest : List ℕ) (w : At heads ls at (p ∷ rest)) where
  -- how often a place is in the chain of the walk
  tallied : (q : ℕ) → tally q w.front + tally q (p ∷ rest) ≡ owned ls at.literal q
  tallied q = sym (tally_onto q w.front (p ∷ rest)) ∙ w.chain.once q

  own : owned ls at.literal p ≡ 1
  own = let a = owned_at_most ls at.literal p in let t = tallied p in let s = tally_same p p rest refl in omega arith

  held : (p < length ls) × ((link_at ls p).literal ≡ at.literal)
  held = owned_in ls at.literal p (let o = own in omega arith)

  not_front : (q : ℕ) → 0 < tally q w.front → q ≡ p → ⊥
  not_front q h e =
      let a = owned_at_most ls at.literal q in let t = tallied q in let s = tally_same q p rest e in let f : ⊥ = omega arith in f

  not_rest : (q : ℕ) → 0 < tally q rest → q ≡ p → ⊥
  not_rest q h e =
      let a = owned_at_most ls at.literal q in let t = tallied q in let s = tally_same q p rest e in let f : ⊥ = omega arith in f

  -- the link before it is of the literal that is walked
  before_own : (q : ℕ) → at.before ≡ Some q → 0 < tally q w.front
  before_own q e = go w.front (sym w.before ∙ e)
    where
      go : (front : List ℕ) → first_of front ≡ Some q → 0 < tally q front
      go [] f = cc
      go (b ∷ front) f = let g : q ≡ b = cc in let s = tally_same q b front g in omega arith

  owned_other : (k q : ℕ) → (q ≡ p → ⊥) → owned ks k q ≡ owned ls k q
  owned_other k q n = owned_stays ls ks k q m.many (m.others q n)

  owned_gone : (k : ℕ) → (k ≡ l → ⊥) → owned ks k p ≡ 0
  owned_gone k n = owned_none ks k p (λ h e. n (sym e ∙ m.literal))

  owned_came : owned ks l p ≡ 1
  owned_came = owned_yes ks l p (let h = held in let e = m.many in omega arith) m.literal

  -- a chain of another literal than that of the walk has none of the links that change
  aside : (k : ℕ) (first : Option ℕ) (qs : List ℕ) → (k ≡ at.literal → ⊥) → Chain ls k first qs → Runs ks first qs
  aside k first qs n c =
      runs_stay ls ks first qs (λ q h. m.nexts q
      (λ e. n (sym (inside q h) ∙ ap (λ x. (link_at ls x).literal) e ∙ held.1))
      (λ e. n (sym (inside q h) ∙ (owned_in ls at.literal q (let b = before_own q e in let t = tallied q in omega arith)).1))) c.runs
    where
      inside : (q : ℕ) → 0 < tally q qs → (link_at ls q).literal ≡ k
      inside q h = (owned_in ls k q (let o = c.once q in omega arith)).1

  chain_other : (k : ℕ) (qs : List ℕ) → (k ≡ l → ⊥) → (k ≡ at.literal → ⊥) → Chain ls k (head_of heads k) qs → Chain ks k (head_of new_heads k) qs
  chain_other k qs n o c =
      subst (λ x. Chain ks k x qs) (sym (m.other_heads k n o)) (record { runs = aside k (head_of heads k) qs o c; once = λ q. go q (cases_eq q p) })
    where
      go : (q : ℕ) → (q ≡ p) ⊎ (q ≡ p → ⊥) → tally q qs ≡ owned ks k q
      go q (inl e) =
          c.once q ∙ owned_none ls k q (λ h f. o (sym f ∙ ap (λ x. (link_at ls x).literal) e ∙ held.1)) ∙ sym (ap (owned ks k) e ∙ owned_gone k n)
      go q (inr d) = c.once q ∙ sym (owned_other k q d)

  chain_came : (qs : List ℕ) → Chain ls l (head_of heads l) qs → Chain ks l (head_of new_heads l) (p ∷ qs)
  chain_came qs c =
      record {
        runs = (m.head, subst (λ o. Runs ks o qs) (sym m.next) (aside l (head_of heads l) qs apart c));
        once = λ q. go q (cases_eq q p);
      }
    where
      go : (q : ℕ) → (q ≡ p) ⊎ (q ≡ p → ⊥) → tally q (p ∷ qs) ≡ owned ks l q
      go q (inl e) =
          let none : owned ls l q ≡ 0 = owned_none ls l q (λ h f. apart (sym f ∙ ap (λ x. (link_at ls x).literal) e ∙ held.1)) in
          tally_same q p qs e ∙ ap (λ n. 1 + n) (c.once q ∙ none) ∙ sym (ap (owned ks l) e ∙ owned_came)
      go q (inr d) = tally_other q p qs d ∙ c.once q ∙ sym (owned_other l q d)

  -- the rest of the walk, and what is before it
  runs_rest : Runs ks (link_at ls p).next rest
  runs_rest =
      runs_stay ls ks (link_at ls p).next rest (λ q h. m.nexts q (not_rest q h)
      (λ e. let a = owned_at_most ls at.literal q in let b = before_own q e in let t = tallied q in let s = tally_tail q p rest in let f : ⊥ = omega arith in f))
      (runs_from ls (head_of heads at.literal) w.front p rest w.chain.runs)

  runs_left : (front : List ℕ) → w.front ≡ front → Runs ks (head_of new_heads at.literal) (onto front rest)
  runs_left [] e = subst (λ o. Runs ks o rest) (sym (m.mended_head (w.before ∙ ap first_of e))) runs_rest
  runs_left (b ∷ front) e =
      let (to, stays) = m.mended_link b (w.before ∙ ap first_of e) in
      let was : Runs ls (head_of heads at.literal) (onto (b ∷ front) (p ∷ rest)) = subst (λ f. Runs ls (head_of heads at.literal) (onto f (p ∷ rest))) e w.chain.runs in
      subst (λ o. Runs ks o (onto front (b ∷ rest))) (sym stays)
      (runs_behind ls ks (head_of heads at.literal) front (b ∷ p ∷ rest) (b ∷ rest) kept
      (λ o r. (r.0, subst (λ o. Runs ks o rest) (sym to) runs_rest)) was)
    where
      kept : (q : ℕ) → 0 < tally q front → (link_at ks q).next ≡ (link_at ls q).next
      kept q h =
          let f : tally q w.front ≡ tally q (b ∷ front) = ap (tally q) e in
          let a = owned_at_most ls at.literal q in
          let t = tallied q in
          let s = tally_tail q b front in
          m.nexts q (not_front q (omega arith))
          (λ g. let i : q ≡ b = let x : Some q ≡ Some b = sym g ∙ w.before ∙ ap first_of e in cc in let d = tally_same q b front i in let z : ⊥ = omega arith in z)

  chain_left : Chain ks at.literal (head_of new_heads at.literal) (onto w.front rest)
  chain_left = record { runs = runs_left w.front refl; once = λ q. go q (cases_eq q p) }
    where
      go : (q : ℕ) → (q ≡ p) ⊎ (q ≡ p → ⊥) → tally q (onto w.front rest) ≡ owned ks at.literal q
      go q (inl e) =
          let a = owned_at_most ls at.literal q in
          let t = tallied q in
          let s = tally_same q p rest e in
          let o = tally_onto q w.front rest in
          let g : owned ks at.literal q ≡ 0 = ap (owned ks at.literal) e ∙ owned_gone at.literal (λ x. apart (sym x)) in
          omega arith
      go q (inr d) =
          let t = tallied q in
          let s = tally_other q p rest d in
          let o = tally_onto q w.front rest in
          let g = owned_other at.literal q d in
          omega arith

  pub walk_moved : (to : Cursor) → to.literal ≡ at.literal → to.before ≡ at.before → to.place ≡ (link_at ls p).next → At new_heads ks to rest
  walk_moved to e f g =
      record {
        front = w.front;
        chain = subst (λ k. Chain ks k (head_of new_heads k) (onto w.front rest)) (sym e) chain_left;
        before = f ∙ w.before;
        place = g ∙ runs_first ks (link_at ls p).next rest runs_rest;
      }

  pub linked_moved : Linked heads ls → Linked new_heads ks
  linked_moved linked = linked_of new_heads ks (λ k h. go k h (cases_eq k l) (cases_eq k at.literal))
    where
      go : (k : ℕ) → k < 256 → (k ≡ l) ⊎ (k ≡ l → ⊥) → (k ≡ at.literal) ⊎ (k ≡ at.literal → ⊥) → (qs : List ℕ) × Chain ks k (head_of new_heads k) qs
      go k h (inl e) o =
          let qs = places ls (length ls) (head_of heads k) in
          let c : Chain ls k (head_of heads k) qs = linked k h in
          (p ∷ qs, subst (λ k. Chain ks k (head_of new_heads k) (p ∷ qs)) (sym e) (chain_came qs (subst (λ k. Chain ls k (head_of heads k) qs) e c)))
      go k h (inr n) (inl e) =
          (onto w.front rest, subst (λ k. Chain ks k (head_of new_heads k) (onto w.front rest)) (sym e) chain_left)
      go k h (inr n) (inr o) = let qs = places ls (length ls) (head_of heads k) in (qs, chain_other k qs n o (linked k h))

-- the walk goes on past its link
pub walk_on : (heads : List (Option ℕ)) (ls : List Link) (at to : Cursor) (p : ℕ) (rest : List ℕ)
    → to.literal ≡ at.literal → to.before ≡ Some p → to.place ≡ (link_at ls p).next → At heads ls at (p ∷ rest) → At heads ls to rest
walk_on heads ls at to p rest e f g w =
    record {
      front = p ∷ w.front;
      chain = subst (λ k. Chain ls k (head_of heads k) (onto w.front (p ∷ rest))) (sym e) w.chain;
      before = f;
      place = g ∙ runs_first ls (link_at ls p).next rest (runs_from ls (head_of heads at.literal) w.front p rest w.chain.runs);
    }

-- a walk is at a link of the literal that is walked
pub walk_own : (heads : List (Option ℕ)) (ls : List Link) (at : Cursor) (p : ℕ) (qs : List ℕ) → At heads ls at (p ∷ qs) → (link_at ls p).literal ≡ at.literal
walk_own heads ls at p qs w =
    let t = tally_onto p w.front (p ∷ qs) in
    let s = tally_same p p qs refl in
    (owned_in ls at.literal p (let o = w.chain.once p in omega arith)).1

-- the place at which a walk is, and the one before it, are in the table
pub walk_held : (heads : List (Option ℕ)) (ls : List Link) (at : Cursor) (p : ℕ) (qs : List ℕ) → At heads ls at (p ∷ qs) → p < length ls
walk_held heads ls at p qs w =
    let t = tally_onto p w.front (p ∷ qs) in
    let s = tally_same p p qs refl in
    (owned_in ls at.literal p (let o = w.chain.once p in omega arith)).0

pub walk_before : (heads : List (Option ℕ)) (ls : List Link) (at : Cursor) (p b : ℕ) (qs : List ℕ) → At heads ls at (p ∷ qs) → at.before ≡ Some b → (b < length ls) × (b ≡ p → ⊥)
walk_before heads ls at p b qs w e = go w.front (sym w.before ∙ e) refl
  where
    go : (front : List ℕ) → first_of front ≡ Some b → w.front ≡ front → (b < length ls) × (b ≡ p → ⊥)
    go [] f g = cc
    go (x ∷ front) f g =
        let h : b ≡ x = cc in
        let i : tally b w.front ≡ tally b (x ∷ front) = ap (tally b) g in
        let s = tally_same b x front h in
        let t = tally_onto b w.front (p ∷ qs) in
        let o = w.chain.once b in
        let a = owned_at_most ls at.literal b in
        ((owned_in ls at.literal b (omega arith)).0, λ e. let z = tally_same b p qs e in let z : ⊥ = omega arith in z)

-- a link, of which what is set is known
link_set : (ls : List Link) (b q : ℕ) (k : Link) → b < length ls → q ≡ b → link_at (set ls b k) q ≡ k
link_set ls b q k h e = ap (link_at (set ls b k)) e ∙ get_or-set_same ls b k _ h

link_kept : (ls : List Link) (b q : ℕ) (k : Link) → (q ≡ b → ⊥) → link_at (set ls b k) q ≡ link_at ls q
link_kept ls b q k n = get_or-set_other ls b q k _ n

-- the first link of a chain is taken out at the head
pub unlinked_head : (heads : List (Option ℕ)) (ls : List Link) (at : Cursor) (next : Option ℕ) (r : ℕ) → r ≡ at.literal → at.literal < length heads → at.before ≡ None
    → Unlinked heads (set heads r next) ls ls at next
unlinked_head heads ls at next r e wide none =
    let i : r < length heads = omega arith in
    record {
      many = refl;
      wide = length-set heads r next;
      clauses = λ q. refl;
      literals = λ q. refl;
      nexts = λ q n. refl;
      other_heads = λ k n. get_or-set_other heads r k next None (λ f. n (f ∙ e));
      mended_link = λ q f. cc;
      mended_head = λ f. ap (head_of (set heads r next)) (sym e) ∙ get_or-set_same heads r next None i;
    }

-- a link that is out of its chain is put in front of another
moved_of : (heads heads1 : List (Option ℕ)) (ls ls1 : List Link) (at : Cursor) (p l r : ℕ) (k : Link) → Unlinked heads heads1 ls ls1 at (link_at ls p).next
    → r ≡ l → l < length heads → p < length ls → (l ≡ at.literal → ⊥) → (at.before ≡ Some p → ⊥)
    → k.clause ≡ (link_at ls p).clause → k.literal ≡ l → k.next ≡ head_of heads1 r
    → Moved heads (set heads1 r (Some p)) ls (set ls1 p k) at p l
moved_of heads heads1 ls ls1 at p l r k out e wide h apart not_before clause literal next =
    let j : p < length ls1 = omega (arith, out.many) in
    let i : r < length heads1 = omega (arith, out.wide) in
    record {
      many = length-set ls1 p k ∙ out.many;
      clauses = λ q. elim (cases_eq q p) [ inl f ↦ ap (λ (x : Link). x.clause) (link_set ls1 p q k j f) ∙ clause ∙ sym (ap (λ x. (link_at ls x).clause) f) | inr n ↦ ap (λ (x : Link). x.clause) (link_kept ls1 p q k n) ∙ out.clauses q ];
      others = λ q n. ap (λ (x : Link). x.literal) (link_kept ls1 p q k n) ∙ out.literals q;
      literal = ap (λ (x : Link). x.literal) (link_set ls1 p p k j refl) ∙ literal;
      next = ap (λ (x : Link). x.next) (link_set ls1 p p k j refl) ∙ next ∙ ap (head_of heads1) e ∙ out.other_heads l apart;
      head = ap (head_of (set heads1 r (Some p))) (sym e) ∙ get_or-set_same heads1 r (Some p) None i;
      nexts = λ q n m. ap (λ (x : Link). x.next) (link_kept ls1 p q k n) ∙ out.nexts q m;
      other_heads = λ j n m. get_or-set_other heads1 r j (Some p) None (λ f. n (f ∙ e)) ∙ out.other_heads j m;
      mended_link = λ q f. (
        ap (λ (x : Link). x.next) (link_kept ls1 p q k (λ g. not_before (f ∙ ap (λ x. Some x) g))) ∙ (out.mended_link q f).0,
        get_or-set_other heads1 r at.literal (Some p) None (λ g. apart (sym (g ∙ e))) ∙ (out.mended_link q f).1,
      );
      mended_head = λ f. get_or-set_other heads1 r at.literal (Some p) None (λ g. apart (sym (g ∙ e))) ∙ out.mended_head f;
    }

pub moved_by : (heads heads1 : List (Option ℕ)) (ls ls1 : List Link) (at : Cursor) (p l r : ℕ) (k : Link) (qs : List ℕ) → At heads ls at (p ∷ qs) → k ≡ link_at ls p
    → Unlinked heads heads1 ls ls1 at k.next → r ≡ l → l < length heads → (l ≡ at.literal → ⊥)
    → Moved heads (set heads1 r (Some p)) ls (set ls1 p (record { clause = k.clause; literal = l; next = head_of heads1 r })) at p l
moved_by heads heads1 ls ls1 at p l r k qs w is out e wide apart =
    moved_of heads heads1 ls ls1 at p l r (record { clause = k.clause; literal = l; next = head_of heads1 r })
    (subst (Unlinked heads heads1 ls ls1 at) (ap (λ (x : Link). x.next) is) out) e wide (walk_held heads ls at p qs w) apart
    (λ f. (walk_before heads ls at p p qs w f).1 refl) (ap (λ (x : Link). x.clause) is) refl refl

-- where a walk is at a place, that place is the first of the rest
pub walk_at : (heads : List (Option ℕ)) (ls : List Link) (at : Cursor) (p : ℕ) (qs : List ℕ) → at.place ≡ Some p → At heads ls at qs → (rest : List ℕ) × At heads ls at (p ∷ rest)
walk_at heads ls at p [] e w = cc
walk_at heads ls at p (q ∷ rest) e w = let f : q ≡ p = cc in (rest, subst (λ x. At heads ls at (x ∷ rest)) f w)

pub same_place : (heads : List (Option ℕ)) (ls : List Link) (at : Cursor) (p q : ℕ) (qs : List ℕ) → at.place ≡ Some p → At heads ls at (q ∷ qs) → At heads ls at (p ∷ qs)
same_place heads ls at p q qs e w = let place = w.place in let f : q ≡ p = cc in subst (λ x. At heads ls at (x ∷ qs)) f w

-- a link that is read from the table
pub read_at : (ls : List Link) (p : ℕ) (k : Link) → p < length ls → k ≡ get_or ls p k → k ≡ link_at ls p
read_at ls p k h e = e ∙ get_or_default ls p k _ h
