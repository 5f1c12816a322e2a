-- Of which clauses the links are. Assumes nothing.
use Rattle.std.proofs.Common.{◌≡◌, ℕ, zero, suc, ◌+◌, ◌*◌, ◌<◌, ◌≤◌, Bool, true, false, cond, nat_lt, List, [], get_or, ◌∷◌, ◌++◌, length, map, vec_items, inl, inr, subst, sym, refl, ap, ap₂, ◌∙◌, arith}
use Rattle.std.proofs.Math.ListN.{get_or-map}
use Rattle.std.proofs.Math.Seq.{get_or-append_seam}
use Rattle.std.proofs.lemmas.Bool.{cases_lt, lt-ltb}
use Rattle.std.proofs.lemmas.List.{append_assoc, get_or_append_left, length-append, length-map, length_push, map-append}
use Rattle.masks.specs.declared.mask.ClauseMask.{ClauseMask}
use Rattle.masks.specs.declared.mask.Standing.{Standing}
use Rattle.masks.specs.declared.mask.Standing.TheVariants.{True, Open, Forces, False}
use Rattle.search.specs.Chains.{link_at}
use Rattle.search.specs.Looks.{Named}
use Rattle.search.specs.Watched.{watched, numbers, room, Stays, pairs, added, both, Begun, literal_by}
use Rattle.search.specs.declared.learned.TheConstants.{MOST}
use Rattle.search.specs.declared.watches.Link.{Link}
use Rattle.search.specs.declared.watches.Watches.{Watches}

-- the clauses of the links are those of what is watched
pub numbers_of : (w : Watches) → numbers w ≡ map (λ (p : ℕ × ℕ). p.0) (watched w)
numbers_of w = go (vec_items w.links)
  where
    go : (ls : List Link) → map (λ (l : Link). l.clause) ls ≡ map (λ (p : ℕ × ℕ). p.0) (map (λ (l : Link). (l.clause, l.literal)) ls)
    go [] = refl
    go (l ∷ ls) = ap (λ xs. l.clause ∷ xs) (go ls)

-- and they stay where each link stays of its clause
pub numbers_same : (w v : Watches) → length (vec_items v.links) ≡ length (vec_items w.links)
    → ((q : ℕ) → (link_at (vec_items v.links) q).clause ≡ (link_at (vec_items w.links) q).clause) → numbers v ≡ numbers w
numbers_same w v many same = go (vec_items w.links) (vec_items v.links) many same
  where
    go : (ls ks : List Link) → length ks ≡ length ls → ((q : ℕ) → (link_at ks q).clause ≡ (link_at ls q).clause) → map (λ (l : Link). l.clause) ks ≡ map (λ (l : Link). l.clause) ls
    go [] [] e f = refl
    go [] (k ∷ ks) e f = absurd (let z : ⊥ = omega arith in z)
    go (l ∷ ls) [] e f = absurd (let z : ⊥ = omega arith in z)
    go (l ∷ ls) (k ∷ ks) e f = ap₂ (λ x xs. x ∷ xs) (f 0) (go ls ks (omega arith) (λ q. f (suc q)))

pairs_length : (n : ℕ) → length (pairs n) ≡ n * 2
pairs_length zero = refl
pairs_length (suc n) =
    let a = length-append (pairs n) (n ∷ n ∷ []) in
    let b = pairs_length n in
    omega arith

-- so there are two for each clause
two_each : (w : Watches) (n : ℕ) → numbers w ≡ pairs n → length (watched w) ≡ n * 2
two_each w n e = sym (length-map (watched w) (λ (p : ℕ × ℕ). p.0)) ∙ ap length (sym (numbers_of w) ∙ e) ∙ pairs_length n

added_fit : (places : ℕ) (x : ℕ × ℕ) (links : List (ℕ × ℕ)) → length links < places → added places x links ≡ links ++ x ∷ []
added_fit places x links h = ap (λ b. cond b (links ++ x ∷ []) links) (lt-ltb (length links) places h)

-- where there is room for two more, both literals are watched
both_fit : (places k : ℕ) (m : ClauseMask) (one other : ℕ) (links : List (ℕ × ℕ)) → length links + 2 ≤ places
    → both places k m one other links ≡ links ++ (k, literal_by m one) ∷ (k, literal_by m other) ∷ []
both_fit places k m one other links h =
    let x : ℕ × ℕ = (k, literal_by m one) in
    let y : ℕ × ℕ = (k, literal_by m other) in
    let long = length_push links x in
    ap (added places y) (added_fit places x links (omega arith)) ∙ added_fit places y (links ++ x ∷ []) (omega arith) ∙ append_assoc links (x ∷ []) (y ∷ [])

-- there is where fewer clauses are kept than at most
pub learned_links : (w v : Watches) (n k : ℕ) (m : ClauseMask) (one other : ℕ) → numbers w ≡ pairs n → n < MOST → MOST * 2 ≤ room w → k ≡ n
    → watched v ≡ both (room w) k m one other (watched w) → watched v ≡ watched w ++ (n, literal_by m one) ∷ (n, literal_by m other) ∷ []
learned_links w v n k m one other e few wide same made =
    let long = two_each w n e in
    made ∙ ap (λ i. both (room w) i m one other (watched w)) same ∙ both_fit (room w) n m one other (watched w) (omega arith)

-- and the clauses of the links are two for each clause again
pub one_more : (w v : Watches) (n a b : ℕ) → numbers w ≡ pairs n → watched v ≡ watched w ++ (n, a) ∷ (n, b) ∷ [] → numbers v ≡ pairs (suc n)
one_more w v n a b e f =
    let fst = λ (p : ℕ × ℕ). p.0 in
    numbers_of v ∙ ap (map fst) f ∙ map-append fst (watched w) ((n, a) ∷ (n, b) ∷ []) ∙ ap (λ xs. xs ++ n ∷ n ∷ []) (sym (numbers_of w) ∙ e)

pub stays_trans : (u v w : Watches) → Stays u v → Stays v w → Stays u w
stays_trans u v w a b = record { clauses = b.clauses ∙ a.clauses; space = b.space ∙ a.space }

-- the clause of a link, and how many links there are
clause_at : (w : Watches) (q : ℕ) → get_or (numbers w) q 0 ≡ (link_at (vec_items w.links) q).clause
clause_at w q = get_or-map (λ (l : Link). l.clause) (vec_items w.links) q _

many : (w : Watches) → length (numbers w) ≡ length (vec_items w.links)
many w = length-map (vec_items w.links) (λ (l : Link). l.clause)

-- both are the same where each link stays of its clause
pub stays_many : (w v : Watches) → Stays w v → length (vec_items v.links) ≡ length (vec_items w.links)
stays_many w v s = sym (many v) ∙ ap length s.clauses ∙ many w

pub stays_clause : (w v : Watches) → Stays w v → (q : ℕ) → (link_at (vec_items v.links) q).clause ≡ (link_at (vec_items w.links) q).clause
stays_clause w v s q = sym (clause_at v q) ∙ ap (λ xs. get_or xs q 0) s.clauses ∙ clause_at w q

-- the clauses of the links are numbers below n where these are
pub named_by : (w : Watches) (n : ℕ) → ((q : ℕ) → q < length (numbers w) → get_or (numbers w) q 0 < n) → Named (vec_items w.links) n
named_by w n f q h = let e = clause_at w q in let l = many w in let g = f q (omega arith) in omega arith

pub by_named : (w : Watches) (n : ℕ) → Named (vec_items w.links) n → (q : ℕ) → q < length (numbers w) → get_or (numbers w) q 0 < n
by_named w n f q h = let e = clause_at w q in let l = many w in let g = f q (omega arith) in omega arith

pub named_kept : (w v : Watches) (n : ℕ) → Stays w v → Named (vec_items w.links) n → Named (vec_items v.links) n
named_kept w v n s f = named_by v n (subst (λ (xs : List ℕ). (q : ℕ) → q < length xs → get_or xs q 0 < n) (sym s.clauses) (by_named w n f))

-- one more number below n
below_push : (xs : List ℕ) (n x : ℕ) → x < n → ((q : ℕ) → q < length xs → get_or xs q 0 < n) → (q : ℕ) → q < length (xs ++ x ∷ []) → get_or (xs ++ x ∷ []) q 0 < n
below_push xs n x h f q l =
    let long = length_push xs x in
    elim (cases_lt q (length xs)) [
      | inl a ↦ subst (λ y. y < n) (sym (get_or_append_left xs (x ∷ []) 0 q a)) (f q a)
      | inr b ↦ let e : length xs ≡ q = omega arith in subst (λ y. y < n) (sym (ap (λ i. get_or (xs ++ x ∷ []) i 0) (sym e) ∙ get_or-append_seam xs x [] 0)) h
    ]

-- the clauses of two links each
pairs_below : (n q : ℕ) → q < length (pairs n) → get_or (pairs n) q 0 < n
pairs_below zero q h = absurd (let z : ⊥ = omega arith in z)
pairs_below (suc n) q h =
    let low = λ (i : ℕ) (l : i < length (pairs n)). let e = pairs_below n i l in let f : get_or (pairs n) i 0 < suc n = omega arith in f in
    subst (λ (xs : List ℕ). (q : ℕ) → q < length xs → get_or xs q 0 < suc n) (append_assoc (pairs n) (n ∷ []) (n ∷ []))
    (below_push (pairs n ++ n ∷ []) (suc n) n (omega arith) (below_push (pairs n) (suc n) n (omega arith) low)) q h

pub named_pairs : (w : Watches) (n : ℕ) → numbers w ≡ pairs n → Named (vec_items w.links) n
named_pairs w n e = named_by w n (subst (λ (xs : List ℕ). (q : ℕ) → q < length xs → get_or xs q 0 < n) (sym e) (pairs_below n))

-- one more link of a clause below n
abbrev Below : ℕ → List (ℕ × ℕ) → Type 0
Below n links = (q : ℕ) → q < length (map (λ (p : ℕ × ℕ). p.0) links) → get_or (map (λ (p : ℕ × ℕ). p.0) links) q 0 < n

below_added : (places : ℕ) (x : ℕ × ℕ) (links : List (ℕ × ℕ)) (n : ℕ) → x.0 < n → Below n links → Below n (added places x links)
below_added places x links n h f = go (nat_lt (length links) places)
  where
    go : (b : Bool) → Below n (cond b (links ++ x ∷ []) links)
    go true = subst (λ (xs : List ℕ). (q : ℕ) → q < length xs → get_or xs q 0 < n) (sym (map-append (λ (p : ℕ × ℕ). p.0) links (x ∷ [])))
        (below_push (map (λ (p : ℕ × ℕ). p.0) links) n x.0 h f)
    go false = f

pub named_begun : (w v : Watches) (n k known places : ℕ) (m : ClauseMask) (s : Standing) → Begun m known k places s (watched w) (watched v) → k < n
    → Named (vec_items w.links) n → Named (vec_items v.links) n
named_begun w v n k known places m s made h f =
    named_by v n (subst (λ (xs : List ℕ). (q : ℕ) → q < length xs → get_or xs q 0 < n) (sym (numbers_of v)) (go s made))
  where
    before : Below n (watched w)
    before = subst (λ (xs : List ℕ). (q : ℕ) → q < length xs → get_or xs q 0 < n) (numbers_of w) (by_named w n f)

    go : (s : Standing) → Begun m known k places s (watched w) (watched v) → Below n (watched v)
    go True e = subst (Below n) (sym e) before
    go Open e = subst (Below n) (sym e.made) (below_added places _ _ n h (below_added places _ (watched w) n h before))
    go (Forces l) e = subst (Below n) (sym e) before
    go False e = subst (Below n) (sym e) before
