-- A walk along the links of a literal looks at the clause of each, and leaves none of a clause that is not settled. Assumes nothing.
use Rattle.std.proofs.Common.{◌≡◌, ℕ, ◌+◌, ◌<◌, ◌≤◌, Bool, true, false, not, ◌||◌, ◌⊎◌, List, [], ◌∷◌, length, get_or, Option, Some, None, refl, sym, ap, ◌∙◌, subst, inl, inr, arith, append-nil}
use Rattle.std.proofs.lemmas.Bool.{cases_eq}
use Rattle.std.proofs.lemmas.List.{get_or_default}
use Rattle.system.specs.Literals.{bit}
use Rattle.system.specs.Spelling.{literal_of}
use Rattle.masks.specs.Masks.{inside}
use Rattle.masks.specs.Standings.{Stands}
use Rattle.masks.specs.declared.mask.ClauseMask.{ClauseMask}
use Rattle.masks.specs.declared.mask.Standing.{Standing}
use Rattle.masks.specs.declared.mask.Standing.TheVariants.{False}
use Rattle.trail.specs.Decisions.{has, Spells}
use Rattle.trail.specs.declared.decision.Decision.{Decision}
use Rattle.search.specs.Chains.{link_at, partner_of, head_of, tally, Chain, At}
use Rattle.search.specs.Looks.{Looked, LookedAt, Settled, Settles}
use Rattle.search.specs.Searches.{Extends, Brings}
use Rattle.search.specs.Watched.{Advanced}
use Rattle.search.specs.declared.watches.Cursor.{Cursor}
use Rattle.search.specs.declared.watches.Link.{Link}
use Rattle.search.proofs.Chains.{owned_yes, tally_other, walk_held, chain_length}
use Rattle.search.proofs.Settling.{has_more, settled_later, looked_settled, one_partner}
use Rattle.search.proofs.Stepping.{extends_trans}

-- what was looked at stays so
abbrev pub looked_later : (m : ClauseMask) (ds es fs : List Decision) → Looked m ds es → Extends es fs → Looked m ds fs
looked_later m ds es fs o e =
    record {
      before = o.before;
      known = o.known;
      stood = o.stood;
      after = o.after;
      reached = o.reached;
      spelled = o.spelled;
      stands = o.stands;
      brings = o.brings;
      left = extends_trans o.after es fs o.left e;
      not_false = o.not_false;
    }

-- on the walk, after so many turns: of the links of the literal in the table as it was, the clause of each was looked at, or its place is still ahead
pub record Walking (was : List Link) (l : ℕ) (ms : List ClauseMask) (ds es : List Decision) (heads : List (Option ℕ)) (links : List Link) (at : Cursor) (turns : ℕ) : Type 0 where
  pub rest : List ℕ
  pub walks : At heads links at rest
  pub many : length links ≡ length was
  pub few : length rest + turns ≤ length was
  pub clauses : (q : ℕ) → (link_at links q).clause ≡ (link_at was q).clause
  pub looked : (q : ℕ) → q < length was → (link_at was q).literal ≡ l → (0 < tally q rest) ⊎ ((m : ClauseMask) → Looked (get_or ms (link_at was q).clause m) ds es)
  pub settled : (q v : ℕ) (b : Bool) (m : ClauseMask) → q < length was → has ds v b ≡ true → (link_at links q).literal ≡ literal_of v (not b)
      → Settled (get_or ms (link_at was q).clause m) es ⊎ (((link_at was q).literal ≡ (link_at links q).literal) × ((link_at links q).literal ≡ l → 0 < tally q rest))

pub walking_first : (links : List Link) (l : ℕ) (ms : List ClauseMask) (ds : List Decision) (heads : List (Option ℕ)) (at : Cursor) (qs : List ℕ)
    → At heads links at qs → Chain links l (head_of heads l) qs → Walking links l ms ds ds heads links at 0
walking_first links l ms ds heads at qs w c =
    record {
      rest = qs;
      walks = w;
      many = refl;
      few = let h = chain_length links l (head_of heads l) qs c in omega arith;
      clauses = λ q. refl;
      looked = λ q h e. inl (let o = c.once q in let y = owned_yes links l q h e in omega arith);
      settled = λ q v b m h f g. inr (refl, λ e. let o = c.once q in let y = owned_yes links l q h e in omega arith);
    }

-- a turn
module _ (was : List Link) (l : ℕ) (ms : List ClauseMask) (ds es : List Decision) (heads : List (Option ℕ)) (links : List Link) (at : Cursor) (turns : ℕ) (w : Walking was l ms ds es heads links at turns) where
  -- where no link is left, each was looked at
  pub walked : w.rest ≡ [] → LookedAt was l ms ds es
  walked e q m h f = go (w.looked q h f)
    where
      go : (0 < tally q w.rest) ⊎ ((m : ClauseMask) → Looked (get_or ms (link_at was q).clause m) ds es) → Looked (get_or ms (link_at was q).clause m) ds es
      go (inl g) = let z : tally q w.rest ≡ 0 = ap (tally q) e in absurd (let f : ⊥ = omega arith in f)
      go (inr o) = o m

  -- and none is left of the literal whose clause is not settled
  pub all_settled : w.rest ≡ [] → Settles was links l ms ds es
  all_settled e q v b m h f g =
      let many = w.many in
      elim (w.settled q v b m (omega arith) f g) [
        | inl s ↦ inl (subst (λ k. Settled (get_or ms k m) es) (sym (w.clauses q)) s)
        | inr o ↦ inr (o.0, λ i. let t = o.1 i in let z : tally q w.rest ≡ 0 = ap (tally q) e in let no : ⊥ = omega arith in no)
      ]

  -- the clause of the link at which the walk is
  pub at_hand : (k : ℕ) → ((p : ℕ) → at.place ≡ Some p → p < length links → Some k ≡ Some (link_at links p).clause) → (at.place ≡ None → Some k ≡ None)
      → (p : ℕ) × (qs : List ℕ) × (w.rest ≡ p ∷ qs) × (p < length was) × (k ≡ (link_at was p).clause)
  at_hand k some none = go w.rest refl
    where
      go : (rest : List ℕ) → w.rest ≡ rest → (p : ℕ) × (qs : List ℕ) × (w.rest ≡ p ∷ qs) × (p < length was) × (k ≡ (link_at was p).clause)
      go [] e = let v : At heads links at [] = subst (At heads links at) e w.walks in let f = none v.place in cc
      go (p ∷ qs) e =
          let v : At heads links at (p ∷ qs) = subst (At heads links at) e w.walks in
          let h = walk_held heads links at p qs v in
          let f = some p v.place h in
          let g : k ≡ (link_at links p).clause = cc in
          let m = w.many in
          (p, qs, e, omega arith, g ∙ w.clauses p)

  pub walking_on : (k : ℕ) (m : ClauseMask) (known : ClauseMask) (s : Standing) (fs : List Decision) (after : ClauseMask) (x : ℕ) (new_heads : List (Option ℕ)) (new_links : List Link) (to : Cursor)
      → ((p : ℕ) → at.place ≡ Some p → p < length links → Some k ≡ Some (link_at links p).clause) → (at.place ≡ None → Some k ≡ None)
      → k < length ms → m ≡ get_or ms k m → Extends ds es → Spells known es → Stands m known s → Brings m es s fs → Extends es fs → (s ≡ False → ⊥)
      → ((p : ℕ) (qs : List ℕ) → At heads links at (p ∷ qs) → At new_heads new_links to qs)
      → length new_links ≡ length links → ((p : ℕ) → (link_at new_links p).clause ≡ (link_at links p).clause)
      → ((p : ℕ) → (at.place ≡ Some p → ⊥) → (link_at new_links p).literal ≡ (link_at links p).literal)
      → ((p : ℕ) → at.place ≡ Some p → Advanced m x (partner_of links p) s (link_at links p).literal (link_at new_links p).literal)
      → Spells after fs → ((j : ℕ) → bit x j ≡ (inside after j true || inside after j false))
      → Walking was l ms ds fs new_heads new_links to (turns + 1)
  walking_on k m known s fs after x new_heads new_links to some none small is reached spelled stands brings more not_false walks many clauses others moves later valued =
      go (at_hand k some none)
    where
      go : (p : ℕ) × (qs : List ℕ) × (w.rest ≡ p ∷ qs) × (p < length was) × (k ≡ (link_at was p).clause) → Walking was l ms ds fs new_heads new_links to (turns + 1)
      go (p, qs, e, i, c) =
          record {
            rest = qs;
            walks = walks p qs (subst (At heads links at) e w.walks);
            many = many ∙ w.many;
            few = let n = ap length e in let f = w.few in omega arith;
            clauses = λ q. clauses q ∙ w.clauses q;
            looked = λ q h f. one q (w.looked q h f) (cases_eq q p);
            settled = λ q v b n h f g. left q v b n h f g (cases_eq q p);
          }
        where
          place : at.place ≡ Some p
          place = (let v : At heads links at (p ∷ qs) = subst (At heads links at) e w.walks in v.place)

          mask : (n : ClauseMask) → m ≡ get_or ms (link_at was p).clause n
          mask n = is ∙ get_or_default ms k m n small ∙ ap (λ x. get_or ms x n) c

          left : (q v : ℕ) (b : Bool) (n : ClauseMask) → q < length was → has ds v b ≡ true → (link_at new_links q).literal ≡ literal_of v (not b) → (q ≡ p) ⊎ (q ≡ p → ⊥)
              → Settled (get_or ms (link_at was q).clause n) fs ⊎ (((link_at was q).literal ≡ (link_at new_links q).literal) × ((link_at new_links q).literal ≡ l → 0 < tally q qs))
          left q v b n h f g (inl o) =
              let settled =
              looked_settled m known es fs s after x (partner_of links p) (link_at links p).literal (link_at new_links p).literal v b spelled stands brings not_false later valued
              (one_partner links p) (moves p place) (has_more es fs v b more (has_more ds es v b reached f)) (ap (λ i. (link_at new_links i).literal) (sym o) ∙ g) in
              inl (subst (λ i. Settled (get_or ms (link_at was i).clause n) fs) (sym o) (subst (λ y. Settled y fs) (mask n) settled))
          left q v b n h f g (inr o) =
              let same = others q (λ i. o (let r : Some q ≡ Some p = sym i ∙ place in cc)) in
              elim (w.settled q v b n h f (sym same ∙ g)) [
                | inl t ↦ inl (settled_later (get_or ms (link_at was q).clause n) es fs more t)
                | inr t ↦ inr (
                  t.0 ∙ sym same,
                  λ i. let a = t.1 (sym same ∙ i) in let f : tally q w.rest ≡ tally q (p ∷ qs) = ap (tally q) e in let g = tally_other q p qs o in omega arith,
                )
              ]

          now : (n : ClauseMask) → Looked (get_or ms (link_at was p).clause n) ds fs
          now n =
              subst (λ x. Looked x ds fs) (mask n) (record {
                before = es;
                known = known;
                stood = s;
                after = fs;
                reached = reached;
                spelled = spelled;
                stands = stands;
                brings = brings;
                left = ([], sym (append-nil fs));
                not_false = not_false;
              })

          one : (q : ℕ) → (0 < tally q w.rest) ⊎ ((m : ClauseMask) → Looked (get_or ms (link_at was q).clause m) ds es) → (q ≡ p) ⊎ (q ≡ p → ⊥)
              → (0 < tally q qs) ⊎ ((m : ClauseMask) → Looked (get_or ms (link_at was q).clause m) ds fs)
          one q o (inl f) = inr (λ n. subst (λ x. Looked (get_or ms (link_at was x).clause n) ds fs) (sym f) (now n))
          one q (inr o) (inr n) = inr (λ x. looked_later (get_or ms (link_at was q).clause x) ds es fs (o x) more)
          one q (inl t) (inr n) = inl (let f : tally q w.rest ≡ tally q (p ∷ qs) = ap (tally q) e in let g = tally_other q p qs n in omega arith)

  -- as many turns as there are links are enough
  pub walked_all : length was ≤ turns → w.rest ≡ []
  walked_all h = go w.rest refl
    where
      go : (rest : List ℕ) → w.rest ≡ rest → w.rest ≡ []
      go [] e = e
      go (q ∷ qs) e = let n = ap length e in let f = w.few in absurd (let z : ⊥ = omega arith in z)

  -- and so is a walk at whose place there is no link
  pub walked_off : ((p : ℕ) → at.place ≡ Some p → p < length links → None ≡ Some (link_at links p).clause) → w.rest ≡ []
  walked_off some = go w.rest refl
    where
      go : (rest : List ℕ) → w.rest ≡ rest → w.rest ≡ []
      go [] e = e
      go (p ∷ qs) e =
          let v : At heads links at (p ∷ qs) = subst (At heads links at) e w.walks in
          let f = some p v.place (walk_held heads links at p qs v) in cc
