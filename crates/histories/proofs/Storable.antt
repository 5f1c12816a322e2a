-- What calls store goes with the entries before it: a clause is carried, a subgoal leads to its target, and each keeps its rule. Assumes nothing.
use Rattle.std.proofs.Common.{◌≡◌, ℕ, ◌-◌, ◌<◌, not, T, ◌↔◌, List, [], ◌∷◌, ◌++◌, length, get_or, Some, sym, refl, subst, ◌∙◌, inl, inr, arith}
use Rattle.std.proofs.Math.Seq.{get_or-append_seam}
use Rattle.std.proofs.lemmas.List.{length-append}
use Rattle.system.specs.Literals.{Valuation, bit, clause, clauses, Member}
use Rattle.system.specs.Systems.{System, Initial, Broken, OverRelays, Rising}
use Rattle.system.proofs.Truth.{member_cases, all_place, clauses_each, clauses_all}
use Rattle.system.proofs.Spelled.{spelled_over}
use Rattle.layout.specs.Spelling.{Admitted}
use Rattle.sieve.specs.Marks.{marked}
use Rattle.literal_sieve.specs.Literal.{false_at}
use Rattle.candidate_sieve.specs.Candidates.{chosen}
use Rattle.candidate_sieve.specs.Laws.{chosen_from}
use Rattle.books.specs.declared.entry.Entry.{Entry}
use Rattle.books.specs.declared.entry.Kind.TheVariants.{Found, Taken}
use Rattle.books.specs.Entries.{is_subgoal, is_clause, blank, clause_of, entry_of, subgoal}
use Rattle.books.specs.Books.{rule, admitted}
use Rattle.books.specs.Targets.{FirstCounterexample, NoCounterexample}
use Rattle.books.proofs.Entries.{admits_clause, admitted_at, meets_left, meets_right}
use Rattle.books.proofs.Meanings.{clause_part}
use Rattle.books.proofs.Ruled.{clause_ruled, subgoal_ruled}
use Rattle.learning.specs.Minimal.{Part, InductiveClause}
use Rattle.learning.proofs.Minimal.{learns_minimal}
use Rattle.taking.specs.Taking.{Sieved, taken_entries, TakesLargest}
use Rattle.taking.proofs.Largest.{takes_largest, taken_member, member_taken}
use Rattle.histories.specs.declared.verdict.Verdict.{Verdict}
use Rattle.histories.specs.declared.verdict.Verdict.TheVariants.{Undecided, Holds, BrokenAt, BrokenByEntry}
use Rattle.histories.specs.Calls.{Learned, learned_clause, learned_subgoal}
use Rattle.histories.proofs.Invariant.{Carried, Leading}

-- no initial state is broken, and none is that of a subgoal
abbrev pub NoneBroken : System → Type 0
NoneBroken c = (s : ℕ) → Initial c s → Broken c s → ⊥

abbrev pub Uninitial : System → Entry → Type 0
Uninitial c e = T (is_subgoal e.kind) → Initial c e.first → ⊥

abbrev pub NoneSubgoal : System → List Entry → Type 0
NoneSubgoal c es = (e : Entry) → Member e es → Uninitial c e

-- what each verdict rests on
abbrev pub Grounds : System → List Entry → Verdict → Type 0
Grounds c es Undecided = NoneBroken c × NoneSubgoal c es
Grounds c es Holds = NoneBroken c × NoneSubgoal c es × NoCounterexample c es
Grounds c es (BrokenAt s) = Initial c s × Broken c s
Grounds c es BrokenByEntry = (0 < length es) × T (is_subgoal (get_or es (length es - 1) blank).kind) × Initial c (get_or es (length es - 1) blank).first

-- entries that are no initial subgoals leave the grounds
none_more : (c : System) (es new : List Entry) → NoneBroken c × NoneSubgoal c es → NoneSubgoal c new → NoneBroken c × NoneSubgoal c (es ++ new)
none_more c es new g h = (g.0, λ e m. elim (member_cases e es new m) [ inl l ↦ g.1 e l | inr r ↦ h e r ])

one : (P : Entry → Type 0) (e : Entry) → P e → (x : Entry) → Member x (e ∷ []) → P x
one P e p x (inl q) = subst P (sym q) p
one P e p x (inr m) = absurd m

last_is : (es : List Entry) (e : Entry) → get_or (es ++ e ∷ []) (length (es ++ e ∷ []) - 1) blank ≡ e
last_is es e =
    let l = length-append es (e ∷ []) in
    let at : length (es ++ e ∷ []) - 1 ≡ length es = omega arith in
    rw at (get_or-append_seam es e [] blank)

-- a clause that is inductive relative to the book so far, once stored
carried_found : (c : System) (es : List Entry) (e : Entry) → T (is_clause e.kind) → InductiveClause c es (clause_of e) → Carried c (es ++ e ∷ []) e
carried_found c es e k h =
    record {
      initiated = h.0;
      stepped = λ s t m j. h.1 s t (meets_left c es (e ∷ []) s m) (admits_clause e.kind e s k (admitted_at (e ∷ []) s e (inl refl) (meets_right c es (e ∷ []) s m))) j;
    }

-- what new entries must be for all that holds of the earlier ones to hold of both
pub record Storable (c : System) (es new : List Entry) : Type 0 where
  pub ruled : (e : Entry) → Member e new → T (rule c es (length es) e)
  pub carried : (e : Entry) → Member e new → T (is_clause e.kind) → Carried c (es ++ new) e
  pub leading : (e : Entry) → Member e new → T (is_subgoal e.kind) → Leading c es e

-- one entry
storable_one : (c : System) (es : List Entry) (e : Entry) → T (rule c es (length es) e) → (T (is_clause e.kind) → Carried c (es ++ e ∷ []) e)
    → (T (is_subgoal e.kind) → Leading c es e) → Storable c es (e ∷ [])
storable_one c es e r p l =
    record {
      ruled = one (λ x. T (rule c es (length es) x)) e r;
      carried = one (λ x. T (is_clause x.kind) → Carried c (es ++ e ∷ []) x) e p;
      leading = one (λ x. T (is_subgoal x.kind) → Leading c es x) e l;
    }

-- of what a turn learns
module _ (c : System) (adm : Admitted c) (es : List Entry) (k s t : ℕ) (e : Entry) (v : Verdict) where
  pub learned_storable : FirstCounterexample c es k s t → Learned c es k s t e v → Storable c es (e ∷ [])
  learned_storable f (learned_clause l z) =
      let given = learns_minimal c adm.relays.1 es s (Some e) l in
      let over = spelled_over c.n c.n (marked l.trimmed) (λ i. not (bit s i)) (omega arith) in
      storable_one c es e
      (subst (λ (x : Entry). T (rule c es (length es) x)) (sym l.entry) (clause_ruled c Found (false_at c.n s l.trimmed) over))
      (λ h. carried_found c es e h given.1.inductive)
      (λ h. absurd (subst (λ x. T (is_subgoal x)) given.0 h))
  learned_storable f (learned_subgoal n q j) =
      let found = f.found in
      subst (λ (x : Entry). Storable c es (x ∷ [])) (sym q)
      (storable_one c es (subgoal s t k) (subgoal_ruled c es k s t found.joined.low found.joined.next_low found.at)
      (λ h. absurd h)
      (λ h. record { joined = found.joined; at = found.at }))

  pub learned_grounds : NoneBroken c × NoneSubgoal c es → Learned c es k s t e v → Grounds c (es ++ e ∷ []) v
  learned_grounds g (learned_clause l z) =
      let kind = (learns_minimal c adm.relays.1 es s (Some e) l).0 in
      subst (Grounds c (es ++ e ∷ [])) (sym z) (none_more c es (e ∷ []) g (one (Uninitial c) e (λ h i. subst (λ x. T (is_subgoal x)) kind h)))
  learned_grounds g (learned_subgoal n q (inl (i, z))) =
      let long = length-append es (e ∷ []) in
      let at = sym (last_is es e ∙ q) in
      subst (Grounds c (es ++ e ∷ [])) (sym z)
      (omega arith, subst (λ (x : Entry). T (is_subgoal x.kind)) at tt, subst (λ (x : Entry). Initial c x.first) at i)
  learned_grounds g (learned_subgoal n q (inr (i, z))) =
      subst (Grounds c (es ++ e ∷ [])) (sym z) (none_more c es (e ∷ []) g (one (Uninitial c) e (λ h b. i (subst (λ (x : Entry). Initial c x.first) q b))))

-- of what a taking takes
module _ (c : System) (adm : Admitted c) (es : List Entry) (ds : List (List ℕ)) (M : List ℕ) (sv : Sieved c es ds M) where
  largest : TakesLargest c es ds M
  largest = takes_largest c es ds M sv adm

  -- the entry of a chosen candidate means the candidate
  taken_means : (d : List ℕ) → Member d (chosen M ds) → (a : Valuation) → T (clause a (clause_of (entry_of Taken d))) ↔ T (clause a d)
  unfolding largest
  taken_means d m a =
      let r = chosen_from M ds d m in
      let parts = subst (λ x. Part (clause_of (entry_of Taken x)) x × Part x (clause_of (entry_of Taken x))) r.3 (largest.meaning r.0 r.1) in
      (clause_part a _ d parts.0, clause_part a d _ parts.1)

  all_true : (s : ℕ) → T (admitted (taken_entries ds M) s) → T (clauses (bit s) (chosen M ds))
  all_true s h =
      clauses_all (bit s) (chosen M ds) (λ d m. (taken_means d m (bit s)).0 (admitted_at (taken_entries ds M) s (entry_of Taken d) (member_taken ds M d m) h))

  taken_carried : (d : List ℕ) → Member d (chosen M ds) → Carried c (es ++ taken_entries ds M) (entry_of Taken d)
  taken_carried d m =
      let both = largest.together in
      record {
        initiated = λ s h. (taken_means d m (bit s)).1 (clauses_each (bit s) (chosen M ds) d (both.0 s h) m);
        stepped = λ s t y j. (taken_means d m (bit t)).1 (clauses_each (bit t) (chosen M ds) d (both.1 s t (meets_left c es (taken_entries ds M) s y) (all_true s (meets_right c es (taken_entries ds M) s y)) j) m);
      }

  chosen_over : (d : List ℕ) → Member d (chosen M ds) → OverRelays c.n d
  chosen_over d m =
      let r = chosen_from M ds d m in
      subst (OverRelays c.n) r.3 (all_place (λ x. OverRelays c.n x × Rising x) ds [] r.0 sv.candidates.formed r.1).0

  taken_each : (P : Entry → Type 0) → ((d : List ℕ) → Member d (chosen M ds) → P (entry_of Taken d)) → (e : Entry) → Member e (taken_entries ds M) → P e
  taken_each P h e m = let r = taken_member ds M e m in subst P (sym r.2) (h r.0 r.1)

  pub taken_storable : Storable c es (taken_entries ds M)
  taken_storable =
      record {
        ruled = taken_each (λ e. T (rule c es (length es) e)) (λ d m. clause_ruled c Taken d (chosen_over d m));
        carried = taken_each (λ e. T (is_clause e.kind) → Carried c (es ++ taken_entries ds M) e) (λ d m h. taken_carried d m);
        leading = taken_each (λ e. T (is_subgoal e.kind) → Leading c es e) (λ d m h. absurd h);
      }

  pub taken_grounds : NoneBroken c × NoneSubgoal c es → NoneBroken c × NoneSubgoal c (es ++ taken_entries ds M)
  taken_grounds g = none_more c es (taken_entries ds M) g (taken_each (Uninitial c) (λ d m h i. absurd h))
