-- What accepted turns and takings store. Assumes nothing.
use Rattle.std.proofs.Common.{◌≡◌, ℕ, ◌<◌, ◌≤◌, not, List, Some, None, sym, ap, ◌∙◌, subst, inl, inr, arith}
use Rattle.std.proofs.lemmas.Bool.{true≢false}
use Rattle.system.specs.Literals.{bit, variable_of}
use Rattle.system.specs.Systems.{System, OverRelays}
use Rattle.system.proofs.Truth.{member_all, all_members}
use Rattle.system.proofs.Spelled.{spelled_over}
use Rattle.layout.specs.Spelling.{Admitted}
use Rattle.sieve.specs.Marks.{marked}
use Rattle.literal_sieve.specs.Literal.{false_at}
use Rattle.books.specs.declared.entry.Entry.{Entry}
use Rattle.books.specs.declared.entry.Kind.TheVariants.{Found}
use Rattle.books.specs.Entries.{is_subgoal, clause_of, entry_of}
use Rattle.books.specs.Targets.{FirstCounterexample}
use Rattle.books.proofs.Meanings.{spelled_consistent, entry_part}
use Rattle.learning.specs.Learning.{LearnedClause}
use Rattle.learning.proofs.Minimal.{learns_minimal}
use Rattle.taking.proofs.Largest.{takes_largest}
use Rattle.histories.specs.declared.verdict.Verdict.{Verdict}
use Rattle.histories.specs.Calls.{Stage, entries, Learned, learned_clause, learned_subgoal, turn_refused, turn_holds, turn_full, turn_stores, take_refused, take_unread, take_full, take_stores}
use Rattle.histories.specs.Laws.{Stores, TurnLearns, Takes, TakingLargest}
use Rattle.histories.proofs.Determined.{turn_determined}

-- the clause of a learned entry is over the relays
learned_over : (c : System) → Admitted c → (es : List Entry) (s : ℕ) (e : Entry) → LearnedClause c es s e → OverRelays c.n (clause_of e)
learned_over c adm es s e h = subst (λ (e : Entry). OverRelays c.n (clause_of e)) (sym h.entry) over
  where
    few : c.n ≤ 32
    few = adm.relays.1

    over : OverRelays c.n (clause_of (entry_of Found (false_at c.n s h.trimmed)))
    over =
        let wide = spelled_over 32 c.n (marked h.trimmed) (λ i. not (bit s i)) few in
        let narrow = spelled_over c.n c.n (marked h.trimmed) (λ i. not (bit s i)) (omega arith) in
        let one = spelled_consistent c.n (marked h.trimmed) (λ i. not (bit s i)) in
        all_members (λ l. variable_of l < c.n) _ (λ l m. member_all (λ l. variable_of l < c.n) (false_at c.n s h.trimmed) l narrow (entry_part Found _ wide one l m))

stores : (c : System) → Admitted c → (es : List Entry) (k s t : ℕ) (e : Entry) (v : Verdict) → FirstCounterexample c es k s t → Learned c es k s t e v → Stores c es e v
stores c adm es k s t e v first (learned_clause h u) =
    let least = learns_minimal c adm.relays.1 es s (Some e) h in
    record {
      target = k;
      state = s;
      successor = t;
      first = first;
      subgoal_exactly =
          (λ q. absurd (true≢false (sym (ap (λ (e : Entry). is_subgoal e.kind) q) ∙ ap is_subgoal least.0)), λ n. absurd (n (clause_of e) (learned_over c adm es s e h) least.1.false_there least.1.inductive));
      else_minimal = λ n. least;
      only_target = λ j a b f. (turn_determined c es j k a b s t e e v v f first).0;
      only_entry = λ d p l. (turn_determined c es k k s t s t d e p v first first).1 l (learned_clause h u);
    }
stores c adm es k s t e v first (learned_subgoal h q j) =
    record {
      target = k;
      state = s;
      successor = t;
      first = first;
      subgoal_exactly = (λ w. learns_minimal c adm.relays.1 es s None h, λ n. q);
      else_minimal = λ n. absurd (n q);
      only_target = λ i a b f. (turn_determined c es i k a b s t e e v v f first).0;
      only_entry = λ d p l. (turn_determined c es k k s t s t d e p v first first).1 l (learned_subgoal h q j);
    }

pub turn_learns : TurnLearns
turn_learns capacity x y adm (turn_refused f h e q) = cc
turn_learns capacity x y adm (turn_holds h n e q) = inl (ap (λ (z : Stage). z.work.verdict) q, ap (λ (z : Stage). z.book) q)
turn_learns capacity x y adm (turn_full h k s t f l e q) = cc
turn_learns capacity x y adm (turn_stores h k s t f l e v learned r q) =
    let given = ap (λ (z : Stage). z.work.verdict) q in
    inr (e, ap (λ (z : Stage). z.book) q, subst (Stores x.work.system (entries x) e) (sym given) (stores x.work.system adm (entries x) k s t e v f learned))

pub taking_largest : TakingLargest
taking_largest capacity x y ds adm (take_refused f h e q) = cc
taking_largest capacity x y ds adm (take_unread h f i e q) = cc
taking_largest capacity x y ds adm (take_full h fs i M sv l e q) = cc
taking_largest capacity x y ds adm (take_stores h fs i M sv l e q) =
    let same : fs ≡ ds = cc in
    subst (λ z. Takes x z y) same (record { marks = M; stored = ap (λ (z : Stage). z.book) q; largest = takes_largest x.work.system (entries x) fs M sv adm })
