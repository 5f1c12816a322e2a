-- What the free choices of a turn and a taking leave open: nothing else. Assumes nothing.
use Rattle.std.proofs.Common.{◌≡◌, ℕ, zero, suc, ◌<◌, ◌⊎◌, List, length, set, Ok, Err, Result, sym, ap, ◌∙◌, subst, inl, inr, arith}
use Rattle.std.proofs.lemmas.Bool.{cases_order}
use Rattle.system.specs.Systems.{System}
use Rattle.solver.specs.declared.capacity.Capacity.{Capacity}
use Rattle.faults.specs.declared.work.WorkFault.{WorkFault}
use Rattle.sieve.specs.Marks.{Largest}
use Rattle.sieve.specs.Trims.{full, Tried, tried_absent, tried_dropped, tried_needed, Trimmed}
use Rattle.sieve.proofs.Marked.{same_marks, marked_below}
use Rattle.sieve.proofs.Descents.{largest_only}
use Rattle.literal_sieve.specs.Literal.{false_at}
use Rattle.books.specs.declared.entry.Entry.{Entry}
use Rattle.books.specs.declared.entry.Kind.TheVariants.{Found}
use Rattle.books.specs.Entries.{entry_of}
use Rattle.learning.specs.Learning.{LiteralClosed, Initiated, DescendedTo, TrimmedTo}
use Rattle.taking.specs.Taking.{CandidateClosed, InitiallyTrue, Sieved, taken_entries}
use Rattle.histories.specs.declared.verdict.Verdict.{Verdict}
use Rattle.histories.specs.declared.verdict.Verdict.TheVariants.{Undecided}
use Rattle.histories.specs.Calls.{Stage, entries, storing, SubgoalVerdict, Learned, learned_clause, learned_subgoal, Took, take_refused, take_unread, take_full, take_stores}
use Rattle.histories.specs.Laws.{TurnDetermined, TakingDetermined}

module _ (places : ℕ) (closed good : List ℕ → Type 0) where
  tried_only : (i : ℕ) (M A B : List ℕ) → Tried places closed good i M A → Tried places closed good i M B → A ≡ B
  tried_only i M A B (tried_absent n e) (tried_absent m f) = e ∙ sym f
  tried_only i M A B (tried_absent n e) (tried_dropped t l g) = absurd (n t)
  tried_only i M A B (tried_absent n e) (tried_needed t L l m f) = absurd (n t)
  tried_only i M A B (tried_dropped t l g) (tried_absent n e) = absurd (n t)
  tried_only i M A B (tried_dropped t l g) (tried_dropped u k h) = largest_only places closed (set M i 0) A B l k
  tried_only i M A B (tried_dropped t l g) (tried_needed u L k n f) = absurd (n (subst good (largest_only places closed (set M i 0) A L l k) g))
  tried_only i M A B (tried_needed t L l n e) (tried_absent m f) = absurd (m t)
  tried_only i M A B (tried_needed t L l n e) (tried_dropped u k g) = absurd (n (subst good (largest_only places closed (set M i 0) B L k l) g))
  tried_only i M A B (tried_needed t L l n e) (tried_needed u K k m f) = e ∙ sym f

  -- two trimmings of the same marks end alike
  trimmed_only : (k : ℕ) (M A B : List ℕ) → Trimmed places closed good k M A → Trimmed places closed good k M B → A ≡ B
  unfolding Trimmed
  trimmed_only zero M A B e f = e ∙ sym f
  trimmed_only (suc k) M A B (K, h, a) (L, g, b) = tried_only k L A B (subst (λ z. Tried places closed good k z A) (trimmed_only k M K L h g) a) b

judged_only : (c : System) (s : ℕ) (p q : Verdict) → SubgoalVerdict c s p → SubgoalVerdict c s q → p ≡ q
judged_only c s p q (inl a) (inl b) = a.1 ∙ sym b.1
judged_only c s p q (inl a) (inr b) = absurd (b.0 a.0)
judged_only c s p q (inr a) (inl b) = absurd (a.0 b.0)
judged_only c s p q (inr a) (inr b) = a.1 ∙ sym b.1

module _ (c : System) (es : List Entry) (s : ℕ) where
  descended_only : (L K : List ℕ) → DescendedTo c es s L → DescendedTo c es s K → L ≡ K
  descended_only = largest_only c.n (LiteralClosed c es s) (full c.n)

  learned_only : (k t : ℕ) (d e : Entry) (p q : Verdict) → Learned c es k s t d p → Learned c es k s t e q → (d ≡ e) × (p ≡ q)
  learned_only k t d e p q (learned_clause a f) (learned_clause b g) =
      let first = subst (λ z. TrimmedTo c es s z a.trimmed) (descended_only a.largest b.largest a.descended b.descended) a.trims in
      let same = trimmed_only c.n (LiteralClosed c es s) (Initiated c s) c.n b.largest a.trimmed b.trimmed first b.trims in
      (a.entry ∙ ap (λ z. entry_of Found (false_at c.n s z)) same ∙ sym b.entry, f ∙ sym g)
  learned_only k t d e p q (learned_clause a f) (learned_subgoal b g j) =
      absurd (b.uninitiated (subst (Initiated c s) (descended_only a.largest b.largest a.descended b.descended) a.initiated))
  learned_only k t d e p q (learned_subgoal a f j) (learned_clause b g) =
      absurd (a.uninitiated (subst (Initiated c s) (descended_only b.largest a.largest b.descended a.descended) b.initiated))
  learned_only k t d e p q (learned_subgoal a f j) (learned_subgoal b g l) = (f ∙ sym g, judged_only c s p q j l)

pub turn_determined : TurnDetermined
turn_determined c es j k s t u v d e p q f g = (target (cases_order j k), learned_only c es s k t d e p q)
  where
    target : (j ≡ k) ⊎ ((j < k) ⊎ (k < j)) → j ≡ k
    target (inl h) = h
    target (inr (inl h)) = absurd (g.earliest j h s t f.found)
    target (inr (inr h)) = absurd (f.earliest k h u v g.found)

initially_only : (c : System) (ds : List (List ℕ)) (M N : List ℕ) → InitiallyTrue c ds M → InitiallyTrue c ds N → M ≡ N
initially_only c ds M N m n =
    same_marks (length ds) M N m.marks n.marks
    (λ i t. n.every i (subst (λ z. i < z) m.marks.0 (marked_below M i t)) (m.only i t))
    (λ i t. m.every i (subst (λ z. i < z) n.marks.0 (marked_below N i t)) (n.only i t))

sieved_only : (c : System) (es : List Entry) (ds : List (List ℕ)) (M N : List ℕ) → Sieved c es ds M → Sieved c es ds N → M ≡ N
sieved_only c es ds M N m n =
    let same = initially_only c ds m.initially n.initially m.initially_true n.initially_true in
    largest_only (length ds) (CandidateClosed c es ds) n.initially M N (subst (λ z. Largest (length ds) (CandidateClosed c es ds) z M) same m.largest) n.largest

module _ (capacity : Capacity) (x : Stage) (read : Result (List (List ℕ)) WorkFault) (p q : Result (Unit {0}) WorkFault) (y z : Stage) where
  -- one reading is sieved to the same entries
  same_taken : (ds fs : List (List ℕ)) (M N : List ℕ) → read ≡ Ok ds → read ≡ Ok fs → Sieved x.work.system (entries x) ds M → Sieved x.work.system (entries x) fs N
      → taken_entries ds M ≡ taken_entries fs N
  same_taken ds fs M N i j m n =
      let e : ds ≡ fs = cc in
      ap (λ z. taken_entries z M) e ∙ ap (taken_entries fs) (sieved_only x.work.system (entries x) fs M N (subst (λ z. Sieved x.work.system (entries x) z M) e m) n)

  took_only : Took capacity x read p y → Took capacity x read q z → (p ≡ q) × (y ≡ z)
  took_only (take_refused f a e g) (take_refused h b i j) = let s : f ≡ h = cc in (e ∙ ap Err s ∙ sym i, g ∙ sym j)
  took_only (take_refused f a e g) (take_unread b h k i j) = cc
  took_only (take_refused f a e g) (take_full b ds k M sv l i j) = cc
  took_only (take_refused f a e g) (take_stores b ds k M sv l i j) = cc
  took_only (take_unread a f k e g) (take_refused h b i j) = cc
  took_only (take_unread a f k e g) (take_unread b h l i j) = let s : f ≡ h = cc in (e ∙ ap Err s ∙ sym i, g ∙ sym j)
  took_only (take_unread a f k e g) (take_full b ds m M sv l i j) = cc
  took_only (take_unread a f k e g) (take_stores b ds m M sv l i j) = cc
  took_only (take_full a ds k M sv l e g) (take_refused h b i j) = cc
  took_only (take_full a ds k M sv l e g) (take_unread b h m i j) = cc
  took_only (take_full a ds k M sv l e g) (take_full b fs m N sw o i j) = (e ∙ sym i, g ∙ sym j)
  took_only (take_full a ds k M sv l e g) (take_stores b fs m N sw o i j) = absurd (let s = ap length (same_taken ds fs M N k m sv sw) in let y : ⊥ = omega arith in y)
  took_only (take_stores a ds k M sv l e g) (take_refused h b i j) = cc
  took_only (take_stores a ds k M sv l e g) (take_unread b h m i j) = cc
  took_only (take_stores a ds k M sv l e g) (take_full b fs m N sw o i j) = absurd (let s = ap length (same_taken ds fs M N k m sv sw) in let y : ⊥ = omega arith in y)
  took_only (take_stores a ds k M sv l e g) (take_stores b fs m N sw o i j) =
      (e ∙ sym i, g ∙ ap (λ new. storing x new Undecided) (same_taken ds fs M N k m sv sw) ∙ sym j)

pub taking_determined : TakingDetermined
taking_determined capacity x read r y t q z u = took_only capacity x read q r z y u t
