-- The turns on the follower and on the loose one. Assumes nothing.
use Rattle.std.proofs.Common.{◌≡◌, ℕ, zero, suc, ◌&&◌, ◌||◌, T, List, [], ◌∷◌, Ok, Err, refl, sym, subst, subst₂, inl, inr, arith, nat_eq}
use Rattle.std.proofs.lemmas.Bool.{eqb-true}
use Rattle.system.specs.Literals.{bit, clause}
use Rattle.system.specs.Spelling.{spelled, number}
use Rattle.system.specs.Systems.{System}
use Rattle.system.proofs.Truth.{T_true, and_l, and_r, or_e}
use Rattle.faults.specs.declared.work.WorkFault.TheVariants.{NoPlace}
use Rattle.sieve.specs.Marks.{Marks, Within, Largest}
use Rattle.sieve.proofs.Marked.{none_marked}
use Rattle.sieve.specs.Trims.{Tried, tried_dropped, tried_needed, Trimmed}
use Rattle.literal_sieve.specs.Literal.{false_at}
use Rattle.books.specs.declared.entry.Entry.{Entry}
use Rattle.books.specs.declared.entry.Kind.TheVariants.{Found}
use Rattle.books.specs.Entries.{subgoal}
use Rattle.books.specs.Books.{meets, Ruled}
use Rattle.books.specs.Targets.{Counterexample, FirstCounterexample}
use Rattle.learning.specs.Learning.{LiteralClosed, Initiated}
use Rattle.histories.specs.declared.verdict.Verdict.TheVariants.{Undecided, BrokenByEntry}
use Rattle.histories.specs.Calls.{storing, holding, wiped, Learned, learned_clause, learned_subgoal, Turned}
use Rattle.lists.specs.Spelling.{clauses_in, after_clauses}
use Rattle.clauses.specs.Reading.{clauses_fault}
use Rattle.layout.specs.Reading.{read_case}
use Rattle.worked.specs.Systems.{follower, follower_bytes, loose}
use Rattle.worked.specs.Examples.{only, TurnGives, off_as, ZeroOn}
use Rattle.worked.proofs.Deciding.{consecutes, consecution, initiates, initiation, counterexample, the_only, first_counterexample, a_step, no_counterexample}
use Rattle.worked.proofs.Outcomes.{itself, marks2, two_places}
use Rattle.worked.proofs.Giving.{turn_decides, turn_refuses, turn_learns, learns_turn, turn_stores_one}

-- marks of literals false at s, that steps preserve and that are true at the start
module _ (c : System) (es : List Entry) (s : ℕ) (M : List ℕ) where
  closed : Marks c.n M → T (consecutes c (meets c es) (λ t. clause (bit t) (false_at c.n s M))) → Largest c.n (LiteralClosed c es s) M M
  closed m h = itself c.n (LiteralClosed c es s) M m (consecution c (meets c es) (λ t. clause (bit t) (false_at c.n s M)) h)

  initiated : T (initiates c (λ t. clause (bit t) (false_at c.n s M))) → Initiated c s M
  initiated h = initiation c (λ t. clause (bit t) (false_at c.n s M)) h

-- the follower
follower_first : FirstCounterexample follower [] 0 2 3
follower_first = first_counterexample follower [] 0 2 3 0 tt

follower_learns : (t : ℕ) → Learned follower [] 0 2 t (off_as Found 2) Undecided
unfolding spelled number Trimmed
follower_learns t =
    learned_clause (record {
      largest = 1 ∷ 1 ∷ [];
      descended = closed follower [] 2 (1 ∷ 1 ∷ []) (marks2 1 1 (omega arith) (omega arith)) tt;
      initiated = initiated follower [] 2 (1 ∷ 1 ∷ []) tt;
      trimmed = 0 ∷ 1 ∷ [];
      trims = (0 ∷ 1 ∷ [], (1 ∷ 1 ∷ [], refl, drop_first), keep_second);
      entry = refl;
    }) refl
  where
    drop_first : Tried 2 (LiteralClosed follower [] 2) (Initiated follower 2) 0 (1 ∷ 1 ∷ []) (0 ∷ 1 ∷ [])
    drop_first = tried_dropped tt (closed follower [] 2 (0 ∷ 1 ∷ []) (marks2 0 1 (omega arith) (omega arith)) tt) (initiated follower [] 2 (0 ∷ 1 ∷ []) tt)

    keep_second : Tried 2 (LiteralClosed follower [] 2) (Initiated follower 2) 1 (0 ∷ 1 ∷ []) (0 ∷ 1 ∷ [])
    keep_second = tried_needed tt (0 ∷ 0 ∷ []) (closed follower [] 2 (0 ∷ 0 ∷ []) (marks2 0 0 (omega arith) (omega arith)) tt) (λ h. h 0 (record { low = omega arith; starts = tt })) refl

pub found : TurnGives follower 4 [] (only (Ok tt) (λ x. storing x (off_as Found 2 ∷ []) Undecided))
found capacity x h r y = turn_stores_one follower 4 [] capacity x h refl r y 0 2 3 follower_first (omega arith) (off_as Found 2) Undecided every
  where
    every : (s t : ℕ) → Counterexample follower [] 0 s t → Learned follower [] 0 s t (off_as Found 2) Undecided
    every s t e = subst (λ s. Learned follower [] 0 s t (off_as Found 2) Undecided) (the_only follower [] 0 2 3 tt s t e).0 (follower_learns t)

pub holds : TurnGives follower 4 (off_as Found 2 ∷ []) (only (Ok tt) holding)
unfolding spelled
holds capacity x h r y = turn_decides follower 4 (off_as Found 2 ∷ []) capacity x h refl r y (no_counterexample follower (off_as Found 2 ∷ []) (omega arith) tt)

pub no_place : TurnGives follower 0 [] (only (Err NoPlace) wiped)
no_place capacity x h r y = turn_refuses follower 0 [] capacity x h refl r y 0 2 3 follower_first (omega arith)

-- the loose one: state 2 with either successor
loose_first : (t : ℕ) → ZeroOn t → FirstCounterexample loose [] 0 2 t
loose_first t (inl e) = subst (FirstCounterexample loose [] 0 2) (sym e) (first_counterexample loose [] 0 2 1 0 tt)
loose_first t (inr e) = subst (FirstCounterexample loose [] 0 2) (sym e) (first_counterexample loose [] 0 2 3 0 tt)

-- a closed set of the literals false there lacks that of relay 1, since 2 follows 0
loose_descent : Largest 2 (LiteralClosed loose [] 2) (1 ∷ 1 ∷ []) (1 ∷ 0 ∷ [])
unfolding spelled
loose_descent =
    record {
      marks = marks2 1 0 (omega arith) (omega arith);
      stable = consecution loose (meets loose []) (λ t. clause (bit t) (false_at 2 2 (1 ∷ 0 ∷ []))) tt;
      within = within;
      greatest = two_places (λ M. LiteralClosed loose [] 2 M → Within M (1 ∷ 1 ∷ []) → Within M (1 ∷ 0 ∷ []))
          (λ h w i t. absurd (none_marked 2 i t)) (λ h w. absurd (h 0 2 tt tt (a_step loose 0 2 0 tt))) (λ h w i t. t) (λ h w. absurd (h 0 2 tt tt (a_step loose 0 2 0 tt)));
    }
  where
    within : Within (1 ∷ 0 ∷ []) (1 ∷ 1 ∷ [])
    within zero t = tt
    within (suc zero) t = tt
    within (suc (suc i)) t = t

loose_learns : (t : ℕ) → Learned loose [] 0 2 t (subgoal 2 t 0) Undecided
unfolding spelled
loose_learns t =
    learned_subgoal (record { largest = 1 ∷ 0 ∷ []; descended = loose_descent; uninitiated = λ h. h 0 (record { low = omega arith; starts = tt }) }) refl (inr (λ i. i.starts, refl))

pub blocked : TurnGives loose 4 [] (λ x r y. (r ≡ Ok tt) × ((t : ℕ) × ZeroOn t × (y ≡ storing x (subgoal 2 t 0 ∷ []) Undecided)))
blocked capacity x h r y = (to, λ o. learns_turn loose 4 [] capacity x h refl r y 0 2 o.1.0 (loose_first o.1.0 o.1.1) (omega arith) (subgoal 2 o.1.0 0) Undecided (loose_learns o.1.0) (o.0, o.1.2))
  where
    on : (s t : ℕ) → Counterexample loose [] 0 s t → (2 ≡ s) × ZeroOn t
    on s t e =
        let p = counterexample loose [] 0 (λ s t. nat_eq s 2 && (nat_eq t 1 || nat_eq t 3)) tt s t e in (
          sym (eqb-true s 2 (T_true (nat_eq s 2) (and_l (nat_eq s 2) (nat_eq t 1 || nat_eq t 3) p))),
          elim (or_e (nat_eq t 1) (nat_eq t 3) (and_r (nat_eq s 2) (nat_eq t 1 || nat_eq t 3) p)) [
            | inl q ↦ inl (eqb-true t 1 (T_true (nat_eq t 1) q))
            | inr q ↦ inr (eqb-true t 3 (T_true (nat_eq t 3) q))
          ],
        )

    to : Turned capacity x r y → (r ≡ Ok tt) × ((t : ℕ) × ZeroOn t × (y ≡ storing x (subgoal 2 t 0 ∷ []) Undecided))
    to t =
        let o = turn_learns loose 4 [] capacity x h refl r y 0 2 1 (loose_first 1 (inl refl)) (omega arith) t in
        let at = on o.1.0 o.1.1 o.1.2.found in
        (o.0, (o.1.1, at.1, o.1.3 (subgoal 2 o.1.1 0) Undecided (subst (λ s. Learned loose [] 0 s o.1.1 (subgoal 2 o.1.1 0) Undecided) at.0 (loose_learns o.1.1))))

-- with 2 a subgoal no step reaches a state in which relay 0 is on, and 2 follows 0
module _ (t : ℕ) where
  abbrev es : List Entry
  es = subgoal 2 t 0 ∷ []

  loose_second : FirstCounterexample loose es 256 0 2
  loose_second = first_counterexample loose es 256 0 2 0 tt

  loose_learns_again : Learned loose es 256 0 2 (subgoal 0 2 256) BrokenByEntry
  unfolding spelled
  loose_learns_again =
      learned_subgoal
      (record {
        largest = 1 ∷ 1 ∷ [];
        descended = closed loose es 0 (1 ∷ 1 ∷ []) (marks2 1 1 (omega arith) (omega arith)) tt;
        uninitiated = λ h. h 0 (record { low = omega arith; starts = tt });
      })
      refl (inl (record { low = omega arith; starts = tt }, refl))

  ruled : ZeroOn t → Ruled loose es
  ruled (inl e) = subst (λ t. Ruled loose (subgoal 2 t 0 ∷ [])) (sym e) refl
  ruled (inr e) = subst (λ t. Ruled loose (subgoal 2 t 0 ∷ [])) (sym e) refl

  pub broken : ZeroOn t → TurnGives loose 4 es (only (Ok tt) (λ x. storing x (subgoal 0 2 256 ∷ []) BrokenByEntry))
  broken on capacity x h r y = turn_stores_one loose 4 es capacity x h (ruled on) r y 256 0 2 loose_second (omega arith) (subgoal 0 2 256) BrokenByEntry every
    where
      every : (u v : ℕ) → Counterexample loose es 256 u v → Learned loose es 256 u v (subgoal 0 2 256) BrokenByEntry
      every u v e =
          let o = the_only loose es 256 0 2 tt u v e in
          subst₂ (λ u v. Learned loose es 256 u v (subgoal 0 2 256) BrokenByEntry) o.0 o.1 loose_learns_again

-- the follower's bytes
pub follower_read : read_case follower_bytes ≡ Ok follower
unfolding read_case clauses_in after_clauses clauses_fault
follower_read = refl
