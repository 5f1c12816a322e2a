-- The takings over the exchange, and the opening of the single relay. Assumes nothing.
use Rattle.std.proofs.Common.{◌≡◌, ℕ, zero, suc, ◌<◌, T, [], ◌∷◌, None, Ok, slice_index_or, le-leb, refl, ap, ◌∙◌, arith}
use Rattle.system.specs.Literals.{bit, clause, clauses}
use Rattle.system.specs.Spelling.{number}
use Rattle.system.specs.Systems.{Initiation, Initial, Broken}
use Rattle.sieve.specs.Marks.{marked, Marks, Within}
use Rattle.sieve.proofs.Marked.{none_marked, marked_below}
use Rattle.books.specs.declared.entry.Kind.TheVariants.{Taken}
use Rattle.books.specs.Books.{meets, room_fault}
use Rattle.taking.specs.Taking.{CandidateClosed, Sieved}
use Rattle.histories.specs.declared.verdict.Verdict.TheVariants.{Undecided, BrokenAt}
use Rattle.histories.specs.Calls.{storing, fresh, Opened, open_refused, open_broken, open_sound}
use Rattle.worked.specs.Systems.{exchange, single}
use Rattle.worked.specs.Descents.{three}
use Rattle.worked.specs.Examples.{only, TakingGives, OpeningGives, off_as}
use Rattle.worked.proofs.Deciding.{a_step, consecution, initiation}
use Rattle.worked.proofs.Outcomes.{itself, marks1, marks3, one_place}
use Rattle.worked.proofs.Descending.{started}
use Rattle.worked.proofs.Giving.{taking_stores}

three_sieved : Sieved exchange [] three (1 ∷ 1 ∷ 0 ∷ [])
three_sieved =
    record {
      candidates = record { few = omega arith; formed = (((omega arith, tt), (tt, tt)), (((omega arith, tt), (tt, tt)), (((omega arith, tt), (tt, tt)), tt))) };
      initially = 1 ∷ 1 ∷ 0 ∷ [];
      initially_true = record { marks = marks; only = λ i t. (started i (marked_below (1 ∷ 1 ∷ 0 ∷ []) i t)).0 t; every = λ i h. (started i h).1 };
      largest = itself 3 (CandidateClosed exchange [] three) (1 ∷ 1 ∷ 0 ∷ []) marks (consecution exchange (meets exchange []) (λ s. clauses (bit s) ((1 ∷ []) ∷ (3 ∷ []) ∷ [])) tt);
    }
  where
    marks : Marks 3 (1 ∷ 1 ∷ 0 ∷ [])
    marks = marks3 1 1 0 (omega arith) (omega arith) (omega arith)

-- no step preserves the first alone: 1 follows 2
alone_sieved : Sieved exchange [] ((1 ∷ []) ∷ []) (0 ∷ [])
alone_sieved =
    record {
      candidates = record { few = omega arith; formed = (((omega arith, tt), (tt, tt)), tt) };
      initially = 1 ∷ [];
      initially_true = record { marks = marks1 1 (omega arith); only = true_one; every = others };
      largest = record {
        marks = marks1 0 (omega arith);
        stable = λ s t a b j. tt;
        within = λ i t. absurd (none_marked 1 i t);
        greatest = one_place (λ M. CandidateClosed exchange [] ((1 ∷ []) ∷ []) M → Within M (1 ∷ []) → Within M (0 ∷ [])) (λ h w i t. t) (λ h w. absurd (h 2 1 tt tt (a_step exchange 2 1 0 tt)));
      };
    }
  where
    true_one : (i : ℕ) → T (marked (1 ∷ []) i) → Initiation exchange (λ s. clause (bit s) (slice_index_or ((1 ∷ []) ∷ []) i []))
    true_one zero t = initiation exchange (λ s. clause (bit s) (1 ∷ [])) tt
    true_one (suc i) t = absurd t

    others : (i : ℕ) → i < 1 → Initiation exchange (λ s. clause (bit s) (slice_index_or ((1 ∷ []) ∷ []) i [])) → T (marked (1 ∷ []) i)
    others zero h g = tt
    others (suc i) h g = absurd (let z : ⊥ = omega arith in z)

pub taken : TakingGives exchange 4 [] three (only (Ok tt) (λ x. storing x (off_as Taken 1 ∷ off_as Taken 2 ∷ []) Undecided))
unfolding number
taken capacity x h r y = taking_stores exchange 4 [] capacity x h refl three (1 ∷ 1 ∷ 0 ∷ []) three_sieved (omega arith) r y

pub not_taken : TakingGives exchange 4 [] ((1 ∷ []) ∷ []) (only (Ok tt) (λ x. storing x [] Undecided))
not_taken capacity x h r y = taking_stores exchange 4 [] capacity x h refl ((1 ∷ []) ∷ []) (0 ∷ []) alone_sieved (omega arith) r y

pub opened : OpeningGives single (λ places. fresh single places (BrokenAt 1))
opened capacity places held few room r after = (to, λ o. open_broken fits 1 on tt o.0 o.1)
  where
    on : Initial single 1
    on = record { low = omega arith; starts = tt }

    fits : room_fault capacity single places ≡ None
    fits = rw (le-leb places 8192 few, room) refl

    broken_one : (s : ℕ) → s < 2 → Broken single s → s ≡ 1
    broken_one zero h b = absurd b
    broken_one (suc s) h b = omega arith

    to : Opened capacity single places held r after → (r ≡ Ok (fresh single places (BrokenAt 1))) × (after ≡ [])
    to (open_refused f e q h) = let p = fits in cc
    to (open_broken l s i b e h) = (e ∙ ap (λ z. Ok (fresh single places (BrokenAt z))) (broken_one s i.low b), h)
    to (open_sound l n e h) = absurd (n 1 on tt)
