-- The candidates that the descent ends on are inductive together, no such set has more, and their entries are their clauses. Assumes nothing.
use Rattle.std.proofs.Common.{◌≡◌, ℕ, ◌<◌, T, List, [], ◌∷◌, map, get_or, refl, ap, subst, inl, inr}
use Rattle.system.specs.Literals.{bit, clause, clauses, Member}
use Rattle.system.specs.Systems.{System, Initiation}
use Rattle.system.proofs.Truth.{clauses_each, clauses_all, all_place}
use Rattle.layout.specs.Spelling.{Admitted}
use Rattle.sieve.specs.Marks.{marked}
use Rattle.sieve.proofs.Marked.{marked_below}
use Rattle.candidate_sieve.specs.Candidates.{Formed, chosen}
use Rattle.candidate_sieve.specs.Laws.{chosen_from, chosen_at}
use Rattle.candidate_sieve.proofs.Reading.{candidates_formed}
use Rattle.books.specs.declared.entry.Entry.{Entry}
use Rattle.books.specs.declared.entry.Kind.TheVariants.{Taken}
use Rattle.books.specs.Entries.{entry_of}
use Rattle.books.proofs.Meanings.{rising_consistent, entry_part, part_entry}
use Rattle.taking.specs.Taking.{Sieved, taken_entries, TakesLargest}

module _ (c : System) (es : List Entry) (ds : List (List ℕ)) (M : List ℕ) (sieved : Sieved c es ds M) where
  marked_initiated : (i : ℕ) → T (marked M i) → Initiation c (λ s. clause (bit s) (get_or ds i []))
  marked_initiated i t = sieved.initially_true.only i (sieved.largest.within i t)

  pub chosen_initiated : Initiation c (λ s. clauses (bit s) (chosen M ds))
  chosen_initiated s h =
      clauses_all (bit s) (chosen M ds) (λ d m. let r = chosen_from M ds d m in subst (λ x. T (clause (bit s) x)) r.3 (marked_initiated r.0 r.2 s h))

  pub takes_largest : Admitted c → TakesLargest c es ds M
  takes_largest admitted = record {
    marks = sieved.largest.marks;
    together = (chosen_initiated, sieved.largest.stable);
    largest = λ N marks together. sieved.largest.greatest N marks together.1 (λ i t.
        let low = subst (λ k. i < k) marks.0 (marked_below N i t) in
        sieved.initially_true.every i low (λ s h. clauses_each (bit s) (chosen N ds) (get_or ds i []) (together.0 s h) (chosen_at N ds i low t)));
    meaning = λ i low.
        let d = get_or ds i [] in
        let formed = all_place Formed ds [] i (candidates_formed c ds sieved.candidates admitted.relays.1).formed low in
        let one = rising_consistent d formed.1 in
        (entry_part Taken d formed.0 one, part_entry Taken d formed.0 one);
  }

-- the members of a list, each with its image
member_map : {A B : Type 0} (f : A → B) (xs : List A) (y : B) → Member y (map f xs) → (x : A) × Member x xs × (y ≡ f x)
member_map f [] y m = absurd m
member_map f (x ∷ xs) y (inl e) = (x, inl refl, e)
member_map f (x ∷ xs) y (inr m) = let r = member_map f xs y m in (r.0, inr r.1, r.2)

map_member : {A B : Type 0} (f : A → B) (xs : List A) (x : A) → Member x xs → Member (f x) (map f xs)
map_member f [] x m = absurd m
map_member f (y ∷ xs) x (inl e) = inl (ap f e)
map_member f (y ∷ xs) x (inr m) = inr (map_member f xs x m)

-- the entries of the marked candidates
module _ (ds : List (List ℕ)) (M : List ℕ) where
  pub taken_member : (e : Entry) → Member e (taken_entries ds M) → (d : List ℕ) × Member d (chosen M ds) × (e ≡ entry_of Taken d)
  taken_member = member_map (entry_of Taken) (chosen M ds)

  pub member_taken : (d : List ℕ) → Member d (chosen M ds) → Member (entry_of Taken d) (taken_entries ds M)
  member_taken = map_member (entry_of Taken) (chosen M ds)
