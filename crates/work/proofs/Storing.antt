-- Entries written into a book one after another, and the marked candidates of a list stored in order. Assumes nothing.
use mir.Val.{bool_byte}
use Rattle.std.proofs.Common.{◌≡◌, ℕ, zero, suc, ◌+◌, ◌<◌, ◌≤◌, Bool, true, false, ◌⊎◌, List, [], ◌∷◌, ◌++◌, length, map, cond, take, drop, set, sym, refl, ap, ◌∙◌, subst₂, arith, nat_eq, append_assoc}
use Rattle.std.proofs.lemmas.List.{take-append-drop, length-append, length-take-le, length-drop, length-map, map-append}
use Rattle.std.proofs.lemmas.Slice.{drop-append-drop}
use Rattle.candidate_sieve.specs.Candidates.{chosen}
use Rattle.candidate_sieve.proofs.Adding.{chosen_first, chosen_over}
use Rattle.books.specs.declared.entry.Entry.{Entry}
use Rattle.books.specs.declared.entry.Kind.TheVariants.{Taken}
use Rattle.books.specs.Entries.{entry_of}
use Rattle.books.proofs.Entries.{take_written}
use Rattle.taking.specs.Taking.{taken_entries}
use Rattle.histories.specs.declared.verdict.Verdict.TheVariants.{Undecided}
use Rattle.histories.specs.Calls.{Progress, written}

-- one place set
pub stored : (book : List Entry) (i : ℕ) (e : Entry) → i < length book → set book i e ≡ written book i (e ∷ [])
stored [] i e h = absurd (let z : ⊥ = omega arith in z)
stored (x ∷ book) zero e h = refl
stored (x ∷ book) (suc i) e h =
    let place : suc (i + 1) ≡ suc i + 1 = omega arith in
    ap (λ b. x ∷ b) (stored book i e (omega arith)) ∙ ap (λ k. x ∷ (take i book ++ (e ∷ drop k (x ∷ book)))) place

pub written_none : (book : List Entry) (i : ℕ) → written book i [] ≡ book
written_none book i = ap (λ k. take i book ++ drop k book) (let z : i + 0 ≡ i = omega arith in z) ∙ take-append-drop i book

pub written_length : (book new : List Entry) (i : ℕ) → i + length new ≤ length book → length (written book i new) ≡ length book
written_length book new i h =
    let before = length-take-le i book (omega arith) in
    let behind = length-drop (i + length new) book in
    let end = length-append new (drop (i + length new) book) in
    length-append (take i book) _ ∙ omega arith

-- what follows the entries written
drop_written : (book new : List Entry) (i k : ℕ) → i + length new ≤ length book → drop (i + length new + k) (written book i new) ≡ drop (i + length new + k) book
drop_written book new i k h =
    let before = length-take-le i book (omega arith) in
    let long = length-append (take i book) new in
    ap (drop (i + length new + k)) (sym (append_assoc (take i book) new (drop (i + length new) book)))
    ∙ drop-append-drop (i + length new) book (take i book ++ new) (i + length new + k) (omega arith) (omega arith)

-- entries written after others
written_append : (book new more : List Entry) (i : ℕ) → i + length new ≤ length book → written (written book i new) (i + length new) more ≡ written book i (new ++ more)
written_append book new more i h =
    let front = take_written book new (drop (i + length new) book) i (omega arith) in
    let back = drop_written book new i (length more) h in
    let count = length-append new more in
    let place : i + length new + length more ≡ i + length (new ++ more) = omega arith in
    ap (λ z. z ++ (more ++ drop (i + length new + length more) (written book i new))) front
    ∙ ap (λ z. (take i book ++ new) ++ (more ++ z)) (back ∙ ap (λ k. drop k book) place)
    ∙ append_assoc (take i book) new _
    ∙ ap (λ z. take i book ++ z) (sym (append_assoc new more _))

-- the marked ones are no more than the list has, and marks past its end choose none
pub chosen_few : (M : List ℕ) (cs : List (List ℕ)) → length (chosen M cs) ≤ length cs
chosen_few [] cs = omega arith
chosen_few (x ∷ M) [] = omega arith
chosen_few (x ∷ M) (c ∷ cs) = let h = chosen_few M cs in grind arith

pub chosen_take : (M : List ℕ) (cs : List (List ℕ)) → chosen (take (length cs) M) cs ≡ chosen M cs
chosen_take [] [] = refl
chosen_take [] (c ∷ cs) = refl
chosen_take (x ∷ M) [] = refl
chosen_take (x ∷ M) (c ∷ cs) = ap (λ ds. cond (nat_eq x 1) (c ∷ ds) ds) (chosen_take M cs)

-- how many are marked, counted from the first
pub counted_first : (x : ℕ) (M : List ℕ) (c : List ℕ) (cs : List (List ℕ)) → length (chosen (x ∷ M) (c ∷ cs)) ≡ bool_byte (nat_eq x 1) + length (chosen M cs)
counted_first x M c cs = go (nat_eq x 1)
  where
    go : (b : Bool) → length (cond b (c ∷ chosen M cs) (chosen M cs)) ≡ bool_byte b + length (chosen M cs)
    go true = omega arith
    go false = omega arith

taken_first : (x : ℕ) (M : List ℕ) (c : List ℕ) (cs : List (List ℕ)) → taken_entries (c ∷ cs) (x ∷ M) ≡ taken_entries (c ∷ []) (x ∷ []) ++ taken_entries cs M
taken_first x M c cs = ap (map (entry_of Taken)) (chosen_first x M c cs) ∙ map-append (entry_of Taken) (chosen (x ∷ []) (c ∷ [])) (chosen M cs)

-- the work after storing entries
abbrev pub stored_to : Progress → ℕ → Progress
stored_to w used = record { system = w.system; places = w.places; used = used; verdict = Undecided }

-- a work and its book, where storing the marked ones of what is left gives the work and the book that are to be
pub record Storing (start : Progress) (used : ℕ) (all : List Entry) (w : Progress) (book : List Entry) (M : List ℕ) (cs : List (List ℕ)) : Type 0 where
  pub work : w ≡ stored_to start w.used
  pub size : length book ≡ start.places
  pub count : w.used + length (chosen M cs) ≡ used
  pub together : written book w.used (taken_entries cs M) ≡ all

module _ (start : Progress) (used : ℕ) (all : List Entry) (fits : used ≤ start.places) (w : Progress) (book : List Entry) where
  module _ (x : ℕ) (M : List ℕ) (c : List ℕ) (cs : List (List ℕ)) (s : Storing start used all w book (x ∷ M) (c ∷ cs)) where
    abbrev one : ℕ
    one = length (chosen (x ∷ []) (c ∷ []))

    one_rest : w.used + one + length (chosen M cs) ≡ used
    one_rest = let n = length-append (chosen (x ∷ []) (c ∷ [])) (chosen M cs) in let e = ap length (chosen_first x M c cs) in let k = s.count in omega arith

    storing_on : Storing start used all (stored_to start (w.used + one)) (written book w.used (taken_entries (c ∷ []) (x ∷ []))) M cs
    storing_on = record {
      work = refl;
      size = written_length book (taken_entries (c ∷ []) (x ∷ [])) w.used room ∙ s.size;
      count = one_rest;
      together =
          ap (λ k. written (written book w.used (taken_entries (c ∷ []) (x ∷ []))) (w.used + k) (taken_entries cs M)) (sym many)
          ∙ written_append book (taken_entries (c ∷ []) (x ∷ [])) (taken_entries cs M) w.used room
          ∙ ap (written book w.used) (sym (taken_first x M c cs)) ∙ s.together;
    }
      where
        many : length (taken_entries (c ∷ []) (x ∷ [])) ≡ one
        many = length-map (chosen (x ∷ []) (c ∷ [])) (entry_of Taken)

        room : w.used + length (taken_entries (c ∷ []) (x ∷ [])) ≤ length book
        room = let m = many in let z = s.size in let o = one_rest in omega arith

    pub storing_stored : (now : Progress) (after : List Entry) → now ≡ stored_to w (w.used + one)
        → after ≡ written book w.used (taken_entries (c ∷ []) (x ∷ [])) → Storing start used all now after M cs
    storing_stored now after e f =
        let same : now ≡ stored_to start (w.used + one) = e ∙ ap (λ v. stored_to v (w.used + one)) s.work in
        subst₂ (λ v b. Storing start used all v b M cs) (sym same) (sym f) storing_on

  pub storing_end : (M : List ℕ) (cs : List (List ℕ)) → Storing start used all w book M cs → (cs ≡ []) ⊎ (length M ≡ 0) → (w ≡ stored_to start used) × (book ≡ all)
  storing_end M cs s h =
      let none = chosen_over M cs h in
      let count : w.used ≡ used = let k = s.count in let z = ap length none in omega arith in
      (s.work ∙ ap (stored_to start) count, sym (written_none book w.used) ∙ ap (λ ds. written book w.used (map (entry_of Taken) ds)) (sym none) ∙ s.together)
