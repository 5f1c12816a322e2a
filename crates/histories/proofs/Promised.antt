-- What each call promises follows from what it does. Assumes nothing.
use Rattle.std.proofs.Common.{true≢false, is_ok, is_some, ◌≡◌, ℕ, ◌+◌, not, List, [], ◌∷◌, length, get_or, take, Some, None, Ok, Err, Result, sym, refl, ap, subst, subst₂, ◌∙◌, nat_eq, nat_lt, w8, Fits}
use Rattle.system.specs.Literals.{Member}
use Rattle.system.specs.Systems.{System}
use Rattle.solver.specs.declared.capacity.Capacity.{Capacity}
use Rattle.faults.specs.Firsts.{unmet, or_else}
use Rattle.faults.proofs.Firsts.{or_none, first_none, unmet_none, unless_value}
use Rattle.std.proofs.lemmas.Bool.{eqb-true, ltb-true}
use Rattle.faults.specs.declared.work.WorkFault.{WorkFault}
use Rattle.faults.specs.declared.work.WorkFault.TheVariants.{InCase, BookSize, AgainstRules, NoSuchEntry}
use Rattle.faults.specs.declared.case.CaseFault.TheVariants.{NoMemory}
use Rattle.layout.specs.Spelling.{spell, Admitted}
use Rattle.clauses.specs.Candidates.{read_candidates}
use Rattle.layout.specs.Reading.{read_case}
use Rattle.layout.proofs.Law.{read_as_spelled}
use Rattle.books.specs.declared.entry.Entry.{Entry}
use Rattle.books.specs.Entries.{blank}
use Rattle.books.proofs.Entries.{at_member}
use Rattle.histories.specs.declared.verdict.Verdict.TheVariants.{Undecided, BrokenAt}
use Rattle.histories.specs.Calls.{Progress, Stage, fresh, Opened, open_refused, open_broken, open_sound, OpenedFrom, open_unread, open_scarce, open_read, Turned, Took}
use Rattle.histories.specs.Histories.{counted, kept, Lived, opens, turns, takes}
use Rattle.histories.specs.Reads.{stray, read_fault, entry_at}
use Rattle.books.specs.Books.{rules_fault}
use Rattle.histories.specs.Promises.{OpeningPromises, TurnPromises, TakingPromises, ClosingPromises, found, EntryPromises, RunPromises}
use Rattle.histories.proofs.Standing.{kept_sized}
use Rattle.histories.proofs.Lawful.{lawful}
use Rattle.histories.proofs.ReadOut.{reads}
use Rattle.histories.proofs.Ending.{decides}
use Rattle.histories.proofs.Stored.{turn_learns, taking_largest}

-- what is there is not wanting
pub some_none : {A : Type 0} (x : A) → Some x ≡ None → ⊥
some_none x e = true≢false (ap is_some e)

-- what is refused is not accepted
pub err_ok : {A F : Type 0} (r : Result A F) (f : F) (x : A) → r ≡ Err f → r ≡ Ok x → ⊥
err_ok r f x e q = true≢false (ap is_ok (sym q ∙ e))

ok_system : (r : Result Progress WorkFault) (v w : Progress) → r ≡ Ok v → r ≡ Ok w → w.system ≡ v.system
ok_system r v w e q = let z : v ≡ w = cc in ap (λ (w : Progress). w.system) (sym z)

-- the system of a work that was opened
pub opened_system : (capacity : Capacity) (c : System) (places : ℕ) (held after : List (List ℕ)) (r : Result Progress WorkFault) (w : Progress) → Opened capacity c places held r after → r ≡ Ok w → w.system ≡ c
opened_system capacity c places held after r w (open_refused f a e h) q = absurd (err_ok r f w e q)
opened_system capacity c places held after r w (open_broken a s i b e h) q = ok_system r (fresh c places (BrokenAt s)) w e q
opened_system capacity c places held after r w (open_sound a n e h) q = ok_system r (fresh c places Undecided) w e q

module _ (capacity : Capacity) (bs : List ℕ) (small : (i : ℕ) → Fits w8 (get_or bs i 0)) (places : ℕ) (held after : List (List ℕ)) (r : Result Progress WorkFault) where
  spelled : (c : System) → read_case bs ≡ Ok c → Admitted c × (bs ≡ spell c)
  spelled c h = (read_as_spelled bs small c).0 h

  pub opening_promises : OpenedFrom capacity bs places held r after → OpeningPromises bs r
  opening_promises (open_unread f a e h) = record {
    spelled = λ w q. absurd (err_ok r (InCase f) w e q);
    lived = λ w q. absurd (err_ok r (InCase f) w e q);
    lawful = λ w q. absurd (err_ok r (InCase f) w e q);
  }
  opening_promises (open_scarce c a n e h) = record {
    spelled = λ w q. absurd (err_ok r (InCase NoMemory) w e q);
    lived = λ w q. absurd (err_ok r (InCase NoMemory) w e q);
    lawful = λ w q. absurd (err_ok r (InCase NoMemory) w e q);
  }
  opening_promises (open_read c a o) = record { spelled = said; lived = begins; lawful = λ w q. lawful w.system 0 w [] (begins w q) }
    where
      said : (w : Progress) → r ≡ Ok w → Admitted w.system × (bs ≡ spell w.system)
      said w q = subst (λ z. Admitted z × (bs ≡ spell z)) (sym (opened_system capacity c places held after r w o q)) (spelled c a)

      begins : (w : Progress) → r ≡ Ok w → Lived w.system 0 w []
      begins w q =
          subst (λ z. Lived z 0 w []) (sym (opened_system capacity c places held after r w o q))
          (opens ((spelled c a).0) capacity places held after (subst (λ z. Opened capacity c places held z after) q o))

pub turn_promises : (capacity : Capacity) (x : Stage) (r : Result (Unit {0}) WorkFault) (y : Stage) → Admitted x.work.system → Turned capacity x r y → TurnPromises x r y
turn_promises capacity x r y adm t = record {
  lived = λ c k es l q. turns l capacity x r y refl q t;
  lawful = λ c k es l q. lawful c (k + counted r) y.work (kept es y) (turns l capacity x r y refl q t);
  places = λ c k es l q h e. (decides c k x.work es l).0 h capacity x y refl q (subst (λ z. Turned capacity x z y) e t);
  decides = λ c k es l q h e. (decides c k x.work es l).1 h capacity x y refl q (subst (λ z. Turned capacity x z y) e t);
  learns = λ e. turn_learns capacity x y adm (subst (λ z. Turned capacity x z y) e t);
}

pub taking_promises : (capacity : Capacity) (x : Stage) (bs : List ℕ) (r : Result (Unit {0}) WorkFault) (y : Stage) → Admitted x.work.system → Took capacity x (read_candidates x.work.system.n bs) r y → TakingPromises x bs r y
taking_promises capacity x bs r y adm t = record {
  lived = λ c k es l q. on c k es l q;
  lawful = λ c k es l q. lawful c k y.work (kept es y) (on c k es l q);
  takes = λ ds e q. taking_largest capacity x y ds adm (subst (λ z. Took capacity x (Ok ds) z y) q (subst (λ z. Took capacity x z r y) e t));
}
  where
    on : (c : System) (k : ℕ) (es : List Entry) → Lived c k x.work es → kept es x ≡ es → Lived c k y.work (kept es y)
    on c k es l q = takes l capacity x bs r y refl q (subst (λ (z : System). Took capacity x (read_candidates z.n bs) r y) ((lawful c k x.work es l).system) t)

pub closing_promises : (w : Progress) → ClosingPromises w
closing_promises w c k es l = lawful c k w es l

pub run_promises : (w : Progress) (book : List Entry) → RunPromises w book
run_promises w book c k es l q b size = reads c k w es book l b size q

pub entry_promises : (w : Progress) (book : List Entry) (j : ℕ) → EntryPromises w book (entry_at w book j)
entry_promises w book j c k es l q safe e r t s z =
    let parts = unless_value (or_else (read_fault w book) (unmet (nat_lt j (length (take w.used book))) (NoSuchEntry j))) (get_or (take w.used book) j blank) e r in
    let none = or_none (read_fault w book) (unmet (nat_lt j (length (take w.used book))) (NoSuchEntry j)) parts.0 in
    let checks = first_none (unmet (nat_eq (length book) w.places) BookSize ∷ rules_fault w.system (take w.used book) ∷ unmet (not (stray w.verdict (take w.used book))) (AgainstRules 0) ∷ []) none.0 in
    let size = eqb-true (length book) w.places (unmet_none _ BookSize checks.0) in
    let below = ltb-true j (length (take w.used book)) (unmet_none _ _ none.1) in
    let used = sym (kept_sized es (found w book) size) ∙ q in
    let member = subst₂ Member parts.1 used (at_member (take w.used book) blank j below) in
    (lawful c k w es l).sound safe e member t s z
