-- What judging promises follows from the turns that it takes. Assumes nothing.
use Rattle.std.proofs.Common.{◌≡◌, ℕ, ◌+◌, ◌^◌, ◌<◌, not, T, List, [], ◌∷◌, length, get_or, take, Some, None, Ok, Err, Option, sym, refl, ap, subst, ◌∙◌, inl, inr, arith, w8, Fits, nat_eq}
use Rattle.std.proofs.lemmas.Bool.{eq-eqb, cases_lt}
use Rattle.std.proofs.lemmas.List.{length-append, length-take-le, length-drop}
use Rattle.system.specs.Systems.{System}
use Rattle.system.proofs.Truth.{T_true}
use Rattle.solver.specs.declared.capacity.Capacity.{Capacity}
use Rattle.faults.specs.Firsts.{unmet}
use Rattle.faults.proofs.Firsts.{or_none, none_first, none_unmet, unmet_none}
use Rattle.faults.specs.declared.case.CaseFault.TheVariants.{NoMemory}
use Rattle.faults.specs.declared.work.WorkFault.{WorkFault}
use Rattle.faults.specs.declared.work.WorkFault.TheVariants.{InCase, Decided, BookSize, NoPlace, NoCapacity}
use Rattle.layout.specs.Spelling.{spell, Admitted}
use Rattle.books.specs.declared.entry.Entry.{Entry}
use Rattle.books.specs.Books.{rules_fault, enough, room_fault}
use Rattle.histories.specs.declared.verdict.Verdict.{Verdict}
use Rattle.histories.specs.declared.verdict.Verdict.TheVariants.{Undecided, BrokenAt}
use Rattle.histories.specs.Calls.{Progress, Stage, entries, decided, checked, written, storing, wiped, fresh, Opened, open_refused, open_broken, open_sound, OpenedFrom, open_unread, open_scarce, open_read, Learned, Turned, turn_refused, turn_holds, turn_full, turn_stores}
use Rattle.histories.specs.Histories.{kept, Lived, turns}
use Rattle.histories.specs.Laws.{Lawful, taken_count, ReadsRun}
use Rattle.histories.specs.Promises.{Turns, turns_none, turns_more, Ended, Judging, JudgingPromises}
use Rattle.histories.proofs.Standing.{kept_sized, kept_stored}
use Rattle.histories.proofs.Lawful.{lawful}
use Rattle.histories.proofs.ReadOut.{reads}
use Rattle.histories.proofs.Ending.{decides, taken_append, learned_excludes}
use Rattle.histories.proofs.Promised.{some_none, err_ok, opened_system, opening_promises}

-- what stands after an opening with all places of a book, and accepted turns
record Judgeable (capacity : Capacity) (c : System) (places k : ℕ) (x : Stage) : Type 0 where
  lived : Lived c k x.work (entries x)
  admitted : Admitted c
  size : length x.book ≡ x.work.places
  places_same : x.work.places ≡ places
  room : room_fault capacity c places ≡ None
  untaken : taken_count (entries x) ≡ 0

module _ (capacity : Capacity) (c : System) (places k : ℕ) (x : Stage) (old : Judgeable capacity c places k x) where
  same : x.work.system ≡ c
  same = (lawful c k x.work (entries x) old.lived).system

  -- the checks of a turn are passed while nothing is decided
  passes : T (not (decided x.work.verdict)) → checked capacity x ≡ None
  passes u =
      none_first
      (unmet (not (decided x.work.verdict)) Decided
      ∷ unmet (nat_eq (length x.book) x.work.places) BookSize
      ∷ rules_fault x.work.system (entries x)
      ∷ unmet (enough capacity x.work.system x.work.places) NoCapacity
      ∷ []) (
        none_unmet _ Decided (T_true _ u),
        (
          none_unmet _ BookSize (eq-eqb (length x.book) x.work.places old.size),
          (
            subst (λ z. rules_fault z (entries x) ≡ None) (sym same) (lawful c k x.work (entries x) old.lived).ruled,
            (none_unmet _ NoCapacity (rw (same, old.places_same) (unmet_none (enough capacity c places) NoCapacity (or_none _ _ old.room).1)), tt),
          ),
        ),
      )

  kept_same : kept (entries x) x ≡ entries x
  kept_same = kept_sized (entries x) x old.size

  on : (y : Stage) → Turned capacity x (Ok tt) y → length y.book ≡ y.work.places → y.work.places ≡ x.work.places → taken_count (entries y) ≡ 0
      → Judgeable capacity c places (k + 1) y
  on y t size p u = record {
    lived = subst (Lived c (k + 1) y.work) (kept_sized (entries x) y size) (turns old.lived capacity x (Ok tt) y refl kept_same t);
    admitted = old.admitted;
    size = size;
    places_same = p ∙ old.places_same;
    room = old.room;
    untaken = u;
  }

  turn_on : (y : Stage) → Turned capacity x (Ok tt) y → Judgeable capacity c places (k + 1) y
  turn_on y t = go t
    where
      stored_size : (e : Entry) → x.work.used < x.work.places → length (written x.book x.work.used (e ∷ [])) ≡ x.work.places
      stored_size e fits =
          let before = length-take-le x.work.used x.book (omega (arith, old.size)) in
          let behind = length-drop (x.work.used + 1) x.book in
          length-append (take x.work.used x.book) _ ∙ omega (arith, old.size)

      go : Turned capacity x (Ok tt) y → Judgeable capacity c places (k + 1) y
      go (turn_refused f a e z) = absurd (err_ok (Ok tt) f tt e refl)
      go (turn_full a j s u f l e z) = absurd (err_ok (Ok tt) NoPlace tt e refl)
      go (turn_holds a n e z) = on y t (subst (λ (z : Stage). length z.book ≡ z.work.places) (sym z) old.size) (ap (λ (z : Stage). z.work.places) z) (subst (λ (z : Stage). taken_count (entries z) ≡ 0) (sym z) old.untaken)
      go (turn_stores a j s u f l e v learned r z) =
          let size = stored_size e l in
          let used = kept_stored (entries x) x (e ∷ []) v old.size (omega arith) in
          let none = (learned_excludes c old.admitted (entries x) j s u e v (subst (λ z. Learned z (entries x) j s u e v) same learned)).0 in
          on y t
          (subst (λ (z : Stage). length z.book ≡ z.work.places) (sym z) size)
          (ap (λ (z : Stage). z.work.places) z)
          (subst (λ (z : Stage). taken_count (entries z) ≡ 0) (sym z) (ap taken_count (sym (kept_sized (entries x) (storing x (e ∷ []) v) size) ∙ used) ∙ taken_append (entries x) (e ∷ []) ∙ rw (old.untaken, none) refl))

-- and after any number of them
all_on : (capacity : Capacity) (c : System) (places : ℕ) (x : Stage) → Judgeable capacity c places 0 x → (k : ℕ) (y : Stage) → Turns capacity x k y → (j : ℕ) × Judgeable capacity c places j y
all_on capacity c places x h k y turns_none = (0, h)
all_on capacity c places x h k y (turns_more {k = i} {y = z} ts w t) = let r = all_on capacity c places x h i z ts in (r.0 + 1, turn_on capacity c places r.0 z r.1 y t)

-- an opening makes it stand
new : (capacity : Capacity) (c : System) (book : List Entry) (after : List (List ℕ)) (w : Progress) → Admitted c → Lived w.system 0 w []
    → room_fault capacity c (length book) ≡ None → (v : Verdict) → w ≡ fresh c (length book) v → Judgeable capacity c (length book) 0 (record { work = w; book = book; held = after })
new capacity c book after w adm l room v e =
    let used : w.used ≡ 0 = ap (λ (z : Progress). z.used) e in
    let none : take w.used book ≡ [] = ap (λ k. take k book) used in
    let system : w.system ≡ c = ap (λ (z : Progress). z.system) e in
    let places : w.places ≡ length book = ap (λ (z : Progress). z.places) e in
    record {
      lived = subst (Lived c 0 w) (sym none) (subst (λ z. Lived z 0 w []) system l);
      admitted = adm;
      size = sym places;
      places_same = places;
      room = room;
      untaken = ap taken_count none;
    }

opens_judgeable : (capacity : Capacity) (c : System) (book : List Entry) (held after : List (List ℕ)) (w : Progress) → Admitted c → Lived w.system 0 w []
    → Opened capacity c (length book) held (Ok w) after → Judgeable capacity c (length book) 0 (record { work = w; book = book; held = after })
opens_judgeable capacity c book held after w adm l (open_refused f a e h) = absurd (err_ok (Ok w) f w e refl)
opens_judgeable capacity c book held after w adm l (open_broken a s i b e h) = new capacity c book after w adm l a (BrokenAt s) cc
opens_judgeable capacity c book held after w adm l (open_sound a n e h) = new capacity c book after w adm l a Undecided cc

module _ (capacity : Capacity) (c : System) (places k : ℕ) (x : Stage) (old : Judgeable capacity c places k x) where
  -- a turn that is refused then is refused for want of a place
  refused_then : (f : WorkFault) (y : Stage) → T (not (decided x.work.verdict)) → Turned capacity x (Err f) y
      → (f ≡ NoPlace) × (y ≡ wiped x) × (x.work.used ≡ x.work.places) × (x.work.places < 2 ^ c.n)
  refused_then f y u t = go t
    where
      law : Lawful c x.work (entries x)
      law = lawful c k x.work (entries x) old.lived

      go : Turned capacity x (Err f) y → (f ≡ NoPlace) × (y ≡ wiped x) × (x.work.used ≡ x.work.places) × (x.work.places < 2 ^ c.n)
      go (turn_refused g a e z) = absurd (some_none g (sym a ∙ passes capacity c places k x old u))
      go (turn_holds a n e z) = absurd (err_ok (Err f) f tt refl e)
      go (turn_stores a j s v m l e b learned r z) = absurd (err_ok (Err f) f tt refl r)
      go (turn_full a j s v m l e z) =
          let same : f ≡ NoPlace = cc in
          let within = law.within in (
            same,
            z,
            omega arith,
            elim (cases_lt x.work.places (2 ^ c.n)) [
              | inl less ↦ less
              | inr more ↦ absurd ((decides c k x.work (entries x) old.lived).0 (omega (arith, old.untaken)) capacity x y refl (kept_same capacity c places k x old) (subst (λ z. Turned capacity x (Err z) y) same t))
            ],
          )

  module _ (bs : List ℕ) (spelled : bs ≡ spell c) (f : Option WorkFault) (given : f ≡ None → T (decided x.work.verdict))
      (right : (g : WorkFault) → f ≡ Some g → (g ≡ NoPlace) × T (not (decided x.work.verdict)) × (x.work.used ≡ x.work.places) × (x.work.places < 2 ^ c.n)) where
    -- what is promised of a stage that judging ends on
    promised : JudgingPromises bs f x.work x.book
    promised =
        let here = same capacity c places k x old in
        record {
          admitted = subst Admitted (sym here) old.admitted;
          spelled = spelled ∙ ap spell (sym here);
          size = old.size;
          lived = (k, subst (λ z. Lived z k x.work (entries x)) (sym here) old.lived);
          lawful = subst (λ z. Lawful z x.work (entries x)) (sym here) (lawful c k x.work (entries x) old.lived);
          given = given;
          refused = λ g q. let r = right g q in (r.0, r.1, r.2, subst (λ (z : System). x.work.places < 2 ^ z.n) (sym here) r.3);
          run = λ b. subst (λ z. ReadsRun z x.work x.book) (sym here) (reads c k x.work (entries x) x.book old.lived b old.size (kept_sized (entries x) (record { work = x.work; book = x.book; held = [] }) old.size));
        }

  ended : (bs : List ℕ) → bs ≡ spell c → (f : Option WorkFault) (y : Stage) → Ended capacity x f y → JudgingPromises bs f y.work y.book
  ended bs e None y (d, q) = subst (λ (z : Stage). JudgingPromises bs None z.work z.book) (sym q) (promised bs e None (λ n. d) (λ g n. absurd (some_none g (sym n))))
  ended bs e (Some f) y (u, t) =
      let r = refused_then f y u t in
      subst (λ (z : Stage). JudgingPromises bs (Some f) z.work z.book) (sym r.1)
      (promised bs e (Some f) (λ n. absurd (some_none f n)) (λ g q. let is : f ≡ g = cc in (sym is ∙ r.0, u, r.2, r.3)))

pub judging_promises : (capacity : Capacity) (bs : List ℕ) → ((i : ℕ) → Fits w8 (get_or bs i 0)) → (book : List Entry) (held : List (List ℕ)) (f : Option WorkFault) (y : Stage)
    → Judging capacity bs book held f y → JudgingPromises bs f y.work y.book
judging_promises capacity bs small book held f y j = go j.opening
  where
    go : OpenedFrom capacity bs (length book) held (Ok j.opened) j.after → JudgingPromises bs f y.work y.book
    go (open_unread g a e h) = absurd (err_ok (Ok j.opened) (InCase g) j.opened e refl)
    go (open_scarce c a n e h) = absurd (err_ok (Ok j.opened) (InCase NoMemory) j.opened e refl)
    go (open_read c a o) =
        let op = opening_promises capacity bs small (length book) held j.after (Ok j.opened) (open_read c a o) in
        let said = op.spelled j.opened refl in
        let same = (opened_system capacity c (length book) held j.after (Ok j.opened) j.opened o refl) in
        let start = opens_judgeable capacity c book held j.after j.opened (subst Admitted same said.0) (op.lived j.opened refl) o in
        let r = all_on capacity c (length book) _ start j.accepted j.last j.turns in
        ended capacity c (length book) r.0 j.last r.1 bs (said.1 ∙ ap spell same) f y j.ends
