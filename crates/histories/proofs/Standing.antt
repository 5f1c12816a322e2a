-- What stands of a work and its used entries after any list of calls, and that each call keeps it. Assumes nothing.
use Rattle.std.proofs.Common.{◌≡◌, ℕ, ◌+◌, ◌≤◌, true, not, List, [], ◌∷◌, ◌++◌, length, take, drop, None, Ok, Result, sym, refl, ap, subst, subst₂, ◌∙◌, arith, nat_eq}
use Rattle.std.proofs.lemmas.Bool.{eq-eqb, eqb-true}
use Rattle.std.proofs.lemmas.List.{length-append, length-take-le, length-drop}
use Rattle.system.specs.Systems.{System}
use Rattle.solver.specs.declared.capacity.Capacity.{Capacity}
use Rattle.faults.specs.declared.work.WorkFault.{WorkFault}
use Rattle.faults.specs.Firsts.{unmet}
use Rattle.faults.specs.declared.work.WorkFault.TheVariants.{Decided, BookSize}
use Rattle.faults.proofs.Firsts.{or_none, unmet_none}
use Rattle.layout.specs.Spelling.{Admitted}
use Rattle.books.specs.declared.entry.Entry.{Entry}
use Rattle.books.specs.Books.{Ruled}
use Rattle.books.specs.Targets.{FirstCounterexample, NoCounterexample}
use Rattle.books.proofs.Entries.{take_written}
use Rattle.books.proofs.Ruled.{ruled_append}
use Rattle.taking.specs.Taking.{Sieved, taken_entries}
use Rattle.histories.specs.declared.verdict.Verdict.{Verdict}
use Rattle.histories.specs.declared.verdict.Verdict.TheVariants.{Undecided, Holds, BrokenAt, BrokenByEntry}
use Rattle.histories.specs.Calls.{Progress, Stage, decided, entries, checked, written, storing, holding, fresh, Opened, open_refused, open_broken, open_sound, Learned, Turned, turn_refused, turn_holds, turn_full, turn_stores, Took, take_refused, take_unread, take_full, take_stores}
use Rattle.histories.specs.Histories.{kept, Lived, opens, turns, takes, looks}
use Rattle.histories.proofs.Invariant.{Sound, sound_append}
use Rattle.histories.proofs.Storable.{NoneBroken, NoneSubgoal, Grounds, Storable, learned_storable, learned_grounds, taken_storable, taken_grounds}

pub record Standing (c : System) (w : Progress) (es : List Entry) : Type 0 where
  pub system_admitted : Admitted c
  pub same : w.system ≡ c
  pub counts : w.used ≡ length es
  pub within : w.used ≤ w.places
  pub ruled : Ruled c es
  pub sound : Sound c es
  pub grounds : Grounds c es w.verdict

still_open : (v : Verdict) → not (decided v) ≡ true → v ≡ Undecided
still_open Undecided e = refl
still_open Holds e = cc
still_open (BrokenAt s) e = cc
still_open BrokenByEntry e = cc

-- what a passed check says: nothing is decided, and the book has the work's size
pub checked_open : (capacity : Capacity) (x : Stage) → checked capacity x ≡ None → (x.work.verdict ≡ Undecided) × (length x.book ≡ x.work.places)
checked_open capacity x h =
    let first = or_none (unmet (not (decided x.work.verdict)) Decided) _ h in
    let second = or_none (unmet (nat_eq (length x.book) x.work.places) BookSize) _ first.1 in
    (still_open x.work.verdict (unmet_none _ _ first.0), eqb-true _ _ (unmet_none _ _ second.0))

pub kept_sized : (es : List Entry) (x : Stage) → length x.book ≡ x.work.places → kept es x ≡ entries x
kept_sized es x size = rw (eq-eqb (length x.book) x.work.places size) refl

-- the used entries after storing
pub kept_stored : (es : List Entry) (x : Stage) (new : List Entry) (v : Verdict) → length x.book ≡ x.work.places
    → x.work.used + length new ≤ x.work.places → kept es (storing x new v) ≡ entries x ++ new
kept_stored es x new v size fits =
    kept_sized es (storing x new v) long ∙ take_written x.book new (drop (x.work.used + length new) x.book) x.work.used (omega arith)
  where
    long : length (written x.book x.work.used new) ≡ x.work.places
    long =
        let before = length-take-le x.work.used x.book (omega arith) in
        let behind = length-drop (x.work.used + length new) x.book in
        let end = length-append new (drop (x.work.used + length new) x.book) in
        length-append (take x.work.used x.book) _ ∙ omega arith

-- each call keeps what stands
module _ (c : System) (es : List Entry) (x : Stage) (old : Standing c x.work es) (q : kept es x ≡ es) where
  abbrev After : Stage → Type 0
  After y = Standing c y.work (kept es y)

  left : After x
  left = subst (Standing c x.work) (sym q) old

  module _ (capacity : Capacity) (h : checked capacity x ≡ None) where
    open_grounds : NoneBroken c × NoneSubgoal c es
    open_grounds = subst (Grounds c es) (checked_open capacity x h).0 old.grounds

    same_entries : entries x ≡ es
    same_entries = sym (kept_sized es x (checked_open capacity x h).1) ∙ q

    here : (P : System → List Entry → Type 0) → P x.work.system (entries x) → P c es
    here P p = subst₂ P old.same same_entries p

    stored : (new : List Entry) (v : Verdict) → x.work.used + length new ≤ x.work.places → Storable c es new → Grounds c (es ++ new) v
        → After (storing x new v)
    stored new v fits ok grounds =
        subst (Standing c (storing x new v).work) (sym (kept_stored es x new v (checked_open capacity x h).1 fits ∙ ap (λ z. z ++ new) same_entries))
        (record {
          system_admitted = old.system_admitted;
          same = old.same;
          counts = ap (λ z. z + length new) old.counts ∙ sym (length-append es new);
          within = fits;
          ruled = ruled_append c es new old.ruled ok.ruled;
          sound = sound_append c es new old.sound ok.carried ok.leading;
          grounds = grounds;
        })

  turn_stands : (capacity : Capacity) (r : Result (Unit {0}) WorkFault) (y : Stage) → Turned capacity x r y → After y
  turn_stands capacity r y (turn_refused f h e p) = subst After (sym p) left
  turn_stands capacity r y (turn_full h k s t f l e p) = subst After (sym p) left
  turn_stands capacity r y (turn_holds h n e p) =
      let g = open_grounds capacity h in
      let held : Standing c (holding x).work es = record {
        system_admitted = old.system_admitted;
        same = old.same;
        counts = old.counts;
        within = old.within;
        ruled = old.ruled;
        sound = old.sound;
        grounds = (g.0, g.1, here capacity h (λ c es. NoCounterexample c es) n);
      } in
      subst After (sym p) (subst (Standing c (holding x).work) (sym q) held)
  turn_stands capacity r y (turn_stores h k s t f l e v learned a p) =
      let first = here capacity h (λ c es. FirstCounterexample c es k s t) f in
      let told = here capacity h (λ c es. Learned c es k s t e v) learned in
      subst After (sym p)
      (stored capacity h (e ∷ []) v (omega arith)
      (learned_storable c old.system_admitted es k s t e v first told) (learned_grounds c old.system_admitted es k s t e v (open_grounds capacity h) told))

  take_stands : (capacity : Capacity) (read : Result (List (List ℕ)) WorkFault) (r : Result (Unit {0}) WorkFault) (y : Stage) → Took capacity x read r y → After y
  take_stands capacity read r y (take_refused f h e p) = subst After (sym p) left
  take_stands capacity read r y (take_unread h f i e p) = subst After (sym p) left
  take_stands capacity read r y (take_full h ds i M sv l e p) = subst After (sym p) left
  take_stands capacity read r y (take_stores h ds i M sv l e p) =
      let sieved = here capacity h (λ c es. Sieved c es ds M) sv in
      subst After (sym p)
      (stored capacity h (taken_entries ds M) Undecided l
      (taken_storable c old.system_admitted es ds M sieved) (taken_grounds c old.system_admitted es ds M sieved (open_grounds capacity h)))

-- an opening gives it
fresh_stands : (c : System) (places : ℕ) (v : Verdict) → Admitted c → Grounds c [] v → Standing c (fresh c places v) []
fresh_stands c places v adm g =
    record {
      system_admitted = adm;
      same = refl;
      counts = refl;
      within = omega arith;
      ruled = refl;
      sound = record { clause_entries = λ e m. absurd m; subgoals = λ j h. absurd (let z : ⊥ = omega arith in z) };
      grounds = g;
    }

open_stands : (c : System) (capacity : Capacity) (places : ℕ) (held after : List (List ℕ)) (w : Progress) → Admitted c → Opened capacity c places held (Ok w) after → Standing c w []
open_stands c capacity places held after w adm (open_refused f e r h) = absurd (let z : ⊥ = cc in z)
open_stands c capacity places held after w adm (open_broken e s i b r h) =
    let made : w ≡ fresh c places (BrokenAt s) = cc in subst (λ z. Standing c z []) (sym made) (fresh_stands c places (BrokenAt s) adm (i, b))
open_stands c capacity places held after w adm (open_sound e n r h) =
    let made : w ≡ fresh c places Undecided = cc in subst (λ z. Standing c z []) (sym made) (fresh_stands c places Undecided adm (n, λ e m. absurd m))

-- every list of calls keeps it
pub lived_standing : {c : System} {k : ℕ} {w : Progress} {es : List Entry} → Lived c k w es → Standing c w es
lived_standing {c} (opens {w} adm capacity places held after o) = open_stands c capacity places held after w adm o
lived_standing {c} (turns {k} {w} {es} l capacity x r y p q t) = turn_stands c es x (subst (λ z. Standing c z es) (sym p) (lived_standing l)) q capacity r y t
lived_standing {c} (takes {k} {w} {es} l capacity x bs r y p q t) = take_stands c es x (subst (λ z. Standing c z es) (sym p) (lived_standing l)) q capacity _ r y t
lived_standing (looks l) = lived_standing l
