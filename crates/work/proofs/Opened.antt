-- What opening comes to, from what its parts answered. Assumes nothing.
use Rattle.std.proofs.Common.{◌≡◌, ℕ, ◌≤◌, true, List, get_or, None, Ok, Err, Result, sym, refl, inl, inr, arith, w8, Fits}
use Rattle.std.proofs.lemmas.Bool.{leb-true}
use Rattle.system.specs.Systems.{System}
use Rattle.solver.specs.declared.capacity.Capacity.{Capacity}
use Rattle.faults.specs.Firsts.{unless}
use Rattle.faults.specs.declared.case.CaseFault.{CaseFault}
use Rattle.faults.specs.declared.work.WorkFault.{WorkFault}
use Rattle.faults.specs.declared.work.WorkFault.TheVariants.{InCase}
use Rattle.faults.proofs.Firsts.{or_none, unmet_none, unless_err, unless_ok}
use Rattle.layout.specs.Spelling.{spell, Admitted}
use Rattle.layout.specs.Reading.{case_fault, system_in, read_case}
use Rattle.layout.proofs.Law.{read_as_spelled, none_read, fault_read}
use Rattle.cases.specs.Meaning.{Read}
use Rattle.cases.proofs.Promises.{read_ok}
use Rattle.books.specs.Books.{enough, room_fault}
use Rattle.books.proofs.Rooms.{enough_fewer}
use Rattle.histories.specs.Calls.{Progress, OpenedFrom, open_unread, open_scarce, open_read, open_refused}
use Rattle.histories.proofs.Promised.{err_ok}

module _ (capacity : Capacity) (bs : List ℕ) (places : ℕ) (held : List (List ℕ)) where
  pub opened_unread : (f : CaseFault) (r : Result Progress WorkFault) → Err f ≡ unless (case_fault bs) (tt {0}) → r ≡ Err (InCase f) → OpenedFrom capacity bs places held r held
  opened_unread f r e q = open_unread f (fault_read bs f (unless_err (case_fault bs) tt f e)) q refl

  module _ (small : (i : ℕ) → Fits w8 (get_or bs i 0)) (u : Unit {0}) (sound : Ok u ≡ unless (case_fault bs) (tt {0})) where
    read : read_case bs ≡ Ok (system_in bs)
    read = none_read bs (unless_ok (case_fault bs) tt u sound)

    law : (c : System) → read_case bs ≡ Ok c → Admitted c × (bs ≡ spell c)
    law c e = (read_as_spelled bs small c).0 e

    pub opened_refused : (f : WorkFault) (r : Result Progress WorkFault) → ((c : System) → Admitted c → bs ≡ spell c → Err f ≡ unless (room_fault capacity c places) (tt {0})) → r ≡ Err f
        → OpenedFrom capacity bs places held r held
    opened_refused f r told q =
        let l = law (system_in bs) read in
        open_read (system_in bs) read (open_refused f (unless_err (room_fault capacity (system_in bs) places) tt f (told (system_in bs) l.0 l.1)) q refl)

    module _ (v : Unit {0}) (told : (c : System) → Admitted c → bs ≡ spell c → Ok v ≡ unless (room_fault capacity c places) (tt {0})) where
      pub roomy : (c : System) → read_case bs ≡ Ok c → room_fault capacity c places ≡ None
      roomy c e = let l = law c e in unless_ok (room_fault capacity c places) tt v (told c l.0 l.1)

      pub opened_scarce : (f : CaseFault) (r : Result Progress WorkFault) → Read bs (Err f) → r ≡ Err (InCase f) → OpenedFrom capacity bs places held r held
      opened_scarce f r (inl e) q = absurd (err_ok (read_case bs) f (system_in bs) (sym e) read)
      opened_scarce f r (inr p) q = open_scarce (system_in bs) read (roomy (system_in bs) read) (let e = p.0 in cc) refl

      -- what stands of the case that was read
      pub start_fits : (c : System) → Read bs (Ok c) → enough capacity c 0 ≡ true
      start_fits c h =
          let fewer : 0 ≤ places = omega arith in
          let none = or_none _ _ (roomy c (read_ok bs c h)) in
          enough_fewer c capacity 0 places fewer (unmet_none _ _ none.1)

      pub account_fits : (c : System) → Read bs (Ok c) → (0 ≤ places) × (places ≤ 8192) × Admitted c
      account_fits c h =
          let fewer : 0 ≤ places = omega arith in
          let none = or_none _ _ (roomy c (read_ok bs c h)) in
          (fewer, leb-true places 8192 (unmet_none _ _ none.0), (law c (read_ok bs c h)).0)
