-- What passed checks say of the book. Assumes nothing.
use Rattle.std.proofs.Common.{◌≡◌, ◌≤◌, not, [], ◌∷◌, length, None, arith, nat_eq}
use Rattle.std.proofs.lemmas.List.{length-take-le}
use Rattle.solver.specs.declared.capacity.Capacity.{Capacity}
use Rattle.faults.specs.Firsts.{unmet}
use Rattle.faults.specs.declared.work.WorkFault.TheVariants.{Decided, BookSize, NoCapacity}
use Rattle.faults.proofs.Firsts.{first_none, unmet_none}
use Rattle.books.specs.Books.{rules_fault, enough, Ready}
use Rattle.books.proofs.Rooms.{enough_fewer}
use Rattle.histories.specs.Calls.{Stage, decided, entries, checked}
use Rattle.histories.proofs.Standing.{checked_open}

pub checked_ready : (capacity : Capacity) (x : Stage) → checked capacity x ≡ None → x.work.used ≤ x.work.places → Ready x.work.system (entries x) capacity
checked_ready capacity x h within =
    let p = first_none (unmet (not (decided x.work.verdict)) Decided ∷ unmet (nat_eq (length x.book) x.work.places) BookSize ∷ rules_fault x.work.system (entries x) ∷ unmet (enough capacity x.work.system x.work.places) NoCapacity ∷ []) h in
    let size = (checked_open capacity x h).1 in
    let long = length-take-le x.work.used x.book (omega arith) in
    record {
      ruled = p.1.1.0;
      room = enough_fewer x.work.system capacity (length (entries x)) x.work.places (omega arith) (unmet_none _ _ p.1.1.1.0);
    }
