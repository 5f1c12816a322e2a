use Rattle.std.proofs.Common.{◌∙◌, length, is_ok, sym, subst}
use Rattle.std.proofs.lemmas.List.{take_at}
use Rattle.books.proofs.Rooms.{start_room}
use Rattle.taking.specs.Taking.{Sieved}
use Rattle.taking.proofs.Largest.{takes_largest}
use Rattle.taking.proofs.Choosing.{book_held, sieved}
use Rattle.taking.proofs.taking.choose.Goals as goal

pub returns-clause-sieved : goal.returns-clause-sieved
returns-clause-sieved g c ready list =
    let system = c.args.case.now in
    let es = c.args.entries.now in
    let ds = c.args.candidates.now in
    let capacity = g.S.Solver.capacity c.args.solver.now in
    let initially = c.mark_initiated.ensures.initially (start_room system capacity (length es) ready.room) list in
    let same = c.mark_initiated.ensures.capacity in
    let held = g.S.Solver.held c.load_book.new.solver in
    let loads = book_held system es capacity ready (g.S.Solver.capacity c.mark_initiated.new.solver) (is_ok c.load_book.result) held same c.load_book.ensures.test c.load_book.ensures.held in
    let ended = sieved system es capacity ready c.mark_initiated.ensures.admitted ds list held (g.S.Solver.capacity c.load_book.new.solver) loads (c.load_book.ensures.capacity ∙ same) c.mark_initiated.new.marks c.descend.new.marks initially c.descend.result c.descend.ensures.descended in
    subst (Sieved system es ds) (sym (take_at c.descend.new.marks _ (length ds) ended.largest.marks.0)) ended

pub returns-clause-largest : goal.returns-clause-largest
returns-clause-largest g c ready list = takes_largest c.args.case.now c.args.entries.now c.args.candidates.now _ (returns-clause-sieved g c ready list) c.mark_initiated.ensures.admitted
