use Rattle.std.proofs.Common.{rules, ◌≡◌, ◌∙◌, get_or, sym, subst, refl}
use Rattle.sieve.specs.Trims.{Tried, tried_dropped, tried_needed}
use Rattle.sieve.proofs.Marked.{is_marked}
use Rattle.learning.specs.Learning.{LiteralClosed, Initiated}
use Rattle.learning.proofs.Learned.{start_fits, descended_without}
use Rattle.learning.proofs.learning.try_without.Goals as goal

pub returns-else-is_initiated-clause-tried : goal.returns-else-is_initiated-clause-tried
returns-else-is_initiated-clause-tried g c =
    λ ready marks.
    let s = c.args.case.now in
    let es = c.args.entries.now in
    let largest =
    descended_without s es c.args.state _ ready c.args.marks.now marks c.args.relay c.new.result c.new.ensures.value c.new.ensures.consecution
    _ _ c.load_book.ensures.test c.load_book.ensures.held _ c.load_book.ensures.capacity c.descend.new.marks c.descend.result (search rules) in
    let room = start_fits s es c.args.state _ ready _ (c.descend.ensures.capacity ∙ c.load_book.ensures.capacity) in
    let one : get_or c.args.marks.now c.args.relay 0 ≡ 1 = search rules in
    tried_needed (is_marked c.args.marks.now c.args.relay one) c.descend.new.marks largest (λ i. let z = sym ((c.is_initiated.ensures.initiated room).1 i) ∙ c.if-is_initiated.false in cc z) refl

pub returns-then-is_initiated-clause-tried : goal.returns-then-is_initiated-clause-tried
returns-then-is_initiated-clause-tried g c =
    λ ready marks.
    let s = c.args.case.now in
    let es = c.args.entries.now in
    let largest =
    descended_without s es c.args.state _ ready c.args.marks.now marks c.args.relay c.new.result c.new.ensures.value c.new.ensures.consecution
    _ _ c.load_book.ensures.test c.load_book.ensures.held _ c.load_book.ensures.capacity c.descend.new.marks c.descend.result (search rules) in
    let room = start_fits s es c.args.state _ ready _ (c.descend.ensures.capacity ∙ c.load_book.ensures.capacity) in
    let one : get_or c.args.marks.now c.args.relay 0 ≡ 1 = search rules in
    let copied : c.copy_from_slice-then-is_initiated.new.self ≡ c.descend.new.marks = search rules in
    subst (Tried s.n (LiteralClosed s es c.args.state) (Initiated s c.args.state) c.args.relay c.args.marks.now) (sym copied)
    (tried_dropped (is_marked c.args.marks.now c.args.relay one) largest ((c.is_initiated.ensures.initiated room).0 c.if-is_initiated.true))
