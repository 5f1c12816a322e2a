use Rattle.std.proofs.Common.{◌≤◌, ◌∙◌, ap, arith, sym, subst, Some, None}
use Rattle.literal_sieve.specs.Literal.{false_at}
use Rattle.books.specs.Entries.{entry_of}
use Rattle.books.specs.declared.entry.Kind.TheVariants.{Found}
use Rattle.books.specs.Books.{Ready}
use Rattle.learning.proofs.Learned.{start_fits, descended_all}
use Rattle.learning.proofs.Minimal.{learns_minimal}
use Rattle.learning.proofs.learning.learn.Goals as goal

pub returns-then-not-is_initiated-clause-learned : goal.returns-then-not-is_initiated-clause-learned
returns-then-not-is_initiated-clause-learned g c =
    λ holding.
    let s = c.args.case.now in
    let es = c.args.entries.now in
    let ready = holding.ready in
    let largest =
    descended_all s es c.args.state _ ready c.new-sieve.result c.new-sieve.ensures.value c.new-sieve.ensures.consecution _ holding.loads
    c.places.result c.places.ensures.value c.places.ensures.bound c.descend.new.marks c.descend.result c.descend.ensures.descended in
    let room = start_fits s es c.args.state _ ready _ c.descend.ensures.capacity in
    record {
      largest = c.descend.new.marks;
      descended = largest;
      uninitiated = λ i. let z = sym ((c.is_initiated.ensures.initiated room).1 i) ∙ c.if-not-is_initiated.true in cc z;
    }

pub returns-then-not-is_initiated-clause-minimal : goal.returns-then-not-is_initiated-clause-minimal
returns-then-not-is_initiated-clause-minimal g c =
    λ holding.
    let s = c.args.case.now in
    let all = c.places.ensures.value ∙ ap (λ v. v.n) c.new-sieve.ensures.value in
    let few : s.n ≤ 32 = omega (arith, all, c.places.ensures.bound) in
    learns_minimal s few c.args.entries.now c.args.state None (returns-then-not-is_initiated-clause-learned g c holding)

pub returns-clause-learned : goal.returns-clause-learned
returns-clause-learned g c =
    λ holding.
    let s = c.args.case.now in
    let es = c.args.entries.now in
    let ready = holding.ready in
    let largest =
    descended_all s es c.args.state _ ready c.new-sieve.result c.new-sieve.ensures.value c.new-sieve.ensures.consecution _ holding.loads
    c.places.result c.places.ensures.value c.places.ensures.bound c.descend.new.marks c.descend.result c.descend.ensures.descended in
    let room = start_fits s es c.args.state _ ready _ c.descend.ensures.capacity in
    let same = c.is_initiated.ensures.capacity ∙ c.descend.ensures.capacity in
    record {
      largest = c.descend.new.marks;
      descended = largest;
      initiated = (c.is_initiated.ensures.initiated room).0 c.if-not-is_initiated.false;
      trimmed = c.trim.new.marks;
      trims = c.trim.ensures.trimmed (subst (Ready s es) (sym same) ready) largest.marks;
      entry = c.of_clause.ensures ∙ ap (entry_of Found) (c.write_clause-count.ensures.value ∙ ap (λ v. false_at v.n v.state c.trim.new.marks) c.new-sieve.ensures.value);
    }

pub returns-clause-minimal : goal.returns-clause-minimal
returns-clause-minimal g c =
    λ holding.
    let s = c.args.case.now in
    let all = c.places.ensures.value ∙ ap (λ v. v.n) c.new-sieve.ensures.value in
    let few : s.n ≤ 32 = omega (arith, all, c.places.ensures.bound) in
    learns_minimal s few c.args.entries.now c.args.state (Some c.of_clause.result) (returns-clause-learned g c holding)
