use Rattle.std.proofs.Common.{◌∙◌, [], refl, get_or, sym, ◌||◌, true, false, ap₂, subst, append-nil, rules}
use Rattle.masks.specs.Masks.{none}
use Rattle.trail.specs.Entries.{entries, made_true}
use Rattle.search.specs.Watched.{room, watched, Begun}
use Rattle.search.proofs.Linking.{named_begun}
use Rattle.search.proofs.Stepping.{extends_trans, spells_of}
use Rattle.search.proofs.Sweeping.{swept_next}
use Rattle.search.proofs.search.Search.sweep.Goals as goal

pub loop-clause-preserved : goal.loop-clause-preserved
loop-clause-preserved c =
    record {
      keeps = λ base each up.
          let kept = c.loop-clause.invariant.keeps base each up in
          (c.visit-stood.ensures.sound base (each c.loop-clause.clause none c.loop-clause-test.true) kept.0, kept.1);
      more = extends_trans _ _ _ c.loop-clause.invariant.more c.visit-stood.ensures.more;
      swept =
          let t = c.visit-stood.new.trail in
          let i = c.loop-clause.clause in
          let m = get_or c.args.masks.now i none in
          let spelled = spells_of t c.assigned.result c.assigned.ensures in
          let made = subst (λ r. Begun m c.variables.result i r c.visit-stood.result (watched c.loop-clause.self.watches) (watched c.begin.new.self)) c.loop-clause.invariant.room c.begin.ensures.watched in
          swept_next i (room c.args.self.now.watches) c.args.masks.now (entries c.args.self.now.trail) (entries c.loop-clause.self.trail) (entries t) (watched c.loop-clause.self.watches)
          (watched c.begin.new.self) m c.variables.result c.visit-stood.result c.loop-clause.invariant.swept c.visit-stood.ensures.more made (record {
            looked = record {
              before = entries c.loop-clause.self.trail;
              known = made_true c.loop-clause.self.trail;
              stood = c.visit-stood.result;
              after = entries t;
              reached = c.loop-clause.invariant.more;
              spelled = c.loop-clause.self.trail.spelled;
              stands = c.visit-stood.ensures.stood;
              brings = c.visit-stood.ensures.brings;
              left = ([], sym (append-nil (entries t)));
              not_false = c.in_default.not-False;
            };
            known = c.variables.result;
            of_known = λ j. c.variables.ensures j ∙ ap₂ (λ x y. x || y) (spelled j true) (spelled j false);
            before = watched c.loop-clause.self.watches;
            after = watched c.begin.new.self;
            begun = made;
            more = [];
            stand = sym (append-nil (watched c.begin.new.self));
          }) c.loop-clause-test.true none refl;
      named = λ named. named_begun c.loop-clause.self.watches c.begin.new.self _ _ _ _ _ _ c.begin.ensures.watched c.loop-clause-test.true (c.loop-clause.invariant.named named);
      room = c.begin.ensures.room ∙ c.loop-clause.invariant.room;
      learned = c.loop-clause.invariant.learned;
    }

pub returns-in-False-clause-keeps : goal.returns-in-False-clause-keeps
returns-in-False-clause-keeps c base each up =
    let kept = c.loop-clause.invariant.keeps base each (up.0, search (rules, up.1)) in
    (c.visit-stood.ensures.sound base (each c.loop-clause.clause none c.loop-clause-test.true) kept.0, kept.1)
