use Rattle.std.proofs.Common.{◌+◌, min, length, vec_items, vec_len, sym, ap, subst, arith}
use Rattle.masks.specs.Questions.{Each}
use Rattle.trail.specs.Entries.{entries, handed_out}
use Rattle.trail.specs.Reasons.{Sound}
use Rattle.search.specs.Looks.{Named, Settles}
use Rattle.search.specs.Searches.{Extends}
use Rattle.search.proofs.Stepping.{extends_same, extends_length, extends_trans}
use Rattle.search.proofs.Settling.{behind_later, behind_next}
use Rattle.search.proofs.Linking.{stays_trans, stays_many, stays_clause, named_kept, named_pairs}
use Rattle.search.proofs.search.Search.propagate.Goals as goal

pub returns-in-Some-follow-clause-keeps : goal.returns-in-Some-follow-clause-keeps
returns-in-Some-follow-clause-keeps c base each up =
    let kept = c.loop-decision.invariant.keeps base each up in
    (c.follow.ensures.sound base each (subst (Sound base) (sym c.advance.ensures.entries) kept.0), kept.1)

pub returns-in-Some-follow-2-clause-keeps : goal.returns-in-Some-follow-2-clause-keeps
returns-in-Some-follow-2-clause-keeps c base each up =
    let kept = c.loop-decision.invariant.keeps base each up in (
      c.follow-in-Some.ensures.sound base (subst (Each base) (sym c.as_slice.ensures.value) kept.1)
          (c.follow.ensures.sound base each (subst (Sound base) (sym c.advance.ensures.entries) kept.0)),
      kept.1,
    )

pub returns-in-Some-follow-2-clause-found : goal.returns-in-Some-follow-2-clause-found
returns-in-Some-follow-2-clause-found c =
    let found = c.in-Some-follow-2.ensures.found in
    (found.0, λ base both. found.1 base (subst (Each base) (sym c.as_slice.ensures.value) (c.loop-decision.invariant.keeps base both.0 both.1).1))

pub returns-clause-keeps : goal.returns-clause-keeps
returns-clause-keeps c base each up =
    let kept = c.loop-decision.invariant.keeps base each up in
    (subst (Sound base) (sym c.advance.ensures.entries) kept.0, kept.1)

pub loop-decision-preserved : goal.loop-decision-preserved
loop-decision-preserved c =
    record {
      more = extends_trans _ _ _ (extends_trans _ _ _ (subst (Extends (entries c.args.self.now.trail)) (sym c.advance.ensures.entries) c.loop-decision.invariant.more) c.follow.ensures.more) c.follow-in-Some.ensures.more;
      keeps = λ base each up.
          let kept = c.loop-decision.invariant.keeps base each up in (
            c.follow-in-Some.ensures.sound base (subst (Each base) (sym c.as_slice.ensures.value) kept.1)
                (c.follow.ensures.sound base each (subst (Sound base) (sym c.advance.ensures.entries) kept.0)),
            kept.1,
          );
      stays = stays_trans _ _ _ c.loop-decision.invariant.stays c.follow.ensures.stays;
      learned = c.loop-decision.invariant.learned;
      of_held =
          let w = c.loop-decision.self.watches in
          let ds = entries c.loop-decision.self.trail in
          let es = entries c.advance.new.self in
          let fs = entries c.follow.new.trail in
          let d = c.in-Some.decision in
          let a = handed_out c.args.self.now.trail in
          let k = handed_out c.loop-decision.self.trail in
          let found = c.in-Some.ensures.found in
          let long = extends_length fs (entries c.follow-in-Some.new.trail) c.follow-in-Some.ensures.more in
          let more = extends_length es fs c.follow.ensures.more in
          let same = ap length c.advance.ensures.entries in
          let one = c.follow.ensures.done in
          let two = c.follow-in-Some.ensures.done in
          let next =
          behind_next (vec_items w.links) (vec_items c.follow.new.watches.links) c.args.masks.now ds es fs a (k + 1) (min k (length ds)) k c.falsified-literal.result d
          c.loop-decision.invariant.of_held (omega arith) found.0 (omega arith) found.1 c.falsified-literal.ensures (extends_same ds es (sym c.advance.ensures.entries)) c.follow.ensures.more
          (c.follow.ensures.settled c.in_default-follow.is) (stays_many w c.follow.new.watches c.follow.ensures.stays) (stays_clause w c.follow.new.watches c.follow.ensures.stays) in
          behind_later (vec_items c.follow.new.watches.links) c.args.masks.now fs (entries c.follow-in-Some.new.trail) a
          (min (handed_out c.follow-in-Some.new.trail) (length (entries c.follow-in-Some.new.trail))) (k + 1) c.follow-in-Some.ensures.more (omega arith) (omega arith) next;
      of_learned =
          let l = c.loop-decision.self.learned in
          let ds = entries c.loop-decision.self.trail in
          let es = entries c.follow.new.trail in
          let fs = entries c.follow-in-Some.new.trail in
          let d = c.in-Some.decision in
          let a = handed_out c.args.self.now.trail in
          let k = handed_out c.loop-decision.self.trail in
          let found = c.in-Some.ensures.found in
          let one = c.follow.ensures.done in
          let two = c.follow-in-Some.ensures.done in
          let settled =
          subst (λ ms. Settles (vec_items l.watches.links) (vec_items c.follow-in-Some.new.watches.links) c.falsified-literal.result ms es fs) c.as_slice.ensures.value
          (c.follow-in-Some.ensures.settled c.in_default-follow-2.is) in
          behind_next (vec_items l.watches.links) (vec_items c.follow-in-Some.new.watches.links) (vec_items l.clauses) ds es fs a
          (min (handed_out c.follow-in-Some.new.trail) (length fs)) (min k (length ds)) k c.falsified-literal.result d
          c.loop-decision.invariant.of_learned (omega arith) found.0 (omega arith) found.1 c.falsified-literal.ensures
          (subst (λ xs. Extends xs es) c.advance.ensures.entries c.follow.ensures.more) c.follow-in-Some.ensures.more settled
          (stays_many l.watches c.follow-in-Some.new.watches c.follow-in-Some.ensures.stays) (stays_clause l.watches c.follow-in-Some.new.watches c.follow-in-Some.ensures.stays);
    }

pub returns-clause-propagated : goal.returns-clause-propagated
returns-clause-propagated c none =
    let s = c.loop-decision.self in
    let a = handed_out c.args.self.now.trail in
    let found = c.in_default.ensures.found in
    let same = ap length c.advance.ensures.entries in
    let k = min (handed_out s.trail) (length (entries s.trail)) in
    let later = extends_same (entries s.trail) (entries c.advance.new.self) (sym c.advance.ensures.entries) in
    record {
      all = omega arith;
      of_held = behind_later (vec_items s.watches.links) c.args.masks.now (entries s.trail) (entries c.advance.new.self) a (length (entries c.advance.new.self)) k later (omega arith) (omega arith) c.loop-decision.invariant.of_held;
      of_learned = behind_later (vec_items s.learned.watches.links) (vec_items s.learned.clauses) (entries s.trail) (entries c.advance.new.self) a (length (entries c.advance.new.self)) k later (omega arith) (omega arith) c.loop-decision.invariant.of_learned;
    }

pub follow-requires : goal.follow-requires
follow-requires c = named_kept c.args.self.now.watches c.loop-decision.self.watches _ c.loop-decision.invariant.stays c.requires

pub follow-requires-in-Some : goal.follow-requires-in-Some
follow-requires-in-Some c =
    let l = c.loop-decision.self.learned in
    subst (Named (vec_items l.watches.links)) (sym c.as_slice.ensures.len) (named_pairs l.watches (vec_len l.clauses) l.watched)
