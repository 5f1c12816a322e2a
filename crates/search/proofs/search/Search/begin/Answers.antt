use Rattle.std.proofs.Common.{length, vec_items, sym, ap, ◌∙◌, subst, inl, inr}
use Rattle.std.proofs.lemmas.Result.{MatchResult-weaker, IfOk-weaker}
use Rattle.trail.specs.Entries.{entries}
use Rattle.search.specs.Looks.{Named, SweptTo}
use Rattle.search.specs.Watched.{room, watched}
use Rattle.search.specs.declared.watches.Watches.{Watches}
use Rattle.search.proofs.Lasting.{no_jump, lasts_more, lasts_jumped, grounded_here, grounded_lasts}
use Rattle.search.proofs.search.Search.begin.Goals as goal

pub returns-in-Some : goal.returns-in-Some
returns-in-Some c =
    let found = c.in-Some.ensures.found.1 in
    record {
      keeps = λ base given up. c.learn.ensures.keeps base (found base given.1) (c.assume.ensures.keeps base given.1 up);
      cases = MatchResult-weaker c.learn.result c.learn.ensures.cases (λ x h. tt) (λ x f base given up. f base (found base given.1) (c.assume.ensures.keeps base given.1 up));
      grounded = λ none. IfOk-weaker c.learn.result _ _ (λ x jumped. absurd (no_jump (entries c.assume.new.self.trail) (entries c.learn.new.self.trail) (c.assume.ensures.unchosen none) jumped)) c.learn.ensures.jumped;
      begun = IfOk-weaker c.learn.result _ _ (λ x taught. inl taught) c.learn.ensures.taught;
      named = subst (λ (w : Watches). Named (vec_items w.links) (length c.args.question.masks.now)) (sym (c.learn.ensures.kept ∙ c.assume.ensures.kept));
      room = ap room (c.learn.ensures.kept ∙ c.assume.ensures.kept);
    }

pub returns-in-Some-sweep : goal.returns-in-Some-sweep
returns-in-Some-sweep c =
    let found = c.in-Some-sweep.ensures.found.1 in
    let ds = entries c.assume.new.self.trail in
    let swept = entries c.sweep.new.self.trail in
    record {
      keeps = λ base given up. c.learn-in-Some-sweep.ensures.keeps base (found base given.0) (c.sweep.ensures.keeps base given.0 (c.assume.ensures.keeps base given.1 up));
      cases = MatchResult-weaker c.learn-in-Some-sweep.result c.learn-in-Some-sweep.ensures.cases (λ x h. tt)
          (λ x f base given up. f base (found base given.0) (c.sweep.ensures.keeps base given.0 (c.assume.ensures.keeps base given.1 up)));
      grounded = λ none. IfOk-weaker c.learn-in-Some-sweep.result _ _
          (λ x jumped.
          grounded_lasts c.args.question.assumed.now swept (entries c.learn-in-Some-sweep.new.self.trail) (lasts_jumped swept (entries c.learn-in-Some-sweep.new.self.trail) jumped)
          (grounded_lasts c.args.question.assumed.now ds swept (lasts_more ds swept c.sweep.ensures.more)
          (grounded_here c.args.question.assumed.now ds (c.assume.ensures.unchosen none) (c.assume.ensures.assumed c.in_default.is)))) c.learn-in-Some-sweep.ensures.jumped;
      begun = IfOk-weaker c.learn-in-Some-sweep.result _ _ (λ x taught. inl taught) c.learn-in-Some-sweep.ensures.taught;
      named = λ named.
          subst (λ (w : Watches). Named (vec_items w.links) (length c.args.question.masks.now)) (sym c.learn-in-Some-sweep.ensures.kept)
          (c.sweep.ensures.named (subst (λ (w : Watches). Named (vec_items w.links) (length c.args.question.masks.now)) (sym c.assume.ensures.kept) named));
      room = ap room c.learn-in-Some-sweep.ensures.kept ∙ c.sweep.ensures.room ∙ ap room c.assume.ensures.kept;
    }

pub returns-clause-keeps : goal.returns-clause-keeps
returns-clause-keeps c base given up = c.sweep.ensures.keeps base given.0 (c.assume.ensures.keeps base given.1 up)

pub returns-clause-begun : goal.returns-clause-begun
returns-clause-begun c =
    let ms = c.args.question.masks.now in
    let ds = entries c.assume.new.self.trail in
    let s = c.sweep.new.self in
    inr (record {
      start = ds;
      assumed = c.assume.ensures.assumed c.in_default.is;
      left = c.sweep.ensures.more;
      swept = subst (λ r. SweptTo (length ms) ms r ds (entries s.trail) (watched s.watches)) (ap room c.assume.ensures.kept) (c.sweep.ensures.swept c.in_default-sweep.is);
    })

pub returns-clause-grounded : goal.returns-clause-grounded
returns-clause-grounded c none =
    let ls = c.args.question.assumed.now in
    let ds = entries c.assume.new.self.trail in
    grounded_lasts ls ds (entries c.sweep.new.self.trail) (lasts_more ds (entries c.sweep.new.self.trail) c.sweep.ensures.more)
    (grounded_here ls ds (c.assume.ensures.unchosen none) (c.assume.ensures.assumed c.in_default.is))
