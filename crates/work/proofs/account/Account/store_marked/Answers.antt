use Rattle.std.proofs.Common.{subst₂, inl, inr}
use Rattle.work.proofs.Storing.{Storing, storing_stored, storing_end}
use Rattle.work.proofs.account.Account.store_marked.Goals as goal

pub loop-candidate-preserved : goal.loop-candidate-preserved
loop-candidate-preserved c = record {
  can = c.loop-candidate.invariant.can;
  finite = c.loop-candidate.invariant.finite;
  storing =
      let s = subst₂ (Storing _ _ _ _ _) c.in-Some.ensures.steps.1 c.in-Some.ensures.steps.0 c.loop-candidate.invariant.storing in
      storing_stored _ _ _ c.requires.places _ _ _ _ _ _ s _ _ c.store_if_marked.ensures.work c.store_if_marked.ensures.book;
}

pub returns-clause-work : goal.returns-clause-work
returns-clause-work c = (storing_end _ _ _ c.requires.places _ _ _ _ c.loop-candidate.invariant.storing (elim c.in-None.ensures.steps [ inl s ↦ inl s.1.0 | inr s ↦ inr s.1.0 ])).0

pub returns-clause-book : goal.returns-clause-book
returns-clause-book c = (storing_end _ _ _ c.requires.places _ _ _ _ c.loop-candidate.invariant.storing (elim c.in-None.ensures.steps [ inl s ↦ inl s.1.0 | inr s ↦ inr s.1.0 ])).1
