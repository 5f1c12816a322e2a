use Rattle.std.proofs.Common.{◌≡◌, ◌+◌, [], ◌∷◌, true, get_or, refl, sym, ap, ◌∙◌, subst}
use Rattle.masks.specs.Masks.{Implied, inside}
use Rattle.masks.proofs.Meaning.{assumed_value}
use Rattle.trail.specs.Entries.{entries}
use Rattle.trail.proofs.Deciding.{free_in}
use Rattle.search.specs.Looks.{AssumedTo}
use Rattle.search.specs.Searches.{Upheld, NoChoice}
use Rattle.search.specs.declared.search.Search.{Search}
use Rattle.search.proofs.Assuming.{unit_stood, unit_decided, assumed_next}
use Rattle.search.proofs.Lasting.{no_choice_assumed}
use Rattle.search.proofs.Stepping.{extends_same, spells_of, refuted_of, sound_appended}
use Rattle.search.proofs.search.Search.assume.Goals as goal
use Rattle.search.proofs.search.Search.assume.Goals.{in-Forces, in-True}

pub loop-literal-preserved : goal.loop-literal-preserved
loop-literal-preserved c =
    let t = c.loop-literal.self.trail in
    let ds = entries t in
    let s = c.assigned.result in
    let i = c.loop-literal.literal-index in
    let ls = c.args.assumed.now in
    let before = c.loop-literal.invariant in
    let spelled = spells_of t s c.assigned.ensures in
    elim c.match-standing.branch [
      | in-Forces w ↦
          let l = w.in-Forces.forced in
          let stands = w.in-Forces.ensures in
          let made = w.assign.ensures.assigned.taken stands.0 (free_in s ds l.variable spelled stands.2) in
          let own = subst (λ m. inside m l.variable l.value ≡ true) c.with_literal-mask.ensures stands.1 in
          record {
            keeps = λ base units up.
                let kept = before.keeps base units up in
                subst (Upheld base) (sym w.self-is) (
                  sound_appended base ds (entries w.assign.new.self) _ _ _ made kept.0 (assumed_value base (get_or ls i 0) l.variable l.value (units i c.loop-literal-test.true) own),
                  kept.1,
                );
            assumed =
                subst (λ (s : Search). AssumedTo (i + 1) ls (entries s.trail)) (sym w.self-is)
                (assumed_next i ls ds (entries w.assign.new.self) before.assumed (made.made ∷ [], made.is)
                (unit_decided (get_or ls i 0) l.variable l.value _ ds (entries w.assign.new.self) made own));
            unchosen = λ none. subst (λ (s : Search). NoChoice (entries s.trail)) (sym w.self-is) (no_choice_assumed ds (entries w.assign.new.self) _ _ made (before.unchosen none));
            kept = ap (λ (s : Search). s.watches) w.self-is ∙ before.kept;
            learned = ap (λ (s : Search). s.learned) w.self-is ∙ before.learned;
          }
      | in-True w ↦
          record {
            keeps = λ base units up. subst (Upheld base) (sym w.self-is) (before.keeps base units up);
            assumed =
                subst (λ (s : Search). AssumedTo (i + 1) ls (entries s.trail)) (sym w.self-is)
                (assumed_next i ls ds ds before.assumed (extends_same ds ds refl)
                (unit_stood (get_or ls i 0) c.with_literal-mask.result s ds c.standing.result c.with_literal-mask.ensures spelled c.standing.ensures w.in-True.is));
            unchosen = λ none. subst (λ (s : Search). NoChoice (entries s.trail)) (sym w.self-is) (before.unchosen none);
            kept = ap (λ (s : Search). s.watches) w.self-is ∙ before.kept;
            learned = ap (λ (s : Search). s.learned) w.self-is ∙ before.learned;
          }
    ]

pub returns-in-False-clause-found : goal.returns-in-False-clause-found
returns-in-False-clause-found c =
    let t = c.loop-literal.self.trail in (
      refuted_of c.with_literal-mask.result c.assigned.result (entries t) (spells_of t c.assigned.result c.assigned.ensures) c.in-False.ensures,
      λ base units. subst (Implied base) (sym c.with_literal-mask.ensures) (units c.loop-literal.literal-index c.loop-literal-test.true),
    )
