use Rattle.std.proofs.Common.{◌≡◌, ℕ, length, ◌∙◌, [], refl, sym, vec_items, arith, append-nil}
use Rattle.trail.specs.Entries.{entries, made_true}
use Rattle.search.specs.Chains.{link_at}
use Rattle.search.specs.Watched.{room, Stays}
use Rattle.search.specs.declared.watches.Watches.{Watches}
use Rattle.search.proofs.Linking.{numbers_same}
use Rattle.search.proofs.Looking.{walking_first, walking_on, walked, walked_all, walked_off, all_settled}
use Rattle.search.proofs.Stepping.{spells_of, extends_trans, each_at}
use Rattle.search.proofs.propagation.follow.Goals as goal

pub loop-turn-preserved : goal.loop-turn-preserved
loop-turn-preserved c =
    let found = c.in_ok-mask.ensures.lookup in
    record {
      more = extends_trans _ _ _ c.loop-turn.invariant.more c.visit-stood.ensures.more;
      sound = λ base each sound. c.visit-stood.ensures.sound base (each_at base c.args.masks.now _ _ each found.3.0 found.1) (c.loop-turn.invariant.sound base each sound);
      done = c.visit-stood.ensures.done ∙ c.loop-turn.invariant.done;
      room = c.advance-at.ensures.room ∙ c.loop-turn.invariant.room;
      walking =
          walking_on (vec_items c.args.watches.now.links) c.args.literal c.args.masks.now (entries c.args.trail.now) (entries c.loop-turn.trail) c.loop-turn.watches.heads.value
          (vec_items c.loop-turn.watches.links) c.loop-turn.at c.loop-turn._turn c.loop-turn.invariant.walking c.in_ok-clause.field-0 c.in_ok-mask.field-0.now
          (made_true c.loop-turn.trail) c.visit-stood.result (entries c.visit-stood.new.trail) c.assigned.result c.variables.result _ _ _ c.in_ok-clause.ensures.some c.in_ok-clause.ensures.none found.3.0 found.1
          c.loop-turn.invariant.more c.loop-turn.trail.spelled c.visit-stood.ensures.stood c.visit-stood.ensures.brings c.visit-stood.ensures.more c.in_default.not-False
          c.advance-at.ensures.walks c.advance-at.ensures.many c.advance-at.ensures.clauses c.advance-at.ensures.literals c.advance-at.ensures.moves (spells_of c.visit-stood.new.trail c.assigned.result c.assigned.ensures) c.variables.ensures;
    }

pub loop-turn-init : goal.loop-turn-init
loop-turn-init c =
    let w = c.args.watches.now in
    record {
      more = ([], sym (append-nil (entries c.args.trail.now)));
      sound = λ base each sound. sound;
      done = refl;
      room = refl;
      walking = walking_first (vec_items w.links) c.args.literal c.args.masks.now (entries c.args.trail.now) w.heads.value c.first-at.result _ c.first-at.ensures.walks (w.linked c.args.literal c.ranges.literal.fits);
    }

-- each link stays of its clause
stays : (w v : Watches) → length (vec_items v.links) ≡ length (vec_items w.links) → ((q : ℕ) → (link_at (vec_items v.links) q).clause ≡ (link_at (vec_items w.links) q).clause) → room v ≡ room w → Stays w v
stays w v many same room = record { clauses = numbers_same w v many same; space = room }

pub returns-in_err-clause-clause-stays : goal.returns-in_err-clause-clause-stays
returns-in_err-clause-clause-stays c = let i = c.loop-turn.invariant in stays c.args.watches.now c.loop-turn.watches i.walking.many i.walking.clauses i.room

pub returns-in-False-clause-stays : goal.returns-in-False-clause-stays
returns-in-False-clause-stays c = let i = c.loop-turn.invariant in stays c.args.watches.now c.loop-turn.watches i.walking.many i.walking.clauses i.room

pub returns-clause-stays : goal.returns-clause-stays
returns-clause-stays c = let i = c.loop-turn.invariant in stays c.args.watches.now c.loop-turn.watches i.walking.many i.walking.clauses i.room

-- at a place where there is no link
pub returns-in_err-clause-clause-looked : goal.returns-in_err-clause-clause-looked
returns-in_err-clause-clause-looked c none =
    walked (vec_items c.args.watches.now.links) c.args.literal c.args.masks.now (entries c.args.trail.now) (entries c.loop-turn.trail) c.loop-turn.watches.heads.value
    (vec_items c.loop-turn.watches.links) c.loop-turn.at c.loop-turn._turn c.loop-turn.invariant.walking
    (walked_off (vec_items c.args.watches.now.links) c.args.literal c.args.masks.now (entries c.args.trail.now) (entries c.loop-turn.trail) c.loop-turn.watches.heads.value
    (vec_items c.loop-turn.watches.links) c.loop-turn.at c.loop-turn._turn c.loop-turn.invariant.walking c.in_err-clause.ensures.some)

pub returns-in_err-clause-clause-settled : goal.returns-in_err-clause-clause-settled
returns-in_err-clause-clause-settled c none =
    all_settled (vec_items c.args.watches.now.links) c.args.literal c.args.masks.now (entries c.args.trail.now) (entries c.loop-turn.trail) c.loop-turn.watches.heads.value
    (vec_items c.loop-turn.watches.links) c.loop-turn.at c.loop-turn._turn c.loop-turn.invariant.walking
    (walked_off (vec_items c.args.watches.now.links) c.args.literal c.args.masks.now (entries c.args.trail.now) (entries c.loop-turn.trail) c.loop-turn.watches.heads.value
    (vec_items c.loop-turn.watches.links) c.loop-turn.at c.loop-turn._turn c.loop-turn.invariant.walking c.in_err-clause.ensures.some)

-- after as many turns as there are links
pub returns-clause-settled : goal.returns-clause-settled
returns-clause-settled c none =
    all_settled (vec_items c.args.watches.now.links) c.args.literal c.args.masks.now (entries c.args.trail.now) (entries c.loop-turn.trail) c.loop-turn.watches.heads.value
    (vec_items c.loop-turn.watches.links) c.loop-turn.at c.loop-turn._turn c.loop-turn.invariant.walking
    (walked_all (vec_items c.args.watches.now.links) c.args.literal c.args.masks.now (entries c.args.trail.now) (entries c.loop-turn.trail) c.loop-turn.watches.heads.value
    (vec_items c.loop-turn.watches.links) c.loop-turn.at c.loop-turn._turn c.loop-turn.invariant.walking (omega arith))

pub returns-in-False-clause-sound : goal.returns-in-False-clause-sound
returns-in-False-clause-sound c base each sound =
    let found = c.in_ok-mask.ensures.lookup in
    c.visit-stood.ensures.sound base (each_at base c.args.masks.now _ _ each found.3.0 found.1) (c.loop-turn.invariant.sound base each sound)

pub returns-in-False-clause-found : goal.returns-in-False-clause-found
returns-in-False-clause-found c =
    let found = c.in_ok-mask.ensures.lookup in (c.in-False.ensures.brings.1, λ base each. each_at base c.args.masks.now _ _ each found.3.0 found.1)
