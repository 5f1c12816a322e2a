use Rattle.std.proofs.Common.{◌≡◌, suc, ◌*◌, ◌≤◌, ◌∷◌, ◌++◌, [], vec_items, vec_len, sym, ap, ◌∙◌, subst, arith}
use Rattle.masks.specs.Questions.{Each}
use Rattle.search.specs.Watched.{watched, pairs, literal_by}
use Rattle.search.specs.declared.learned.TheConstants.{MOST}
use Rattle.search.proofs.Linking.{learned_links, one_more}
use Rattle.search.proofs.Stepping.{each_push}
use Rattle.search.proofs.learned.Learned.remember.Goals as goal

pub invariant_of-self : goal.invariant_of-self
invariant_of-self c =
    let l = c.make_room.new.self in
    let n = vec_len l.clauses in
    let more : suc n ≡ vec_len c.push_reserved.new.self = omega (arith, c.push_reserved.ensures.len) in
    record {
      space = subst (λ k. MOST ≤ k) (sym c.push_reserved.ensures.capacity) l.space;
      room = subst (λ k. MOST * 2 ≤ k) (sym c.watch.ensures.room) l.room;
      watched = one_more l.watches c.watch.new.self n _ _ l.watched
          (learned_links l.watches c.watch.new.self n c.len.result c.args.clause c.args.one c.args.other l.watched c.make_room.ensures.room l.room c.len.ensures c.watch.ensures.watched)
          ∙ ap pairs more;
    }

pub returns-clause-watched : goal.returns-clause-watched
returns-clause-watched c =
    let l = c.make_room.new.self in
    let n = vec_len l.clauses in
    let more = c.push_reserved.ensures.len in (
      watched l.watches,
      c.make_room.ensures.watched,
      learned_links l.watches c.watch.new.self n c.len.result c.args.clause c.args.one c.args.other l.watched c.make_room.ensures.room l.room c.len.ensures c.watch.ensures.watched
          ∙ ap (λ k. watched l.watches ++ (k, literal_by c.args.clause c.args.one) ∷ (k, literal_by c.args.clause c.args.other) ∷ []) (omega arith),
    )

pub returns-clause-each : goal.returns-clause-each
returns-clause-each c base each implied =
    subst (Each base) (sym c.push_reserved.ensures.items) (each_push base (vec_items c.make_room.new.self.clauses) c.args.clause (c.make_room.ensures.each base each) implied)
