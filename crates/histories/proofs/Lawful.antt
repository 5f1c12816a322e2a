-- The laws of every work and its used entries after any list of calls. Assumes nothing.
use Rattle.std.proofs.Common.{◌-◌, length, List, refl, inl, inr, arith}
use Rattle.system.specs.Literals.{bit, clauses}
use Rattle.system.specs.Systems.{System}
use Rattle.system.proofs.Truth.{and_r}
use Rattle.layout.specs.Spelling.{Admitted}
use Rattle.books.specs.declared.entry.Entry.{Entry}
use Rattle.books.specs.Books.{admitted}
use Rattle.books.proofs.Entries.{admits_clause, admitted_at}
use Rattle.histories.specs.declared.verdict.Verdict.{Verdict}
use Rattle.histories.specs.declared.verdict.Verdict.TheVariants.{Undecided, Holds, BrokenAt, BrokenByEntry}
use Rattle.histories.specs.Laws.{ClausesHold, Concluded, Certified, EveryListLawful}
use Rattle.histories.proofs.Invariant.{Sound, path_doomed, safe_meets, meets_inductive, inductive_safe}
use Rattle.histories.proofs.Storable.{Grounds}
use Rattle.histories.proofs.Standing.{lived_standing}

clauses_hold : (c : System) (es : List Entry) → Sound c es → ClausesHold c es
clauses_hold c es so safe e m k s z =
    admits_clause e.kind e s k (admitted_at es s e m (and_r (clauses (bit s) c.safety) (admitted es s) (safe_meets c es so safe s z)))

concludes : (c : System) (es : List Entry) → Admitted c → Sound c es → (v : Verdict) → Grounds c es v → Concluded c v es
concludes c es adm so Undecided g = tt
concludes c es adm so Holds g = inductive_safe c es so (meets_inductive c es so adm g.0 g.1 g.2)
concludes c es adm so (BrokenAt s) g = ((g.0, tt), (s, inl refl, g.1))
concludes c es adm so BrokenByEntry g =
    let d = path_doomed c es so (length es) (length es - 1) (omega arith) (omega arith) g.1 in
    ((g.2, d.0), (d.1.0, inr d.1.1, d.1.2))

certifies : (c : System) (es : List Entry) → Admitted c → Sound c es → (v : Verdict) → Grounds c es v → Certified c v es
certifies c es adm so Undecided g = tt
certifies c es adm so Holds g = meets_inductive c es so adm g.0 g.1 g.2
certifies c es adm so (BrokenAt s) g = tt
certifies c es adm so BrokenByEntry g = tt

pub lawful : EveryListLawful
lawful c k w es l =
    let stands = lived_standing l in
    record {
      system = stands.same;
      used = stands.counts;
      within = stands.within;
      ruled = stands.ruled;
      leading = λ j h k. let lead = stands.sound.subgoals j h k in (lead.joined, lead.at);
      inductive = λ e m k. let carried = stands.sound.clause_entries e m k in (carried.initiated, λ s t y p j. carried.stepped s t y j);
      sound = clauses_hold c es stands.sound;
      concluded = concludes c es stands.system_admitted stands.sound w.verdict stands.grounds;
      certified = certifies c es stands.system_admitted stands.sound w.verdict stands.grounds;
    }
