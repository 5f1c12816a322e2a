-- A case without a fault, part by part. Assumes nothing.
use Rattle.std.proofs.Common.{◌≡◌, ℕ, eqb, leb, List, length, None, ap}
use Rattle.std.proofs.lemmas.Bool.{and_parts, and_from, leb-true, eqb-true, le-leb, eq-eqb}
use Rattle.faults.specs.Firsts.{inside}
use Rattle.faults.specs.declared.case.CaseFault.TheVariants.{InClause}
use Rattle.faults.specs.declared.case.ListName.{ListName}
use Rattle.faults.specs.declared.case.ListName.TheVariants.{Start, Step, Safety}
use Rattle.faults.proofs.Firsts.{first_none, none_first, unmet_none, none_unmet, inside_none}
use Rattle.clauses.specs.declared.scope.Scope.{Scope}
use Rattle.layout.specs.Reading.{field, step_place, safety_place, left_place, header_faults, section_faults, section_fault, case_faults, case_fault}
use Rattle.layout.proofs.Sound.{SectionSound, Sound}

module _ (bs : List ℕ) where
  section_sound : (name : ListName) (scope : Scope) (stated count at : ℕ) → section_fault name stated scope count at bs ≡ None → SectionSound scope stated count at bs
  section_sound name scope stated count at e =
      let p = first_none (section_faults name stated scope count at bs) e in
      record { offset = eqb-true stated at (unmet_none (eqb stated at) _ p.0); clauses = inside_none InClause _ p.1.0 }

  sound_section : (name : ListName) (scope : Scope) (stated count at : ℕ) → SectionSound scope stated count at bs → section_fault name stated scope count at bs ≡ None
  sound_section name scope stated count at s =
      none_first (section_faults name stated scope count at bs) (none_unmet _ _ (eq-eqb _ _ s.offset), (ap (inside InClause) s.clauses, tt))

  pub sound_parts : case_fault bs ≡ None → Sound bs
  sound_parts e =
      let p = first_none (case_faults bs) e in
      let h = first_none (header_faults bs) p.0 in
      let r = and_parts (leb 1 (field bs 0)) (leb (field bs 0) 32) (unmet_none _ _ h.1.0) in
      let t = and_parts (leb (field bs 16) 32768) (eqb (field bs 16) (length bs)) (unmet_none _ _ h.1.1.1.1.1.1.0) in
      record {
        long = leb-true 18 (length bs) (unmet_none _ _ h.0);
        relays = (leb-true 1 (field bs 0) r.0, leb-true (field bs 0) 32 r.1);
        inputs = leb-true (field bs 2) 64 (unmet_none _ _ h.1.1.0);
        starts = leb-true (field bs 4) 256 (unmet_none _ _ h.1.1.1.0);
        steps = leb-true (field bs 6) 1024 (unmet_none _ _ h.1.1.1.1.0);
        safeties = leb-true (field bs 8) 256 (unmet_none _ _ h.1.1.1.1.1.0);
        short = leb-true (field bs 16) 32768 t.0;
        total = eqb-true (field bs 16) (length bs) t.1;
        start = section_sound Start _ _ _ 18 p.1.0;
        step = section_sound Step _ _ _ (step_place bs) p.1.1.0;
        safety = section_sound Safety _ _ _ (safety_place bs) p.1.1.1.0;
        nothing_left = eqb-true (left_place bs) (length bs) (unmet_none _ _ p.1.1.1.1.0);
      }

  pub parts_sound : Sound bs → case_fault bs ≡ None
  parts_sound s =
      none_first (case_faults bs) (
        none_first (header_faults bs) (
          none_unmet _ _ (le-leb _ _ s.long),
          (
            none_unmet _ _ (and_from _ _ (le-leb _ _ s.relays.0) (le-leb _ _ s.relays.1)),
            (
              none_unmet _ _ (le-leb _ _ s.inputs),
              (
                none_unmet _ _ (le-leb _ _ s.starts),
                (
                  none_unmet _ _ (le-leb _ _ s.steps),
                  (
                    none_unmet _ _ (le-leb _ _ s.safeties),
                    (none_unmet _ _ (and_from _ _ (le-leb _ _ s.short) (eq-eqb _ _ s.total)), tt),
                  ),
                ),
              ),
            ),
          ),
        ),
        (
          sound_section Start _ _ _ 18 s.start,
          (
            sound_section Step _ _ _ (step_place bs) s.step,
            (
              sound_section Safety _ _ _ (safety_place bs) s.safety,
              (none_unmet _ _ (eq-eqb _ _ s.nothing_left), tt),
            ),
          ),
        ),
      )
