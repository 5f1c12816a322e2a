-- The bytes without a fault are those that spell an admitted system. Assumes nothing.
use Rattle.std.proofs.Common.{◌≡◌, ℕ, ◌+◌, ◌-◌, ◌*◌, ◌/◌, ◌%◌, ◌≤◌, true, not, ◌↔◌, List, [], ◌∷◌, ◌++◌, length, get_or, drop, is_some, Some, None, Ok, Err, Result, sym, refl, ap, ◌∙◌, subst, ap₂, arith, length-drop, w8, Fits}
use Rattle.faults.proofs.Firsts.{unless_value}
use Rattle.std.proofs.lemmas.List.{drop_more, append-nil, length-append, drop_all}
use Rattle.system.specs.Systems.{System}
use Rattle.layout.specs.Spelling.{word, step_at, safety_at, spell, Admitted, AcceptedAsSpelled, SpelledOnce}
use Rattle.lists.specs.Spelling.{clauses_in, after_clauses, spell_clauses}
use Rattle.faults.specs.Firsts.{unless}
use Rattle.clauses.specs.Reading.{clauses_fault}
use Rattle.layout.specs.Reading.{field, step_place, safety_place, left_place, system_in, case_fault, accepted, read_case}
use Rattle.layout.proofs.Ends.{start_bytes, step_bytes, safety_bytes, left_bytes, after_section, end_length}
use Rattle.faults.specs.declared.case.CaseFault.{CaseFault}
use Rattle.clauses.specs.declared.scope.Scope.TheVariants.{Before, Across}
use Rattle.lists.proofs.Spelled.{clauses_length, clauses_spelled, after_spelled}
use Rattle.layout.proofs.Sound.{Sound}
use Rattle.layout.proofs.Parts.{sound_parts, parts_sound}
use Rattle.clauses.proofs.Wellformed.{ClausesFormed, clauses_formed, formed_clauses, before_all, all_before, across_all, all_across}

-- how many bytes a system has
pub spelled_length : (c : System) → length (spell c) ≡ 18 + (length (spell_clauses c.start) + (length (spell_clauses c.step) + length (spell_clauses c.safety)))
unfolding spell
spelled_length c =
    let e = length-append (spell_clauses c.start) (spell_clauses c.step ++ spell_clauses c.safety) in
    let f = length-append (spell_clauses c.step) (spell_clauses c.safety) in
    omega arith

-- a header of these numbers, and what follows it
headed : ℕ → ℕ → ℕ → ℕ → ℕ → ℕ → ℕ → ℕ → ℕ → List ℕ → List ℕ
headed a b c d e f g h i rest = word a ++ (word b ++ (word c ++ (word d ++ (word e ++ (word f ++ (word g ++ (word h ++ (word i ++ rest))))))))

module _ (bs : List ℕ) (small : (i : ℕ) → Fits w8 (get_or bs i 0)) where
  low_byte : (lo hi : ℕ) → Fits w8 lo → lo ≡ (lo + 256 * hi) % 256
  low_byte lo hi h = omega arith

  high_byte : (lo hi : ℕ) → Fits w8 lo → hi ≡ (lo + 256 * hi) / 256
  high_byte lo hi h = omega arith

  word_at : (i : ℕ) → i + 2 ≤ length bs → drop i bs ≡ word (field bs i) ++ drop (i + 2) bs
  word_at i h =
      let e : i + 1 + 1 ≡ i + 2 = omega arith in
      drop_more bs i 0 (omega arith)
      ∙ ap (λ xs. get_or bs i 0 ∷ xs) (drop_more bs (i + 1) 0 (omega arith) ∙ ap (λ j. get_or bs (i + 1) 0 ∷ drop j bs) e)
      ∙ ap₂ (λ x y. x ∷ y ∷ drop (i + 2) bs) (low_byte (get_or bs i 0) (get_or bs (i + 1) 0) (small i)) (high_byte (get_or bs i 0) (get_or bs (i + 1) 0) (small i))

  header_bytes : 18 ≤ length bs → bs ≡ headed (field bs 0) (field bs 2) (field bs 4) (field bs 6) (field bs 8) (field bs 10) (field bs 12) (field bs 14) (field bs 16) (drop 18 bs)
  unfolding headed
  header_bytes h =
      word_at 0 (omega arith) ∙ ap (λ xs. word (field bs 0) ++ xs)
      (word_at 2 (omega arith) ∙ ap (λ xs. word (field bs 2) ++ xs)
      (word_at 4 (omega arith) ∙ ap (λ xs. word (field bs 4) ++ xs)
      (word_at 6 (omega arith) ∙ ap (λ xs. word (field bs 6) ++ xs)
      (word_at 8 (omega arith) ∙ ap (λ xs. word (field bs 8) ++ xs)
      (word_at 10 (omega arith) ∙ ap (λ xs. word (field bs 10) ++ xs)
      (word_at 12 (omega arith) ∙ ap (λ xs. word (field bs 12) ++ xs)
      (word_at 14 (omega arith) ∙ ap (λ xs. word (field bs 14) ++ xs)
      (word_at 16 (omega arith)))))))))

module _ (bs : List ℕ) (s : Sound bs) where
  abbrev pub c : System
  c = system_in bs

  starts : ClausesFormed (Before (field bs 0)) (field bs 4) (start_bytes bs)
  starts = clauses_formed (Before (field bs 0)) (field bs 4) _ (start_bytes bs) s.start.clauses

  steps : ClausesFormed (Across (field bs 0) (field bs 2)) (field bs 6) (step_bytes bs)
  steps = clauses_formed (Across (field bs 0) (field bs 2)) (field bs 6) _ (step_bytes bs) s.step.clauses

  safeties : ClausesFormed (Before (field bs 0)) (field bs 8) (safety_bytes bs)
  safeties = clauses_formed (Before (field bs 0)) (field bs 8) _ (safety_bytes bs) s.safety.clauses

  -- each section, and what follows it
  pub start_whole : start_bytes bs ≡ spell_clauses c.start ++ step_bytes bs
  start_whole = starts.whole ∙ ap (λ xs. spell_clauses c.start ++ xs) (sym (after_section (field bs 4) 18 bs))

  pub step_whole : step_bytes bs ≡ spell_clauses c.step ++ safety_bytes bs
  step_whole = steps.whole ∙ ap (λ xs. spell_clauses c.step ++ xs) (sym (after_section (field bs 6) (step_place bs) bs))

  left_none : left_bytes bs ≡ []
  left_none = drop_all (left_place bs) bs (let e = s.nothing_left in omega arith)

  pub safety_whole : safety_bytes bs ≡ spell_clauses c.safety
  safety_whole =
      safeties.whole
      ∙ ap (λ xs. spell_clauses c.safety ++ xs) (sym (after_section (field bs 8) (safety_place bs) bs) ∙ left_none)
      ∙ append-nil (spell_clauses c.safety)

  pub record Lengths : Type 0 where
    pub all : length bs ≡ 18 + length (start_bytes bs)
    pub first : length (start_bytes bs) ≡ length (spell_clauses c.start) + length (step_bytes bs)
    pub second : length (step_bytes bs) ≡ length (spell_clauses c.step) + length (safety_bytes bs)
    pub third : length (safety_bytes bs) ≡ length (spell_clauses c.safety)
    pub step_place_is : step_place bs ≡ length bs - length (step_bytes bs)
    pub safety_place_is : safety_place bs ≡ length bs - length (safety_bytes bs)

  pub lengths : Lengths
  lengths =
      let l = s.long in
      record {
        all = omega (arith, length-drop 18 bs);
        first = ap length start_whole ∙ length-append (spell_clauses c.start) (step_bytes bs);
        second = ap length step_whole ∙ length-append (spell_clauses c.step) (safety_bytes bs);
        third = ap length safety_whole;
        step_place_is = end_length (field bs 4) 18 bs;
        safety_place_is = end_length (field bs 6) (step_place bs) bs;
      }

  sections : start_bytes bs ≡ spell_clauses c.start ++ (spell_clauses c.step ++ spell_clauses c.safety)
  sections =
      start_whole
      ∙ ap (λ xs. spell_clauses c.start ++ xs) (step_whole
      ∙ ap (λ xs. spell_clauses c.step ++ xs) safety_whole)

  pub sound_admitted : Admitted (system_in bs)
  sound_admitted =
      let l = lengths in
      record {
        relays = s.relays;
        inputs = s.inputs;
        few = (let e = clauses_length (field bs 4) (start_bytes bs) in let h = s.starts in omega arith, let e = clauses_length (field bs 6) (step_bytes bs) in let h = s.steps in omega arith, let e = clauses_length (field bs 8) (safety_bytes bs) in let h = s.safeties in omega arith);
        short = let t = s.total in let h = s.short in omega (arith, spelled_length c);
        start_clauses = before_all (field bs 0) c.start starts.formed;
        step_clauses = across_all (field bs 0) (field bs 2) c.step steps.formed;
        safety_clauses = before_all (field bs 0) c.safety safeties.formed;
      }

pub sound_spelled : (bs : List ℕ) → ((i : ℕ) → Fits w8 (get_or bs i 0)) → Sound bs → bs ≡ spell (system_in bs)
unfolding headed spell
sound_spelled bs small s =
    let l = lengths bs s in
    let d = system_in bs in
    let p4 = sym (clauses_length (field bs 4) (start_bytes bs)) in
    let p6 = sym (clauses_length (field bs 6) (step_bytes bs)) in
    let p8 = sym (clauses_length (field bs 8) (safety_bytes bs)) in
    let p10 = s.start.offset in
    let p12 : field bs 12 ≡ step_at d = s.step.offset ∙ omega (arith, l.step_place_is) in
    let p14 : field bs 14 ≡ safety_at d = s.safety.offset ∙ omega (arith, l.safety_place_is) in
    let p16 : field bs 16 ≡ safety_at d + length (spell_clauses d.safety) = s.total ∙ omega arith in
    let q = sections bs s in
    header_bytes bs small s.long ∙ (λ i. headed (field bs 0) (field bs 2) (p4 i) (p6 i) (p8 i) (p10 i) (p12 i) (p14 i) (p16 i) (q i))

-- and the other way round
module _ (c : System) where
  again : (x : ℕ) → x % 256 + 256 * (x / 256) ≡ x
  again x = omega arith

  pub field_start : field (spell c) 4 ≡ length c.start
  unfolding spell
  field_start = again (length c.start)

  pub field_step : field (spell c) 6 ≡ length c.step
  unfolding spell
  field_step = again (length c.step)

  pub field_safety : field (spell c) 8 ≡ length c.safety
  unfolding spell
  field_safety = again (length c.safety)

  pub field_relays : field (spell c) 0 ≡ c.n
  unfolding spell
  field_relays = again c.n

  pub field_inputs : field (spell c) 2 ≡ c.m
  unfolding spell
  field_inputs = again c.m

  start_section : start_bytes (spell c) ≡ spell_clauses c.start ++ (spell_clauses c.step ++ spell_clauses c.safety)
  unfolding spell
  start_section = refl

  step_section : step_bytes (spell c) ≡ spell_clauses c.step ++ spell_clauses c.safety
  step_section = after_section (field (spell c) 4) 18 (spell c) ∙ ap₂ (λ k xs. after_clauses k xs) field_start start_section ∙ after_spelled c.start (spell_clauses c.step ++ spell_clauses c.safety)

  safety_section : safety_bytes (spell c) ≡ spell_clauses c.safety
  safety_section = after_section (field (spell c) 6) (step_place (spell c)) (spell c) ∙ ap₂ (λ k xs. after_clauses k xs) field_step step_section ∙ after_spelled c.step (spell_clauses c.safety)

  left_section : left_bytes (spell c) ≡ []
  left_section =
      after_section (field (spell c) 8) (safety_place (spell c)) (spell c)
      ∙ ap₂ (λ k xs. after_clauses k xs) field_safety (safety_section ∙ sym (append-nil (spell_clauses c.safety))) ∙ after_spelled c.safety []

  pub spelled_system : system_in (spell c) ≡ c
  spelled_system =
      let start = ap₂ (λ k xs. clauses_in k xs) field_start start_section ∙ clauses_spelled c.start (spell_clauses c.step ++ spell_clauses c.safety) in
      let step = ap₂ (λ k xs. clauses_in k xs) field_step step_section ∙ clauses_spelled c.step (spell_clauses c.safety) in
      let safety = ap₂ (λ k xs. clauses_in k xs) field_safety (safety_section ∙ sym (append-nil (spell_clauses c.safety))) ∙ clauses_spelled c.safety [] in
      λ i. record { n = field_relays i; m = field_inputs i; start = start i; step = step i; safety = safety i }

  all_length : length (spell c) ≡ 18 + (length (spell_clauses c.start) + (length (spell_clauses c.step) + length (spell_clauses c.safety)))
  all_length = spelled_length c

  step_length : length (step_bytes (spell c)) ≡ length (spell_clauses c.step) + length (spell_clauses c.safety)
  step_length = ap length step_section ∙ length-append (spell_clauses c.step) (spell_clauses c.safety)

  safety_length : length (safety_bytes (spell c)) ≡ length (spell_clauses c.safety)
  safety_length = ap length safety_section

  pub start_begins : field (spell c) 10 ≡ 18
  unfolding spell
  start_begins = refl

  pub step_begins : field (spell c) 12 ≡ step_at c
  unfolding spell
  step_begins = again (step_at c)

  step_offset : field (spell c) 12 ≡ step_place (spell c)
  step_offset = step_begins ∙ omega (arith, all_length, step_length, end_length (field (spell c) 4) 18 (spell c))

  pub safety_begins : field (spell c) 14 ≡ safety_at c
  unfolding spell
  safety_begins = again (safety_at c)

  safety_offset : field (spell c) 14 ≡ safety_place (spell c)
  safety_offset = safety_begins ∙ omega (arith, all_length, safety_length, end_length (field (spell c) 6) (step_place (spell c)) (spell c))

  sixteen : field (spell c) 16 ≡ safety_at c + length (spell_clauses c.safety)
  unfolding spell
  sixteen = again (safety_at c + length (spell_clauses c.safety))

  total_field : field (spell c) 16 ≡ length (spell c)
  total_field = sixteen ∙ omega (arith, all_length)

  short_total : Admitted c → field (spell c) 16 ≤ 32768
  short_total admitted = let h = admitted.short in omega (arith, total_field)

  spelled_sound : Admitted c → Sound (spell c)
  spelled_sound admitted =
      record {
        long = omega (arith, all_length);
        relays = let h = admitted.relays in (omega (arith, field_relays), omega (arith, field_relays));
        inputs = let h = admitted.inputs in omega (arith, field_inputs);
        starts = let h = admitted.few in omega (arith, field_start);
        steps = let h = admitted.few in omega (arith, field_step);
        safeties = let h = admitted.few in omega (arith, field_safety);
        short = short_total admitted;
        total = total_field;
        start =
            record {
              offset = start_begins;
              clauses =
                  let at : ℕ = 18 in
                  ap₂ (λ k xs. clauses_fault (Before (field (spell c) 0)) k at xs) field_start start_section
                  ∙ ap (λ n. clauses_fault (Before n) (length c.start) at (spell_clauses c.start ++ (spell_clauses c.step ++ spell_clauses c.safety))) field_relays
                  ∙ formed_clauses (Before c.n) c.start at _ (all_before c.n c.start admitted.start_clauses);
            };
        step =
            record {
              offset = step_offset;
              clauses =
                  let at = step_place (spell c) in
                  ap₂ (λ k xs. clauses_fault (Across (field (spell c) 0) (field (spell c) 2)) k at xs) field_step step_section
                  ∙ ap₂ (λ n m. clauses_fault (Across n m) (length c.step) at (spell_clauses c.step ++ spell_clauses c.safety)) field_relays field_inputs
                  ∙ formed_clauses (Across c.n c.m) c.step at _ (all_across c.n c.m c.step admitted.step_clauses);
            };
        safety =
            record {
              offset = safety_offset;
              clauses =
                  let at = safety_place (spell c) in
                  ap₂ (λ k xs. clauses_fault (Before (field (spell c) 0)) k at xs) field_safety (safety_section ∙ sym (append-nil (spell_clauses c.safety)))
                  ∙ ap (λ n. clauses_fault (Before n) (length c.safety) at (spell_clauses c.safety ++ [])) field_relays
                  ∙ formed_clauses (Before c.n) c.safety at [] (all_before c.n c.safety admitted.safety_clauses);
            };
        nothing_left = let e = ap length left_section in omega (arith, end_length (field (spell c) 8) (safety_place (spell c)) (spell c));
      }

  pub spelled_none : Admitted c → case_fault (spell c) ≡ None
  spelled_none admitted = parts_sound (spell c) (spelled_sound admitted)

  pub spelled_read : Admitted c → read_case (spell c) ≡ Ok c
  unfolding read_case
  spelled_read admitted = ap (λ o. unless o (system_in (spell c))) (spelled_none admitted) ∙ ap Ok spelled_system

module _ (bs : List ℕ) (small : (i : ℕ) → Fits w8 (get_or bs i 0)) where
  -- reading accepts exactly what spells an admitted system, and reads that system
  pub read_as_spelled : (c : System) → (read_case bs ≡ Ok c) ↔ (Admitted c × (bs ≡ spell c))
  unfolding read_case
  read_as_spelled c = (
    λ e.
        let p = unless_value (case_fault bs) (system_in bs) c e in
        let s = sound_parts bs p.0 in
        (subst Admitted p.1 (sound_admitted bs s), subst (λ d. bs ≡ spell d) p.1 (sound_spelled bs small s)),
    λ h. ap read_case h.1 ∙ spelled_read c h.0,
  )

  pub accepted_as_spelled : (r : Result (Unit {0}) CaseFault) → r ≡ unless (case_fault bs) tt → AcceptedAsSpelled bs r
  accepted_as_spelled r v = (
    λ e.
        let s = sound_parts bs (unless_value (case_fault bs) tt tt (sym v ∙ e)).0 in
        (system_in bs, sound_admitted bs s, sound_spelled bs small s),
    λ h. v ∙ ap (λ xs. unless (case_fault xs) tt) h.2 ∙ ap (λ o. unless o tt) (spelled_none h.0 h.1),
  )

-- no two admitted systems are spelled alike
pub spelled_once : SpelledOnce
spelled_once c d a b e = let p = sym (spelled_read c a) ∙ ap read_case e ∙ spelled_read d b in cc

-- what reading gives, by the first fault
pub none_accepted : (bs : List ℕ) → case_fault bs ≡ None → accepted bs ≡ true
unfolding accepted
none_accepted bs e = ap (λ o. not (is_some o)) e

pub none_read : (bs : List ℕ) → case_fault bs ≡ None → read_case bs ≡ Ok (system_in bs)
unfolding read_case
none_read bs e = ap (λ o. unless o (system_in bs)) e

pub fault_read : (bs : List ℕ) (f : CaseFault) → case_fault bs ≡ Some f → read_case bs ≡ Err f
unfolding read_case
fault_read bs f e = ap (λ o. unless o (system_in bs)) e
