-- A broken work reads out its run. Assumes nothing.
use Rattle.std.proofs.Common.{◌≡◌, ℕ, ◌<◌, ◌≤◌, false, not, T, List, [], length, get_or, take, None, Ok, Err, sym, refl, ap, ◌∙◌}
use Rattle.std.proofs.lemmas.Bool.{eq-eqb, lt-ltb, le-ltb}
use Rattle.system.specs.Systems.{System, BrokenRun}
use Rattle.system.proofs.Truth.{T_true}
use Rattle.faults.specs.declared.work.WorkFault.TheVariants.{NoSuchState}
use Rattle.books.specs.declared.entry.Entry.{Entry}
use Rattle.histories.specs.declared.verdict.Verdict.{Verdict}
use Rattle.histories.specs.declared.verdict.Verdict.TheVariants.{Undecided, Holds, BrokenAt, BrokenByEntry}
use Rattle.histories.specs.Calls.{Progress}
use Rattle.histories.specs.Histories.{Lived, is_broken}
use Rattle.histories.specs.Reads.{read_out, stray, read_fault, state_at}
use Rattle.histories.specs.Laws.{Concluded, BrokenReadsRun}
use Rattle.histories.proofs.Storable.{Grounds}
use Rattle.histories.proofs.Standing.{kept_sized, lived_standing}
use Rattle.histories.proofs.Lawful.{lawful}

not_stray : (c : System) (es : List Entry) (v : Verdict) → Grounds c es v → stray v es ≡ false
not_stray c es Undecided g = refl
not_stray c es Holds g = refl
not_stray c es (BrokenAt s) g = refl
not_stray c es BrokenByEntry g = ap not (T_true _ g.1)

run_concluded : (c : System) (es : List Entry) (v : Verdict) → T (is_broken v) → Concluded c v es → BrokenRun c (read_out c v es)
run_concluded c es Undecided b h = absurd b
run_concluded c es Holds b h = absurd b
run_concluded c es (BrokenAt s) b h = h
run_concluded c es BrokenByEntry b h = h

module _ (c : System) (k : ℕ) (w : Progress) (es book : List Entry) (l : Lived c k w es) (size : length book ≡ w.places) (q : take w.used book ≡ es) where
  -- a book as left is read
  lived_readable : read_fault w book ≡ None
  lived_readable = rw (eq-eqb (length book) w.places size, q, (lived_standing l).same, (lawful c k w es l).ruled, not_stray c es w.verdict (lived_standing l).grounds) refl

pub reads : BrokenReadsRun
reads c k w es book l b size q =
    record { run = run; broken_run = run_concluded c es w.verdict b (lawful c k w es l).concluded; read = within; ended = past }
  where
    used : take w.used book ≡ es
    used = sym (kept_sized es (record { work = w; book = book; held = [] }) size) ∙ q

    run : List ℕ
    run = read_out c w.verdict es

    within : (j : ℕ) → j < length run → state_at w book j ≡ Ok (get_or run j 0)
    within j h = rw (lived_readable c k w es book l size used, T_true (is_broken w.verdict) b, used, (lived_standing l).same, lt-ltb j (length run) h) refl

    past : (j : ℕ) → length run ≤ j → state_at w book j ≡ Err (NoSuchState j)
    past j h = rw (lived_readable c k w es book l size used, T_true (is_broken w.verdict) b, used, (lived_standing l).same, le-ltb j (length run) h) refl
