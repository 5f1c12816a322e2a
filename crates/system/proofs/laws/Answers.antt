use Rattle.system.proofs.Runs.{run_prefix, inductive_reached, safe_reached, reached_safe}
use Rattle.system.proofs.Truth.{clauses_same}
use Rattle.system.proofs.Preserving.{preserved_is_consecution}
use Rattle.system.proofs.laws.Goals as goal

pub returns : goal.returns
returns c = record { truth = clauses_same; prefix = run_prefix; inductive = inductive_reached; safe = λ d. (safe_reached d, reached_safe d); preserved = preserved_is_consecution }
