use Rattle.std.proofs.Common.{refl}
use Rattle.solver.proofs.Smallness.{smallest_questions}
use Rattle.worked.proofs.Descending.{worked_descents}
use Rattle.worked.proofs.Staged.{stages, next}
use Rattle.worked.proofs.Following.{follower_read, found, holds, no_place, blocked, broken}
use Rattle.worked.proofs.Exchanging.{taken, not_taken, opened}
use Rattle.worked.proofs.examples.Goals as goal

pub returns : goal.returns
returns c =
    record {
      descents = worked_descents;
      questions = smallest_questions;
      read = follower_read;
      stages = stages;
      next = next;
      found = found;
      holds = holds;
      no_place = no_place;
      blocked = blocked;
      broken = broken;
      run = λ t. refl;
      taken = taken;
      not_taken = not_taken;
      opened = opened;
      opened_run = refl;
    }
