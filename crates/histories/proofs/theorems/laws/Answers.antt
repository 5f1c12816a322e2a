use Rattle.histories.proofs.Lawful.{lawful}
use Rattle.histories.proofs.Ending.{decides}
use Rattle.histories.proofs.Stored.{turn_learns, taking_largest}
use Rattle.histories.proofs.Determined.{turn_determined, taking_determined}
use Rattle.histories.proofs.ReadOut.{reads}
use Rattle.histories.proofs.theorems.laws.Goals as goal

pub returns : goal.returns
returns c = record {
  lawful = lawful;
  decides = decides;
  learns = turn_learns;
  takes = taking_largest;
  turn_determined = turn_determined;
  taking_determined = taking_determined;
  reads = reads;
}
