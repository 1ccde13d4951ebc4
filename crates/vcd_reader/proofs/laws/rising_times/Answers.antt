use Rattle.vcd_reader.proofs.RisingTimes.{times_rise}
use Rattle.vcd_reader.proofs.laws.rising_times.Goals as goal

pub returns : goal.returns
returns c = times_rise
