-- `status::meaning_numbers` meets its contract, by the cases of the meaning. Assumes nothing.
use Rattle.std.proofs.Common.{rules}
use Rattle.status.specs.Numbers.{numbers_of, consumer_numbers}
use Rattle.status.proofs.meaning_numbers.Goals as goal

pub returns-in-Consumer : goal.returns-in-Consumer
unfolding numbers_of consumer_numbers
returns-in-Consumer c = search rules

pub returns-in-Professional-LinearPcm : goal.returns-in-Professional-LinearPcm
unfolding numbers_of consumer_numbers
returns-in-Professional-LinearPcm c = search rules

pub returns-in-Professional-OtherPurpose : goal.returns-in-Professional-OtherPurpose
unfolding numbers_of consumer_numbers
returns-in-Professional-OtherPurpose c = search rules
