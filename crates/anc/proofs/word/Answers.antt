-- `anc::word` meets its contract. Assumes nothing.
use Rattle.anc.specs.Word.{word_of}
use Rattle.bits.proofs.Counts.{count_ones}
use Rattle.anc.proofs.word.Goals as goal

pub returns : goal.returns
unfolding word_of
returns c = rw (c.from.ensures, count_ones 8 c.args.n c.ranges.n.fits)
