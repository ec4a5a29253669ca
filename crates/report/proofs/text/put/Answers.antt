-- `report::text::put` meets its contract. Assumes nothing.
use Rattle.report.proofs.TextLaws.{put-copy}
use Rattle.report.proofs.text.put.Goals as goal

pub returns : goal.returns
returns c = put-copy c.args.out.now c.args.word.now c.args.end c.requires.0 c.requires.1 c.copy_from_slice.ensures.after
