-- `report::text::put_octet` meets its contract. Assumes nothing.
use Rattle.report.proofs.TextLaws.{put-set}
use borrow.Author.Rules.{rules}
use Rattle.report.proofs.text.put_octet.Goals as goal

pub returns : goal.returns
returns c = put-set c.args.out.now c.args.end c.args.x (search rules) (search rules)
