-- `report::put_content` meets its contract. Assumes nothing.
use mathlib.Core.Path.{sym, ap}
use Rattle.answer.specs.Answer.{accepted}
use Rattle.records.specs.declared.Content.{Content}
use Rattle.report.specs.Text.{answer_text}
use Rattle.report.proofs.TextLaws.{put_as}
use borrow.Author.Rules.{rules}
use Rattle.report.proofs.put_content.Goals as goal

pub returns-in-Aes3 : goal.returns-in-Aes3
unfolding answer_text
returns-in-Aes3 c =
    record { put = put_as (sym (ap (λ (x : Content). answer_text (accepted x)) c.in-Aes3.is)) c.put_pair.ensures.put; end_bound = search rules }

pub returns-in-Hd : goal.returns-in-Hd
unfolding answer_text
returns-in-Hd c =
    record { put = put_as (sym (ap (λ (x : Content). answer_text (accepted x)) c.in-Hd.is)) c.put_pair-in-Hd.ensures.put; end_bound = search rules }

pub returns-in-Madi : goal.returns-in-Madi
unfolding answer_text
returns-in-Madi c =
    record { put = put_as (sym (ap (λ (x : Content). answer_text (accepted x)) c.in-Madi.is)) c.put_pair-in-Madi.ensures.put; end_bound = search rules }

pub returns-in-Ctl : goal.returns-in-Ctl
unfolding answer_text
returns-in-Ctl c =
    record { put = put_as (sym (ap (λ (x : Content). answer_text (accepted x)) c.in-Ctl.is)) (rw c.from.ensures at c.put_single.ensures.put); end_bound = search rules }
