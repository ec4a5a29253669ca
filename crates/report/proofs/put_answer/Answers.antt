-- `report::put_answer` meets its contract. Assumes nothing.
use mathlib.Core.Path.{sym, ap, ap₂, ◌∙◌}
use Rattle.std.specs.Prelude.{Result}
use Rattle.answer.specs.Said.{said}
use Rattle.answer.specs.declared.Refusal.{Refusal}
use Rattle.records.specs.declared.Content.{Content}
use Rattle.report.specs.Text.{refused_word, pair_text, answer_text}
use Rattle.report.proofs.TextLaws.{put_as}
use borrow.Author.Rules.{rules}
use Rattle.report.proofs.put_answer.Goals as goal

pub returns-in-Ok : goal.returns-in-Ok
returns-in-Ok c =
    record {
      put = put_as (sym (ap (λ (x : Result Content Refusal). answer_text (said x)) c.in-Ok.is)) c.put_content.ensures.put;
      end_bound = c.put_content.ensures.end_bound;
    }

pub returns-in-Err : goal.returns-in-Err
unfolding answer_text
returns-in-Err c =
    record {
      put = put_as
          (ap₂ (pair_text refused_word) c.number.ensures c.place.ensures ∙ sym (ap (λ (x : Result Content Refusal). answer_text (said x)) c.in-Err.is))
          c.put_pair.ensures.put;
      end_bound = search rules;
    }
