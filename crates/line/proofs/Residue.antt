-- Laying the table of biphase codings leaves no residue in its 256 entries. Assumes nothing.
use lib.ListN.{length}
use Rattle.answer.specs.Answer.{rewritten}
use Rattle.answer.specs.Residue.{NoResidue}
use Rattle.answer.proofs.Residues.{no-residue-in}
use Rattle.line.specs.Biphase.{biphase_table, table_demands, table_laid}
use Rattle.line.proofs.BiphaseByOctet.{length-table}

pub biphase-table-leaves-none : NoResidue 256 (λ entries. table_laid (length entries))
    (λ entries. rewritten (table_laid (length entries)) entries)
unfolding table_laid
biphase-table-leaves-none = no-residue-in (λ new. new) 256 table_demands biphase_table (λ room m. length-table)
