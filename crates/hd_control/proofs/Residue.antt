-- Writing a control packet leaves no residue in the 18 words. Assumes nothing.
use lib.ListN.{length}
use Rattle.answer.specs.Residue.{NoResidue}
use Rattle.answer.proofs.Residues.{no-residue-in}
use Rattle.hd_control.specs.Control.{control_packet}
use Rattle.hd_control.specs.Write.{write_demands, write_answer, control_written}
use Rattle.hd_control.specs.declared.Control.{Control}
use Rattle.hd_control.proofs.ControlLaws.{packet-size}

pub control-write-leaves-none : (c : Control) → NoResidue 18 (λ words. write_answer c (length words)) (control_written c)
unfolding write_answer
control-write-leaves-none c = no-residue-in (λ new. new) 18 (write_demands c) (control_packet c) (λ room m. packet-size c)
