use Rattle.jn_printer.proofs.EscapeProof.{escaped_reads}
use Rattle.jn_printer.proofs.examples.escapes_read.Goals as goal

pub returns : goal.returns
returns c = escaped_reads
