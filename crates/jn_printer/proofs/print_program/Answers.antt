use Rattle.std.proofs.Common.{arith}
use Rattle.std.proofs.lemmas.Grind.{common_steps}
use Rattle.jn_printer.proofs.TheWayBack.{way_back_of}
use Rattle.jn_printer.proofs.print_program.Goals as goal

pub returns-clause-back : goal.returns-clause-back
returns-clause-back c = way_back_of c.args.p.now c.loop-d.out.items (grind (arith, common_steps))
