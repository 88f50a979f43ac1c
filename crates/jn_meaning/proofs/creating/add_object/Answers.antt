use Rattle.std.proofs.Common.{refl, arith, rules}
use Rattle.jn_meaning.proofs.NewObjects.{too_large, made_in}
use Rattle.jn_meaning.proofs.creating.add_object.Goals as goal

pub returns-then-fresh-arena : goal.returns-then-fresh-arena
returns-then-fresh-arena c = λ known. too_large c.args.h.now c.args.arena c.args.fresh (omega arith)

pub returns-then-h-arena : goal.returns-then-h-arena
returns-then-h-arena c = λ known. too_large c.args.h.now c.args.arena c.args.fresh (omega arith)

pub returns : goal.returns
returns c = λ known. made_in c.args.h.now _ c.args.arena c.args.fresh c.len-object.result _ (omega arith) (search rules) refl refl (search rules) (search rules) known
