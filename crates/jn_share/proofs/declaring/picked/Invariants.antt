use Rattle.std.proofs.Common.{take}
use Rattle.jn_reach.specs.Each.{Each}
use Rattle.jn_share.specs.Declaring.{UnderName}
use Rattle.jn_share.proofs.declaring.picked.Given as goal

abbrev pub invariant-loop-field : goal.invariant-loop-field
invariant-loop-field l = Each (UnderName l.last) (take l.field-index l.fields) l.decls.items
