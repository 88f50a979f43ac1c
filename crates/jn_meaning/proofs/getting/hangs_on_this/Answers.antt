use Rattle.jn_share.proofs.SameFields.{class_hangs}
use Rattle.jn_meaning.proofs.getting.hangs_on_this.Goals as goal

pub returns-in-Class : goal.returns-in-Class
returns-in-Class c =
    class_hangs c.args.ty.now c.in-Class.xs c.as_slice.result.now c.in-Class.field-1 c.some_this.result c.in-Class.is c.as_slice.ensures c.some_this.ensures
