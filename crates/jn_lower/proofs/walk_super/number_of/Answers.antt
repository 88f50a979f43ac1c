use Rattle.std.proofs.Common.{◌≡◌, List, subst}
use Rattle.std.specs.Prelude.{Some, slice_get}
use Rattle.jn_base.specs.declared.path.Path.{Path as ShownPath}
use Rattle.jn_base.specs.Paths.{shown}
use Rattle.jn_table.proofs.Shown.{at_shown}
use Rattle.jn_lower.proofs.walk_super.number_of.Goals as goal

pub returns-in-Some : goal.returns-in-Some
returns-in-Some c = λ n classes.
    at_shown n.classes c.in-Some.id.0 c.args.b.now
    (subst (λ (xs : List ShownPath). slice_get xs c.in-Some.id.0 ≡ Some (shown c.args.b.now)) classes c.in-Some.ensures.some)
