use Rattle.std.proofs.Common.{◌≡◌, ◌∙◌, sym, ap, false, Bool, Option, arith}
use Rattle.std.specs.Prelude.{nat_eq, cond}
use Rattle.std.specs.Option.{option_map}
use Rattle.std.proofs.lemmas.Bool.Decides.{nat_tests}
use Rattle.jn_table.specs.declared.class.ClassId.{ClassId}
use Rattle.jn_sem.specs.State.{view_of_var}
use Rattle.jn_meaning.specs.Values.{path_at}
use Rattle.jn_meaning.specs.Frames.{variables_of}
use Rattle.jn_meaning.proofs.Variables.{views_seen}
use Rattle.jn_meaning.proofs.seen.view.Goals as goal

pub returns-else-path-eq0 : goal.returns-else-path-eq0
returns-else-path-eq0 c = λ known.
    let l = c.args.seen.now.locals.now in
    let other : nat_eq c.args.path 0 ≡ false = grind (arith, nat_tests) in
    ap (λ (b : Bool). cond b (option_map (path_at known) c.args.seen.now.this) (view_of_var (variables_of known l) c.args.path)) other
    ∙ views_seen known l.vars.list l.values.items c.args.path ∙ ap (λ (o : Option ClassId). option_map (path_at known) o) (sym c.view.ensures)
