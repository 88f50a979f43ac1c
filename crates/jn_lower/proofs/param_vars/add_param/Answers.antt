use Rattle.std.proofs.Common.{◌∙◌, ◌++◌, [], ◌∷◌, ℕ, List, ap, suc, length, add-one}
use Rattle.jn_base.specs.declared.names.Var.{Var}
use Rattle.jn_base.specs.declared.types.Ty.{Ty}
use Rattle.jn_sem.specs.Does.{var}
use Rattle.jn_lower.specs.Known.{bare_form}
use Rattle.jn_lower.proofs.Seams.{on_ok}
use Rattle.jn_lower.proofs.param_vars.add_param.Goals as goal

pub returns : goal.returns
returns c =
    let old = c.args.known.now.list in
    let x = c.args.x.now in
    on_ok c.push.result (λ e. record {
      given = c.in-Ok.given;
      resolved = c.in-Ok.ensures;
      is = e
          ∙ ap (λ (k : ℕ). old ++ var x.name.name k x.fixed c.in_ok-ty-in-Ok.ty ∷ []) (add-one c.len-n.result ∙ ap suc c.len-n.ensures)
          ∙ ap (λ (t : Ty). old ++ var x.name.name (suc (length old)) x.fixed t ∷ []) (c.in_ok-ty-in-Ok.ensures
          ∙ ap (λ (vs : List Var). bare_form c.args.spot.now.class vs c.in-Ok.given) c.as_slice.ensures);
    }) c.push.ensures.ok
