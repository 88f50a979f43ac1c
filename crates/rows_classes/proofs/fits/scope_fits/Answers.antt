use Rattle.std.proofs.Common.{◌∙◌, ◌<◌, List, get_or, length, sym, subst}
use Rattle.std.proofs.lemmas.List.Elements.{Contains-get_or}
use Rattle.std.proofs.lemmas.Result.{IfOk-weaker}
use Rattle.jn_base.specs.Fits.{ScopeFits}
use Rattle.jn_intern.specs.declared.scope.Bind.{Bind}
use Rattle.jn_subtype.specs.Binds.{binds_in}
use Rattle.rows_classes.proofs.FitTests.{scope_of, some_of}
use Rattle.rows_classes.proofs.fits.scope_fits.Goals as goal

abbrev nothing : Bind
nothing = record { path = 0; ty = record { 0 = 0 } }

pub returns-clause-fits : goal.returns-clause-fits
returns-clause-fits c =
    let bs : List Bind = c.as_slice-binds.result.now in
    let some : 0 < length bs = some_of _ _ c.is_empty.ensures c.if-is_empty.false in
    let this = c.is_this.ensures c.if-not-is_this.false in
    IfOk-weaker c.binds_fit.result _ _
    (λ r h t. subst (λ (l : List Bind). ScopeFits (binds_in c.args.pool.now l)) c.as_slice-binds.ensures.value
    (scope_of c.args.pool.now bs (get_or bs 0 nothing) this.0 (Contains-get_or bs 0 nothing some) c.if-binds-ne0.false
    (sym c.show.ensures ∙ this.1) (h t)))
    c.binds_fit.ensures
