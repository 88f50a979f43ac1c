use Rattle.std.proofs.Common.{List, ◌∙◌, sym, ap, map}
use Rattle.jn_base.specs.declared.tree.Decl.{Decl}
use Rattle.jn_base.specs.declared.forms.Form.TheVariants as form
use Rattle.jn_base.specs.Forms.{all_of, of_decl}
use Rattle.jn_base.specs.FormTests.{has}
use Rattle.jn_base.proofs.FormsFound.{mentioned, mentions_it}
use Rattle.jn_base.proofs.forms.names_paths.Goals as goal

pub returns : goal.returns
returns c = let e : _ = c.in_decls.ensures ∙ ap (λ (ds : List Decl). has form.Path (all_of (map of_decl ds))) c.as_slice.ensures in
    (λ h. mentioned c.args.p.now form.Path (sym e ∙ h), λ m. e ∙ mentions_it c.args.p.now form.Path m)
