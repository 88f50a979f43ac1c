use Rattle.std.proofs.Common.{◌≡◌, ◌∷◌, [], ◌++◌, List, subst, sym, ap, ◌∙◌, Vec, Global}
use Rattle.jn_base.specs.Paths.{Path}
use Rattle.jn_base.specs.Supers.{Sup}
use Rattle.jn_table.specs.declared.class.ClassId.{ClassId}
use Rattle.jn_table.specs.Rows.{ArePaths}
use Rattle.jn_table.specs.Tables.{numbered}
use Rattle.jn_names.specs.Bounds.{AddsPaths}
use Rattle.jn_names.specs.declared.bound.Bound.{Bound}
use Rattle.jn_names.proofs.Adding.{Numbered, supers_numbered, supers_none}
use Rattle.jn_names.proofs.bound.Bound.supers.Goals.{in-None+in_ok-itself-in-None+in_ok-push-in-None}
use Rattle.jn_names.proofs.bound.Bound.supers.Goals.{in-Some+in_ok-add_paths-in-Some}
use Rattle.jn_names.proofs.bound.Bound.supers.Goals as goal

pub returns : goal.returns
returns c = λ p f.
    let t = c.args.t.now in
    let R = c.args.self.now in
    elim c.match-number.branch [
      | in-None+in_ok-itself-in-None+in_ok-push-in-None w ↦
          let alone : c.match-number.all.items ≡ R ∷ [] =
          ap (λ (v : Vec Bound Global). v.items) w.all-is ∙ (w.in_ok-push-in-None.ensures.items
          ∙ (ap (λ (ps : List Path). ps ++ w.in_ok-itself-in-None.itself ∷ []) c.new-all.ensures.items
          ∙ ap (λ (P : Path). P ∷ []) w.in_ok-itself-in-None.ensures)) in
          subst (λ (ps : List Path). ArePaths p (Sup p R) ps) (sym alone) (supers_none p t R f w.in-None.ensures.none)
      | in-Some+in_ok-add_paths-in-Some w ↦
          let row = w.row.result.now in
          let adds : AddsPaths t row.sups.items [] c.match-number.all.items =
          λ ps each.
          ap (λ (v : Vec Bound Global). v.items) w.all-is
          ∙ (w.in_ok-add_paths-in-Some.ensures ps
          (subst (λ (ids : List ClassId). Numbered (numbered t) ps ids) (sym w.deref.ensures.value) each)
          ∙ ap (λ (before : List Path). before ++ ps) c.new-all.ensures.items) in
          supers_numbered p t R row.sups.items c.match-number.all.items
          (w.row.ensures p R f.table w.in-Some.ensures.some).sups adds
    ]
