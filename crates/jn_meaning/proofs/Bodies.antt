-- Bodies and counterparts.
use Rattle.std.proofs.Common.{◌≡◌, ◌↔◌, List, [], ◌∷◌, length, reverse, drop, Option, Some, None, Bool, IsTrue, true, false, sym, ap, ◌∙◌, subst}
use Rattle.std.proofs.lemmas.List.{reverse-append}
use Rattle.jn_reach.proofs.Searches.{not_when}
use Rattle.jn_base.specs.declared.tree.Name.{Name}
use Rattle.jn_base.specs.declared.tree.Method.{Method}
use Rattle.jn_base.specs.declared.tree.Program.{Program}
use Rattle.jn_base.specs.declared.path.Path.{Path as ShownPath}
use Rattle.jn_base.specs.Paths.{Path}
use Rattle.jn_base.specs.Members.{MethodAt, Least as IsLeast}
use Rattle.jn_table.specs.declared.class.ClassId.{ClassId}
use Rattle.jn_names.specs.declared.members.Least.TheVariants as least
use Rattle.jn_names.specs.Members.{LeastIs}
use Rattle.jn_sem.specs.Sharing.{IsClass, Related, in_family}
use Rattle.jn_share.proofs.Names.{in_family_is}
use Rattle.jn_meaning.specs.declared.finding.Found.{Found}
use Rattle.jn_meaning.specs.Values.{path_at}
use Rattle.jn_meaning.specs.Tells.{Tells, BodyTold, CounterpartTold}
use Rattle.jn_meaning.proofs.ClassNumbers.{path_of_number}

module _ (p : Program) (known : List ShownPath) (id : ClassId) (m : Name) where
  abbrev R : Path
  R = path_at known id

  pub no_least : LeastIs p known R m least.None → BodyTold p known id m None
  no_least h b k = h b.class k.least.among

  pub many_least : (a c : ClassId) → LeastIs p known R m (least.Many a c) → BodyTold p known id m None
  many_least a c h b k = h.1 b.class k.least

  pub least_body : (a : ClassId) (x : Found) (o : Option Method) → LeastIs p known R m (least.One a) → x.class ≡ a → o ≡ Some x.method.now → Tells (MethodAt p (path_at known a) m) o
      → BodyTold p known id m (Some x)
  least_body a x o h e f t =
      let q : path_at known x.class ≡ h.0 = ap (path_at known) e ∙ path_of_number known a h.0 h.1 in
      let g : MethodAt p (path_at known a) m x.method.now = subst (Tells (MethodAt p (path_at known a) m)) f t in
      record {
        least = subst (IsLeast p R m) (sym q) h.2;
        at = subst (λ (i : ClassId). MethodAt p (path_at known i) m x.method.now) (sym e) g;
      }

  pub least_no_body : (a : ClassId) → LeastIs p known R m (least.One a) → Tells (MethodAt p (path_at known a) m) None → BodyTold p known id m None
  least_no_body a h t b k =
      let q = path_of_number known a h.0 h.1 in
      t h.2.among.method (subst (λ (Q : Path). MethodAt p Q m h.2.among.method) (sym q) h.2.among.at)

-- ---- counterparts

pub other_family : (names list : List Name) (Y : Name) → (length names ≡ 0 → ⊥) → list ≡ Y ∷ drop 1 names → reverse list ≡ in_family Y (reverse names)
other_family names list Y n e = ap reverse e ∙ reverse-append (Y ∷ []) (drop 1 names) ∙ in_family_is names Y n

module _ (p : Program) (known : List ShownPath) (Y : Name) (id : ClassId) (list names : List Name) (turned : reverse names ≡ path_at known id) (is : reverse list ≡ in_family Y (reverse names)) where
  there : reverse list ≡ in_family Y (path_at known id)
  there = is ∙ ap (in_family Y) turned

  pub no_counterpart : (IsClass p (reverse list) → ⊥) → CounterpartTold p known Y id None
  no_counterpart n W c = n (subst (IsClass p) (c.is ∙ sym there) c.related.other)

  module _ (w : ClassId) (at : path_at known w ≡ reverse list) (told : Bool) (i : IsTrue told ↔ Related p (path_at known id) (path_at known w)) where
    pub counterpart_there : told ≡ true → CounterpartTold p known Y id (Some w)
    counterpart_there e = record { is = at ∙ there; related = i.0 e }

    pub counterpart_unrelated : told ≡ false → CounterpartTold p known Y id None
    counterpart_unrelated e W c = not_when e i (subst (Related p (path_at known id)) (c.is ∙ sym there ∙ sym at) c.related)
