-- The codes of classes, from what is added.
use Rattle.std.proofs.Common.{◌≡◌, ◌++◌, ℕ, List, [], ◌∷◌, refl, sym, ap, ◌∙◌, subst, append_assoc}
use Rattle.std.proofs.lemmas.List.{append-nil, reverse-append, reverse-reverse}
use Rattle.std.proofs.lemmas.Grind.{reverse_onto}
use Rattle.std.specs.Prelude.{reverse, map, Some, slice_get}
use Rattle.jn_base.specs.declared.tree.Name.{Name}
use Rattle.jn_base.specs.declared.types.Atom.{Atom as ShownAtom}
use Rattle.jn_base.specs.declared.types.Anchor.TheVariants.{Root, Up}
use Rattle.jn_base.specs.declared.path.Path.{Path as ShownPath}
use Rattle.jn_base.specs.Atoms.{atom_of}
use Rattle.jn_base.specs.Paths.{shown}
use Rattle.jn_table.specs.declared.table.Table.{Table}
use Rattle.jn_table.proofs.Shown.{at_shown}
use Rattle.jn_code.specs.declared.instr.Instr.TheVariants as ins
use Rattle.jn_agree.specs.Naming.{Naming}
use Rattle.jn_agree.specs.Places.{up_by, downs, fixed, seen}
use Rattle.jn_lower.specs.declared.emitter.Emitter.{Emitter}
use Rattle.jn_lower.specs.Emitted.{Adds}
use Rattle.jn_lower.specs.Classes.{down_each, seen_by, AreClassesOf, AddsClass}

downs_append : (xs ys : List Name) → downs (xs ++ ys) ≡ downs ys ++ downs xs
downs_append [] ys = sym (append-nil (downs ys))
downs_append (C ∷ P) ys =
    ap (λ zs. zs ++ ins.Down C.0 ∷ []) (downs_append P ys) ∙ append_assoc (downs ys) (downs P) (ins.Down C.0 ∷ [])

down_each_is : (ns : List Name) → downs (reverse ns) ≡ down_each ns
down_each_is [] = refl
down_each_is (C ∷ ns) =
    ap downs (reverse_onto ns C []) ∙ downs_append (reverse ns) (C ∷ []) ∙ ap (λ zs. ins.Down C.0 ∷ zs) (down_each_is ns)

path_downs : (x : ShownAtom) → downs ((atom_of x).names ++ (atom_of x).exact) ≡ down_each x.exact ++ down_each x.names
path_downs x =
    downs_append (reverse x.names) (reverse x.exact)
    ∙ ap (λ zs. zs ++ downs (reverse x.names)) (down_each_is x.exact)
    ∙ ap (λ zs. down_each x.exact ++ zs) (down_each_is x.names)

pub seen_added : (n : Naming) (x : ShownAtom) (q k : ℕ) (old new : Emitter) → x.anchor ≡ Up q k
    → Adds (seen_by q k x) old new → AddsClass n (atom_of x) old new
seen_added n x q k old new is adds = record {
  cls = seen_by q k x;
  code = seen q k is (ap (λ zs. ins.Load q ∷ ins.Viewof ∷ (up_by k ++ zs)) (sym (path_downs x)));
  adds = adds;
}

-- the path that has the atom's names
shown_names : (x : ShownAtom) (path : ShownPath) → path.names ≡ x.exact ++ x.names
    → path ≡ shown ((atom_of x).names ++ (atom_of x).exact)
shown_names x path e =
    ap (λ (ns : List Name). record { names = ns })
    (e ∙ sym (reverse-append (reverse x.names) (reverse x.exact)
    ∙ ap (λ ns. ns ++ reverse (reverse x.names)) (reverse-reverse x.exact)
    ∙ ap (λ ns. x.exact ++ ns) (reverse-reverse x.names)))

pub own_added : (t : Table) (n : Naming) (x : ShownAtom) (path : ShownPath) (k : ℕ) (old new : Emitter)
    → AreClassesOf t n → x.anchor ≡ Root → path.names ≡ x.exact ++ x.names → slice_get t.known.items k ≡ Some path
    → Adds (ins.Cls k ∷ []) old new → AddsClass n (atom_of x) old new
own_added t n x path k old new classes is names at adds =
    let P = (atom_of x).names ++ (atom_of x).exact in
    let here : slice_get (map shown n.classes) k ≡ Some (shown P) =
    subst (λ (xs : List ShownPath). slice_get xs k ≡ Some (shown P)) classes
    (subst (λ (q : ShownPath). slice_get t.known.items k ≡ Some q) (shown_names x path names) at) in
    record { cls = ins.Cls k ∷ []; code = fixed k is (at_shown n.classes k P here) refl; adds = adds }
