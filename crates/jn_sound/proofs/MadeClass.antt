-- The class that `new` makes: by the views of a frame, below the bound of its term.
use Rattle.std.proofs.Common.{◌≡◌, ◌<◌, ℕ, suc, List, [], ◌∷◌, ◌++◌, length, refl, sym, ap, ◌∙◌, subst, arith}
use Rattle.std.specs.Prelude.{reverse}
use Rattle.std.proofs.lemmas.Bool.{ltb-true}
use Rattle.std.proofs.lemmas.List.{reverse-reverse, append_assoc, length-append, length-reverse}
use Rattle.jn_base.specs.declared.tree.Name.{Name}
use Rattle.jn_base.specs.declared.tree.Param.{Param}
use Rattle.jn_base.specs.declared.tree.Program.{Program}
use Rattle.jn_base.specs.declared.tree.Term.{Term}
use Rattle.jn_base.specs.declared.names.Role.TheVariants as role
use Rattle.jn_base.specs.declared.names.Var.{Var}
use Rattle.jn_base.specs.Paths.{Path}
use Rattle.jn_base.specs.Supers.{Sup, itself}
use Rattle.jn_base.specs.Universe.{InUniverse, IsNamespace}
use Rattle.jn_base.specs.Atoms.{Atom, atom_at, anchor_at, atoms_in, Among, first, later}
use Rattle.jn_base.specs.Scopes.{Scope, bound_of, bound}
use Rattle.jn_base.specs.ResolveTypes.{mask_names}
use Rattle.jn_base.proofs.SuperLaws.{sup_joined}
use Rattle.jn_sem.specs.Sets.{Views, AnchorSeen, view_at, eval, InAtom, InType}
use Rattle.jn_sem.specs.Values.{Reference, HasField, object}
use Rattle.jn_sem.specs.Sharing.{IsClass}
use Rattle.jn_sem.specs.Normal.{same_path, after}
use Rattle.jn_sem.specs.NormalFunction.{normal_type}
use Rattle.jn_sem.specs.Terms.{Site, TermIs, spot_at, vars_at}
use Rattle.jn_sem.specs.State.{Heap, Frame, HasValue, IsIn, frame_views}
use Rattle.jn_sem.specs.Does.{Body, IsBody, IsConstructorBody}
use Rattle.jn_sem.proofs.TypeSets.{classes_subst, values_subst}
use Rattle.jn_sem.proofs.NormalTypes.{type_subst_is}
use Rattle.jn_sem.proofs.Under.{Under, under_super, under_exact, value_under}
use Rattle.jn_laws.specs.LawsOfViews.{Agree}
use Rattle.jn_laws.specs.LawsOfWritten.{HeaderPaths}
use Rattle.jn_laws.specs.Surely.{Surely}
use Rattle.jn_laws.proofs.Bounded.{heir_there}
use Rattle.jn_laws.proofs.Terms.{term_case}
use Rattle.jn_rules.specs.Exprs.{made_exact}
use Rattle.jn_rules.specs.Headers.{Header}
use Rattle.jn_rule_laws.specs.LawsOfHeaders.{IsHeader}
use Rattle.jn_rule_laws.specs.LawsOfMembers.{SignaturesOf, BodyAlike, Alike, none as no_vars, one as one_var}
use Rattle.jn_rule_laws.proofs.SameSignatures.{signatures}
use Rattle.jn_sound.specs.Sound.{InScope, all_views}
use Rattle.jn_sound.proofs.Laws.{Laws}
use Rattle.jn_sound.proofs.Start.{header_there}
use Rattle.jn_sound.proofs.Locals.{frame_agree}
use Rattle.jn_sound.proofs.NullViews.{path_there, anchor_there, anchor_agrees, eval_agrees}

-- ---- the class, and the values of its exact type

namespace_of : (p : Program) (R : Path) → InUniverse p R → IsNamespace p R
namespace_of p [] u = absurd u
namespace_of p (C ∷ P) u = u

module _ {p : Program} {h : Heap} {g : Frame} {vs : List Var} {s : Scope} {w : Views} (k : InScope p h g w vs s)
    (y : Atom) (paths : HeaderPaths vs (made_exact y)) where
  same_view : Agree (all_views g w) (frame_views g) y.anchor
  same_view = (frame_agree (made_exact y) k paths).each _ first

  pub made_seen : AnchorSeen (frame_views g) y.anchor
  made_seen = anchor_there (frame_views g) y.anchor (λ r j e. path_there k r (paths _ r j first e))

  seen_all : AnchorSeen (all_views g w) y.anchor
  seen_all = anchor_agrees (all_views g w) (frame_views g) y.anchor same_view made_seen

  made_under : Under p (atom_at (view_at (frame_views g)) y) (bound s y)
  made_under =
      under_exact y.names (under_exact y.exact
      (subst (λ (P : Path). Under p P (anchor_at (bound_of s) y.anchor))
      (eval_agrees (all_views g w) (frame_views g) y.anchor same_view)
      (value_under (all_views g w) k.binds k.respects y.anchor seen_all)))

  pub made_super : InUniverse p (bound s y) → Sup p (atom_at (view_at (frame_views g)) y) (bound s y)
  made_super u = under_super made_under (namespace_of p (bound s y) u)

  pub made_class : IsClass p (bound s y) → IsClass p (atom_at (view_at (frame_views g)) y)
  made_class c = record {
    universe = heir_there (made_super c.universe) c.universe;
    kind = record {
      at = c.kind.at;
      super = sup_joined (made_super c.universe) c.kind.super;
      decl = c.kind.decl;
      stands = c.kind.stands;
      is = c.kind.is;
    };
  }

  names_at : atom_at (view_at (frame_views g)) y
      ≡ reverse (reverse (y.names ++ y.exact)) ++ eval (all_views g w) y.anchor
  names_at =
      ap (λ (l : Path). y.names ++ (y.exact ++ l))
      (sym (eval_agrees (all_views g w) (frame_views g) y.anchor same_view)) ∙
      sym (append_assoc y.names y.exact (eval (all_views g w) y.anchor)) ∙
      ap (λ (l : Path). l ++ eval (all_views g w) y.anchor) (sym (reverse-reverse (y.names ++ y.exact)))

  exact_in : (u : Atom) → Among (atoms_in (made_exact y)) u
      → InAtom p (all_views g w) u (atom_at (view_at (frame_views g)) y)
  exact_in _ first = record {
    seen = seen_all;
    inside = record {
      exact = names_at;
      super = subst (λ (W : Path). Sup p (atom_at (view_at (frame_views g)) y) W) names_at itself;
    };
  }
  exact_in u (later b) = elim b [ ]

  exact_seen : (u : Atom) → Among (atoms_in (made_exact y)) u → AnchorSeen (after same_path (all_views g w)) u.anchor
  exact_seen _ first = seen_all
  exact_seen u (later b) = elim b [ ]

  -- no other class is in the exact type
  pub made_only : (U : Path) → InType p (all_views g w) (normal_type s (made_exact y)) U
      → U ≡ atom_at (view_at (frame_views g)) y
  made_only U i =
      ((classes_subst k.respects same_path (made_exact y) (normal_type s (made_exact y)) U exact_seen
      ((type_subst_is s same_path (made_exact y) (normal_type s (made_exact y))).1 refl)).1 i _ first).inside.exact
      ∙ sym names_at

  -- an object of the class, whose fields have values, is in the exact type
  pub made_in : (i : Heap) (o : ℕ)
      → ((z : Name) → HasField p (atom_at (view_at (frame_views g)) y) z
      → HasValue p i o (atom_at (view_at (frame_views g)) y) z)
      → IsIn p (all_views g w) i (normal_type s (made_exact y)) (Reference o (atom_at (view_at (frame_views g)) y))
  made_in i o filled =
      (values_subst k.respects (mask_names p) (HasValue p i) same_path (made_exact y) (normal_type s (made_exact y))
      (Reference o (atom_at (view_at (frame_views g)) y)) exact_seen
      ((type_subst_is s same_path (made_exact y) (normal_type s (made_exact y))).1 refl)).0
      (object exact_in (λ z has free. filled z has))

-- ---- its constructor

-- the term of `new` has a name behind its anchor
pub made_named : (p : Program) (at : Site) (t : Term) (y : Atom) → TermIs p role.New at t y
    → 0 < length (y.names ++ y.exact)
made_named p at t y i =
    let c = term_case p (spot_at at role.New) (vars_at at) t i.0 i.1 in
    let l : 0 < length (i.0.exact ++ i.0.names) = ltb-true 0 (length (i.0.exact ++ i.0.names)) c.suits in
    let e = ap (λ (z : Atom). length z.exact) i.2 ∙ length-reverse i.0.exact in
    let n = ap (λ (z : Atom). length z.names) i.2 ∙ length-reverse i.0.names in
    omega (arith, l, e, n, length-append i.0.exact i.0.names, length-append y.names y.exact)

-- two paths with one last name
pub record SameLast (V B : Path) : Type 0 where
  pub name : Name
  pub one : Path
  pub other : Path
  pub one_is : V ≡ name ∷ one
  pub other_is : B ≡ name ∷ other

pub same_last : (ns es P B : Path) → 0 < length (ns ++ es) → SameLast (ns ++ (es ++ P)) (ns ++ (es ++ B))
same_last [] [] P B l = absurd (omega (arith, l))
same_last [] (e ∷ es) P B l = record { name = e; one = es ++ P; other = es ++ B; one_is = refl; other_is = refl }
same_last (n ∷ ns) es P B l =
    record { name = n; one = ns ++ (es ++ P); other = ns ++ (es ++ B); one_is = refl; other_is = refl }

-- a constructor of the class V with a header like this one
pub record ConstructorAlike (p : Program) (V : Path) (c : Header) : Type 0 where
  pub body : Body
  pub header : Header
  pub is_body : IsConstructorBody p V body
  pub is_header : IsHeader p body header
  pub alike : Alike c.vars header.vars
  pub result : header.result ≡ c.result

no_params_at : (xs : List Param) → ((length xs ≡ 0 → ⊥) → ⊥) → xs ≡ []
no_params_at [] e = refl
no_params_at (x ∷ xs) e = absurd (e (λ i. omega (arith, i)))

alike_length : {xs ys : List Var} → Alike xs ys → length xs ≡ length ys
alike_length no_vars = refl
alike_length (one_var a b c r) = ap suc (alike_length r)

module _ {p : Program} (n : Laws p) (V B : Path) (same : SameLast V B) (class : IsClass p V) (higher : Sup p V B) where
  laws : SignaturesOf p
  laws = signatures p n.passes.bodies.once n.passes.bodies.headers.limits.members

  as_body : (b : Body) → IsConstructorBody p B b → IsBody p B same.name b
  as_body b i =
      subst (λ (R : Path). IsBody p R same.name b) (sym same.other_is)
      (subst (λ (R : Path). IsConstructorBody p R b) same.other_is i)

  own_body : (b : Body) → IsConstructorBody p V b → IsBody p V same.name b
  own_body b i =
      subst (λ (R : Path). IsBody p R same.name b) (sym same.one_is)
      (subst (λ (R : Path). IsConstructorBody p R b) same.one_is i)

  as_constructor : (b : Body) → IsBody p V same.name b → IsConstructorBody p V b
  as_constructor b i =
      subst (λ (R : Path). IsConstructorBody p R b) (sym same.one_is)
      (subst (λ (R : Path). IsBody p R same.name b) same.one_is i)

  pub constructor_alike : (b : Body) (c : Header) → IsConstructorBody p B b → IsHeader p b c
      → Surely (ConstructorAlike p V c)
  constructor_alike b c i h none = laws.method V B same.name b c class higher (as_body b i) h (λ
      (k : BodyAlike p V same.name c).
      none (record {
        body = k.body;
        header = k.header;
        is_body = as_constructor k.body k.is_body;
        is_header = k.is_header;
        alike = k.same;
        result = k.result;
      }))

  -- where the bound's constructor has no parameters, or there is none, its own has none
  pub constructor_bare : ((b : Body) → IsConstructorBody p B b → b.method.params ≡ []) → (b : Body)
      → IsConstructorBody p V b → b.method.params ≡ []
  constructor_bare none b i = no_params_at b.method.params (λ never. without (λ c j. with_one c j never) never) where
    header : (c : Header) × IsHeader p b c
    header = header_there p n V same.name b (own_body b i)

    count : length header.0.vars ≡ length b.method.params
    count = n.param_count b header.0 header.1

    with_one : (c : Body) → IsConstructorBody p B c → (length b.method.params ≡ 0 → ⊥) → ⊥
    with_one c j never =
        let above = header_there p n B same.name c (as_body c j) in
        laws.method V B same.name c above.0 class higher (as_body c j) above.1
        (λ (k : BodyAlike p V same.name above.0).
        never (ap (λ (z : Body). length z.method.params)
        (n.body_one V same.name b k.body class (own_body b i) k.is_body)
        ∙ sym (n.param_count k.body k.header k.is_header) ∙ sym (alike_length k.same)
        ∙ n.param_count c above.0 above.1 ∙ ap (λ (l : List Param). length l) (none c j)))

    without : ((c : Body) → IsConstructorBody p B c → ⊥) → (length b.method.params ≡ 0 → ⊥) → ⊥
    without nothing never =
        let e = laws.bare same.name same.one same.other b header.0
        (subst (IsClass p) same.one_is class)
        (subst (λ (R : Path). Sup p R (same.name ∷ same.other)) same.one_is
        (subst (λ (R : Path). Sup p V R) same.other_is higher))
        (λ d j. nothing d (subst (λ (R : Path). IsConstructorBody p R d) (sym same.other_is) j))
        (subst (λ (R : Path). IsConstructorBody p R b) same.one_is i) header.1 in
        never (sym count ∙ ap (λ (l : List Var). length l) e)
