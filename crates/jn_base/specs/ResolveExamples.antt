-- Terms and types in classes of the families, and what they stand for.
use Rattle.std.specs.Prelude.{List, [], ◌∷◌, true, false, Ok, Err, Result}
use Rattle.jn_base.specs.declared.tree.Name.{Name}
use Rattle.jn_base.specs.declared.tree.Named.{Named}
use Rattle.jn_base.specs.declared.tree.Head.{Head}
use Rattle.jn_base.specs.declared.tree.Head.TheVariants as head
use Rattle.jn_base.specs.declared.tree.Ref.TheVariants as ref
use Rattle.jn_base.specs.declared.tree.Term.{Term}
use Rattle.jn_base.specs.declared.tree.TypeTerm.TheVariants as type
use Rattle.jn_base.specs.declared.types.Anchor.{Anchor}
use Rattle.jn_base.specs.declared.types.Anchor.TheVariants.{Root, Up}
use Rattle.jn_base.specs.declared.types.Atom.{Atom as ShownAtom}
use Rattle.jn_base.specs.declared.types.Ty.{Ty}
use Rattle.jn_base.specs.declared.types.Ty.TheVariants as ty
use Rattle.jn_base.specs.declared.types.Masks.{Masks}
use Rattle.jn_base.specs.declared.names.Role.{Role}
use Rattle.jn_base.specs.declared.names.Role.TheVariants as role
use Rattle.jn_base.specs.declared.names.Spot.{Spot}
use Rattle.jn_base.specs.declared.names.Vars.{Vars}
use Rattle.jn_base.specs.declared.refusal.Refusal.{Refusal}
use Rattle.jn_base.specs.declared.refusal.Rule.TheVariants as rule
use Rattle.jn_base.specs.Paths.{shown}
use Rattle.jn_base.specs.Atoms.{no_masks}
use Rattle.jn_base.specs.ExampleTrees.{name, line, word}
use Rattle.jn_base.specs.FamiliesExample.{families, base, Exp, Lit, Add, shower, v, l}
use Rattle.jn_base.specs.Resolve.{at_term, unknown, Resolve}
use Rattle.jn_base.specs.ResolveTypes.{mask_unfit, masks_forbidden, ResolveType}

abbrev pub p : Name
p = name 13

abbrev pub q : Name
q = name 14

abbrev pub show : Name
show = name 9

-- in shower.Add, in the method show
abbrev pub spot : Role → Spot
spot r = record { class = shown (Add ∷ shower ∷ []); owner = show; role = r }

abbrev pub term : Head → List Name → List Name → Term
term h es ns = record { head = h; exact = es; names = ns; at = line 1 }

abbrev pub atom : Anchor → List Name → List Name → ShownAtom
atom a es ns = record { anchor = a; exact = es; names = ns }

-- base.Exp
abbrev pub base_exp : Ty
base_exp = ty.Class (atom Root [] (base ∷ Exp ∷ []) ∷ []) no_masks

-- final base.Exp p, base.Exp q
abbrev pub vars : Vars
vars = record { list = record { name = p; path = 1; fixed = true; ty = base_exp } ∷ record { name = q; path = 2; fixed = false; ty = base_exp } ∷ [] }

abbrev pub Gives : Role → Term → Result ShownAtom Refusal → Type 0
Gives r t o = Resolve families (spot r) vars t o

abbrev pub at_p : List Name → Head
at_p P = head.Prefix P (ref.Var p)

pub record ResolveExamples : Type 0 where
  -- `Exp`: no member of shower.Add, but of shower
  pub outwards : Gives role.Value (term head.Plain [] (Exp ∷ [])) (Ok (atom (Up 0 1) [] (Exp ∷ [])))
  -- `base!.Lit`: a top-level name, exact
  pub top : Gives role.Value (term head.Plain (base ∷ []) (Lit ∷ [])) (Ok (atom Root (base ∷ []) (Lit ∷ [])))
  -- `base.v`: E06, since v is no member of base
  pub no_member : Gives role.Value (term head.Plain [] (base ∷ v ∷ [])) (Err (unknown (spot role.Value) (term head.Plain [] (base ∷ v ∷ [])) v))
  -- `p.class`: no name is taken off
  pub own : Gives role.Value (term (head.Own (ref.Var p)) [] []) (Ok (atom (Up 1 0) [] []))
  -- `base[p.class].Lit`: one name is taken off p's bound base.Exp
  pub taken : Gives role.Value (term (at_p (base ∷ [])) [] (Lit ∷ [])) (Ok (atom (Up 1 1) [] (Lit ∷ [])))
  -- `shower[p.class].Lit`: E15, since shower is above nothing
  pub not_above : Gives role.Value (term (at_p (shower ∷ [])) [] (Lit ∷ [])) (Err (at_term rule.E15 (spot role.Value) (term (at_p (shower ∷ [])) [] (Lit ∷ []))))
  -- `q.class`: E14, since q isn't final; `l.class`: E06; in a field type both are E14
  pub not_final : Gives role.Value (term (head.Own (ref.Var q)) [] []) (Err (at_term rule.E14 (spot role.Value) (term (head.Own (ref.Var q)) [] [])))
  pub not_there : Gives role.Value (term (head.Own (ref.Var l)) [] []) (Err (unknown (spot role.Value) (term (head.Own (ref.Var l)) [] []) l))
  pub in_field : Gives role.Field (term (head.Own (ref.Var l)) [] []) (Err (at_term rule.E14 (spot role.Field) (term (head.Own (ref.Var l)) [] [])))
  -- `base`: E22, a package, but not as the term of `super`
  pub package_term : Gives role.Value (term head.Plain [] (base ∷ [])) (Err (at_term rule.E22 (spot role.Value) (term head.Plain [] (base ∷ []))))
  pub super_term : Gives role.Super (term head.Plain [] (base ∷ [])) (Ok (atom Root [] (base ∷ [])))
  -- a view to `base.Lit`, which fixes no family, and `new p.class`: E15
  pub no_family : Gives role.View (term head.Plain [] (base ∷ Lit ∷ [])) (Err (at_term rule.E15 (spot role.View) (term head.Plain [] (base ∷ Lit ∷ []))))
  pub new_path : Gives role.New (term (head.Own (ref.Var p)) [] []) (Err (at_term rule.E15 (spot role.New) (term (head.Own (ref.Var p)) [] [])))

-- `base.Lit` with these masks; the mask names are l and v
abbrev pub MasksGive : Role → List Named → Result Ty Refusal → Type 0
MasksGive r ms o = ResolveType families (l ∷ v ∷ []) (spot r) vars (type.Class (term head.Plain [] (base ∷ Lit ∷ []) ∷ []) ms) o

abbrev pub masked : Masks
masked = record { 0 = 2 ∷ 0 ∷ 0 ∷ 0 ∷ [] }

pub record MaskExamples : Type 0 where
  -- `base.Lit\v` has mask number 1
  pub one : MasksGive role.Value (word v ∷ []) (Ok (ty.Class (atom Root [] (base ∷ Lit ∷ []) ∷ []) masked))
  -- `base.Lit\l`: E27, since Lit has no field l; `base.Lit\v\v`: E27, at the second
  pub no_field : MasksGive role.Value (word l ∷ []) (Err (mask_unfit (spot role.Value) (word l)))
  pub twice : MasksGive role.Value (word v ∷ record { name = v; at = line 2 } ∷ []) (Err (mask_unfit (spot role.Value) (record { name = v; at = line 2 })))
  -- the type of a field has no masks: E15
  pub in_field : MasksGive role.Field (word v ∷ []) (Err (masks_forbidden (spot role.Field) (word v)))
