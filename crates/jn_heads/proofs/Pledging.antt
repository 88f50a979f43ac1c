-- The sides of constraints.
use Rattle.std.proofs.Common.{◌≡◌, List, [], refl, sym, subst, Result, Ok, Err}
use Rattle.jn_base.specs.declared.tree.Name.{Name}
use Rattle.jn_base.specs.declared.tree.Constraint.{Constraint}
use Rattle.jn_base.specs.declared.tree.ViewTerm.{ViewTerm}
use Rattle.jn_base.specs.declared.tree.Program.{Program}
use Rattle.jn_base.specs.declared.types.Ty.{Ty}
use Rattle.jn_base.specs.declared.names.Role.{Role}
use Rattle.jn_base.specs.declared.names.Role.TheVariants as role
use Rattle.jn_base.specs.declared.names.Spot.{Spot}
use Rattle.jn_base.specs.declared.names.Vars.{Vars}
use Rattle.jn_base.specs.declared.refusal.Refusal.{Refusal}
use Rattle.jn_base.specs.Paths.{Path}
use Rattle.jn_base.specs.ResolveTypes.{mask_names, ResolveView}
use Rattle.jn_names.specs.Answers.{Told as NameTold}
use Rattle.jn_names.specs.declared.fault.NameFault.{NameFault}
use Rattle.jn_names.specs.declared.fault.NameFault.TheVariants as names
use Rattle.jn_sem.specs.Terms.{spot}
use Rattle.jn_rules.specs.Plans.{Target, target_type}
use Rattle.jn_rules.specs.Questions.{as_type, left_refused, right_refused, both}
use Rattle.jn_rules.proofs.Targets.{target_of}
use Rattle.jn_heads.specs.declared.fault.CheckFault.{CheckFault}
use Rattle.jn_heads.specs.declared.fault.CheckFault.TheVariants.{Refused, Memory}
use Rattle.jn_heads.specs.declared.sides.Pledge.{Pledge}
use Rattle.jn_heads.specs.Told.{of_names}
use Rattle.jn_heads.specs.Sides.{IsSide, SideTold, IsPledge, PledgeTold}

-- ---- sides

module _ (p : Program) (Q : Path) (m : Name) (r : Role) (v : ViewTerm) (masks : List Name) (sp : Spot) (vs : Vars)
    (e : masks ≡ mask_names p) (h : sp ≡ spot Q m r) (n : vs ≡ record { list = [] }) where
  view_is : (o : Result Ty Refusal) → ResolveView p masks sp vs v o → ResolveView p (mask_names p) (spot Q m r) (record { list = [] }) v o
  view_is o g =
      subst (λ (ns : List Name). ResolveView p ns (spot Q m r) (record { list = [] }) v o) e
      (subst (λ (s : Spot). ResolveView p masks s (record { list = [] }) v o) h (subst (λ (w : Vars). ResolveView p masks sp w v o) n g))

  pub side_is : (u : Ty) → ResolveView p masks sp vs v (Ok u) → IsSide p Q m r v u
  side_is u g = of (view_is (Ok u) g) where
    of : ResolveView p (mask_names p) (spot Q m r) (record { list = [] }) v (Ok u) → IsSide p Q m r v u
    of k = at (target_of p (mask_names p) (spot Q m r) (record { list = [] }) v.term v.masks (Ok u) k.atoms k.all k.gives) k where
      at : (y : Result Target Refusal) × (let o : Result Ty Refusal = Ok u in o ≡ as_type y) → ResolveView p (mask_names p) (spot Q m r) (record { list = [] }) v (Ok u) → IsSide p Q m r v u
      at (Ok x, f) k = record {
        target = x;
        resolved = subst (λ (o : Result Ty Refusal). ResolveView p (mask_names p) (spot Q m r) (record { list = [] }) v o) f k;
        is = same f;
      } where
        same : (let o : Result Ty Refusal = Ok u in o ≡ Ok (target_type x)) → u ≡ target_type x
        same g = cc g
      at (Err s, f) k = absurd (not_both f) where
        not_both : (let o : Result Ty Refusal = Ok u in o ≡ Err s) → ⊥
        not_both g = cc g

  pub side_refused : (fault : NameFault) (f : CheckFault) → f ≡ of_names fault → NameTold (ResolveView p masks sp vs v) (Err fault) → SideTold p Q m r v (Err f)
  side_refused fault f i g = subst (λ (c : CheckFault). SideTold p Q m r v (Err c)) (sym i) (of fault g) where
    of : (x : NameFault) → NameTold (ResolveView p masks sp vs v) (Err x) → SideTold p Q m r v (Err (of_names x))
    of (names.Refused s) k = view_is (Err s) k
    of names.Memory k = tt

-- ---- constraints

module _ (p : Program) (Q : Path) (m : Name) (c : Constraint) where
  pub left_fails : (f : CheckFault) → SideTold p Q m role.From c.from (Err f) → PledgeTold p Q m c (Err f)
  left_fails (Refused r) g = left_refused r g refl
  left_fails Memory g = tt

  pub right_fails : (u : Ty) (f : CheckFault) → IsSide p Q m role.From c.from u → SideTold p Q m role.To c.to (Err f) → PledgeTold p Q m c (Err f)
  right_fails u (Refused r) h g = right_refused h.target r h.resolved g refl
  right_fails u Memory h g = tt

  pub both_there : (u w : Ty) → IsSide p Q m role.From c.from u → IsSide p Q m role.To c.to w → IsPledge p Q m c (record { from = u; to = w })
  both_there u w g h = record {
    pledge = record { from = g.target; to = h.target };
    resolved = both g.target h.target g.resolved h.resolved refl;
    from = g.is;
    to = h.is;
  }
