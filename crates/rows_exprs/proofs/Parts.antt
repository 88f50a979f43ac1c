-- The parts of a program, in an Env.
use Rattle.std.proofs.Common.{◌≡◌, ◌≤◌, length, arith, [], List, ℕ, refl, sym, ap, ◌∙◌, subst}
use Rattle.jn_base.specs.declared.tree.Program.{Program}
use Rattle.jn_base.specs.declared.tree.Name.{Name}
use Rattle.jn_base.specs.declared.tree.Method.{Method}
use Rattle.jn_base.specs.declared.names.Var.{Var}
use Rattle.jn_base.specs.declared.types.Ty.{Ty}
use Rattle.jn_base.specs.Paths.{Path}
use Rattle.jn_base.specs.Duplicates.{duplicates}
use Rattle.jn_base.specs.Spelling.{IsTextOf}
use Rattle.jn_base.specs.WithinLimits.{IsWithinLimits}
use Rattle.jn_base.specs.ProgramNames.{IsNamed}
use Rattle.jn_intern.specs.Pools.{Keeps, scope_in}
use Rattle.jn_intern.proofs.Pools.{keeps_same}
use Rattle.jn_laws.specs.LawsOfWritten.{Shallow, site_with, scope_of}
use Rattle.jn_laws.proofs.PlacesAside.{programs_within_limits}
use Rattle.jn_table.specs.declared.table.Table.{Table}
use Rattle.jn_table.specs.Tables.{IsFilled}
use Rattle.jn_names.specs.declared.members.Members.{Members}
use Rattle.jn_names.specs.Members.{IsMembersOf}
use Rattle.jn_share.specs.declared.groups.Groups.{Groups}
use Rattle.jn_share.specs.declared.slots.Slots.{Slots}
use Rattle.jn_share.specs.Groups.{AreGroups}
use Rattle.jn_share.specs.Slots.{AreSlots}
use Rattle.jn_heads.specs.declared.place.Place.{Place}
use Rattle.jn_heads.specs.Places.{IsReady, Stands, IsIn, site_of}
use Rattle.jn_heads.proofs.Writing.{scope_fits}
use Rattle.jn_header.specs.declared.judge.Headers.{Headers}
use Rattle.jn_header.specs.Judged.{AreParts}
use Rattle.jn_rules.specs.Exprs.{site_here}
use Rattle.jn_expr.specs.Envs.{Parts, ArePartsOf, InOrder, IsScope, IsThere, here_at}
use Rattle.jn_expr.proofs.Scopes.{low_scope, low_in_order}
use Rattle.jn_expr.proofs.Typeds.{first_there}
use Rattle.rows_exprs.specs.Parting.{HasParts}

-- the program of a source is within the limits
pub within_limits : (p : Program) (bytes : List ℕ) → IsTextOf p bytes → IsWithinLimits p
within_limits p bytes is = record { source = bytes; spelled = p; same = refl; is_text = is }

-- the parts of a program whose headers pass
pub are_parts : (p : Program) (t : Table) (h : Headers) (x : Parts) → IsWithinLimits p → duplicates p ≡ [] → AreParts p t h → HasParts t h x → ArePartsOf p x
are_parts p t h x limits once a e = record {
  once = once;
  well = (programs_within_limits p limits).formed;
  filled = subst (IsFilled p) (sym e.table) a.filled;
  shallow = (programs_within_limits p limits).shallow;
  members = subst (λ (y : Members). IsMembersOf p x.table y) (sym e.members) (subst (λ (u : Table). IsMembersOf p u h.members) (sym e.table) a.members);
  groups = subst (λ (y : Groups). AreGroups p x.table.known.items y) (sym e.groups)
      (subst (λ (u : Table). AreGroups p u.known.items h.groups) (sym e.table) a.groups);
  slots = subst (λ (y : Slots). AreSlots p x.table.known.items y) (sym e.slots)
      (subst (λ (u : Table). AreSlots p u.known.items h.slots) (sym e.table) a.slots);
  masks = e.masks ∙ a.masks;
}

-- the same with another table that is equal
pub parts_at : (p : Program) (x : Parts) (t : Table) → t ≡ x.table → ArePartsOf p x
    → ArePartsOf p (record { table = t; members = x.members; groups = x.groups; slots = x.slots; masks = x.masks; vars = x.vars; class = x.class; method = x.method })
parts_at p x t e h =
    subst (λ (u : Table). ArePartsOf p (record { table = u; members = x.members; groups = x.groups; slots = x.slots; masks = x.masks; vars = x.vars; class = x.class; method = x.method }))
    (sym e) h

-- and with other variables in scope
pub parts_with : (p : Program) (x : Parts) (vs : List Var) → ArePartsOf p x
    → ArePartsOf p (record { table = x.table; members = x.members; groups = x.groups; slots = x.slots; masks = x.masks; vars = vs; class = x.class; method = x.method })
parts_with p x vs h = record {
  once = h.once;
  well = h.well;
  filled = h.filled;
  shallow = h.shallow;
  members = h.members;
  groups = h.groups;
  slots = h.slots;
  masks = h.masks;
}

-- with other names that are those of the masks
pub ready : (p : Program) (x : Parts) (names : List Name) → names ≡ x.masks → ArePartsOf p x → IsReady p x.table names
ready p x names e h = record { filled = h.filled; shallow = h.shallow; masks = e ∙ h.masks }

-- the scope of the parameters fits
pub first_scope : (p : Program) (pool : List Ty) (at : Place) → Stands p pool at → length at.vars.list ≤ 255 → IsScope pool at.scope
first_scope p pool at s l = record {
  known = s.known;
  fits = scope_fits p pool pool at s (keeps_same pool);
  order = subst InOrder (sym s.scope)
      (low_in_order (scope_of (site_of at)) (low_scope at.class at.method at.vars.list (λ v m. let k = s.numbered v m in omega (arith, k, l))));
}

pub named : (p : Program) → IsWithinLimits p → IsNamed p
named p w = (programs_within_limits p w).named

-- the place behind a header of the method is that of its parameters
pub place_there : (p : Program) (C : Path) (m : Method) (pool : List Ty) (at : Place) → Stands p pool at → IsIn (record { class = C; method = m }) at
    → IsThere p (site_here (here_at C m at.vars.list)) (scope_in pool at.scope)
place_there p C m pool at h i =
    subst (λ (Q : Path). IsThere p (site_with Q m.name.name at.vars.list) (scope_in pool at.scope)) i.class
    (subst (λ (n : Name). IsThere p (site_with at.class n at.vars.list) (scope_in pool at.scope)) i.method
    (subst (IsThere p (site_of at)) (sym h.scope) (first_there p (site_of at) h.fits)))
