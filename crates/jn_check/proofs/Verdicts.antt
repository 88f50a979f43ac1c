-- The steps of the verdict of a program, put together.
use Rattle.std.proofs.Common.{◌≡◌, [], ◌++◌, List, sym, ap, ◌∙◌, subst}
use Rattle.std.specs.Prelude.{Result, Ok, Err, IfOk}
use Rattle.jn_reach.specs.Each.{Each}
use Rattle.jn_base.specs.declared.tree.Program.{Program}
use Rattle.jn_base.specs.declared.names.Resolved.{Resolved}
use Rattle.jn_base.specs.declared.refusal.Refusal.{Refusal}
use Rattle.jn_base.specs.Duplicates.{duplicates}
use Rattle.jn_base.specs.ProgramNames.{IsNamed}
use Rattle.jn_base.specs.WithinLimits.{IsWithinLimits}
use Rattle.jn_laws.proofs.PlacesAside.{programs_within_limits}
use Rattle.jn_table.specs.declared.table.Table.{Table}
use Rattle.jn_table.specs.Tables.{IsFilled}
use Rattle.jn_names.specs.declared.members.Members.{Members}
use Rattle.jn_names.specs.Members.{IsMembersOf}
use Rattle.jn_share.specs.declared.groups.Groups.{Groups}
use Rattle.jn_share.specs.declared.slots.Slots.{Slots}
use Rattle.jn_share.specs.Groups.{AreGroups}
use Rattle.jn_share.specs.Slots.{AreSlots}
use Rattle.jn_agree.specs.Rows.{bodies_of}
use Rattle.jn_rules.specs.Plans.{Nothing}
use Rattle.jn_rules.specs.Resolved.{IsResolved}
use Rattle.jn_rules.specs.Stmts.{body_plan}
use Rattle.jn_rules.specs.Verdict.{HeadersPass, HeadersVerdict, BodiesPass, TreeRefuses, TreeVerdict}
use Rattle.jn_rule_laws.proofs.Verdicts.{one_tree}
use Rattle.jn_heads.specs.declared.fault.CheckFault.{CheckFault}
use Rattle.jn_heads.specs.declared.fault.CheckFault.TheVariants.{Refused, Memory}
use Rattle.jn_heads.specs.Told.{Told, itself}
use Rattle.jn_header.specs.declared.judge.Headers.{Headers}
use Rattle.jn_header.specs.Check.{NamesVerdict}
use Rattle.jn_header.specs.Judged as judged
use Rattle.jn_header.specs.Judged.{AreParts}
use Rattle.jn_expr.specs.Envs.{Parts, ArePartsOf}
use Rattle.jn_check.specs.declared.world.World.{World}
use Rattle.jn_check.specs.Walk.{Known, KnownOr}
use Rattle.jn_check.specs.Worlds.{IsWorld, WorldTold, HasParts, nothing}

-- ---- the parts of the program

pub named : (p : Program) → IsWithinLimits p → IsNamed p
named p w = (programs_within_limits p w).named

pub are_parts : (p : Program) (t : Table) (h : Headers) (x : Parts) → IsWithinLimits p → duplicates p ≡ [] → AreParts p t h → HasParts t h x → ArePartsOf p x
are_parts p t h x limits once a e = record {
  once = once;
  well = (programs_within_limits p limits).formed;
  filled = subst (IsFilled p) (sym e.table) a.filled;
  shallow = (programs_within_limits p limits).shallow;
  members = subst (λ (y : Members). IsMembersOf p x.table y) (sym e.members) (subst (λ (u : Table). IsMembersOf p u h.members) (sym e.table) a.members);
  groups = subst (λ (y : Groups). AreGroups p x.table.known.items y) (sym e.groups)
      (subst (λ (u : Table). AreGroups p u.known.items h.groups) (sym e.table) a.groups);
  slots = subst (λ (y : Slots). AreSlots p x.table.known.items y) (sym e.slots)
      (subst (λ (u : Table). AreSlots p u.known.items h.slots) (sym e.table) a.slots);
  masks = e.masks ∙ a.masks;
}

-- ---- what is refused

pub names_told : (p : Program) (f : CheckFault) → Told {B = Nothing} (NamesVerdict p) itself (Err f) → WorldTold p (Err f)
names_told p (Refused r) h = TreeRefuses.twice h
names_told p Memory h = tt

pub headers_told : (p : Program) (f : CheckFault) → duplicates p ≡ [] → Told (HeadersVerdict p) judged.nothing (Err f) → WorldTold p (Err f)
headers_told p (Refused r) once h = TreeRefuses.headers once h
headers_told p Memory once h = tt

pub bodies_told : (p : Program) (f : CheckFault) (before after : List Resolved) → duplicates p ≡ [] → HeadersPass p
    → KnownOr p (body_plan p) (bodies_of p) before after (Err f) → WorldTold p (Err f)
bodies_told p (Refused r) before after once pass h = TreeRefuses.bodies once pass h
bodies_told p Memory before after once pass h = tt

-- ---- what passes

pub bodies_pass : (p : Program) (before after : List Resolved) → duplicates p ≡ [] → HeadersPass p → Known p (body_plan p) (bodies_of p) before after → BodiesPass p
bodies_pass p before after once pass h = record { once = once; headers = pass; bodies = h.gives }

pub bodies_known : (p : Program) (before after : List Resolved) → before ≡ [] → Known p (body_plan p) (bodies_of p) before after → Each (IsResolved p) (bodies_of p) after
bodies_known p before after e h =
    subst (λ (rs : List Resolved). Each (IsResolved p) (bodies_of p) rs) (sym (h.is ∙ ap (λ (rs : List Resolved). rs ++ h.more) e)) h.each

-- ---- the clauses of the check

pub verdict_told : (p : Program) (r : Result World CheckFault) → WorldTold p r → Told (TreeVerdict p) nothing r
verdict_told p (Ok w) h = h.0
verdict_told p (Err (Refused r)) h = h
verdict_told p (Err Memory) h = tt

pub verdict_only : (p : Program) → IsWithinLimits p → (r : Result World CheckFault) → WorldTold p r → (o : Result Nothing Refusal) → TreeVerdict p o
    → Told (λ (a : Result Nothing Refusal). a ≡ o) nothing r
verdict_only p w (Ok x) h o v = (one_tree p (named p w)).one (Ok tt) o h.0 v
verdict_only p w (Err (Refused r)) h o v = (one_tree p (named p w)).one (Err r) o h v
verdict_only p w (Err Memory) h o v = tt

pub verdict_parts : (p : Program) (r : Result World CheckFault) → WorldTold p r → IfOk r (IsWorld p)
verdict_parts p (Ok w) h = h.1
verdict_parts p (Err f) h = tt
