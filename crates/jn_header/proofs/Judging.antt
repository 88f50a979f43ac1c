-- The steps of the verdict of headers, put together.
use Rattle.std.proofs.Common.{◌≡◌, List, [], sym, subst, ◌∙◌}
use Rattle.std.specs.Prelude.{Result, Ok, Err, Option, Some, None}
use Rattle.jn_base.specs.declared.tree.Program.{Program}
use Rattle.jn_base.specs.declared.path.Path.{Path as ShownPath}
use Rattle.jn_base.specs.declared.refusal.Refusal.{Refusal}
use Rattle.jn_base.specs.declared.tree.Name.{Name}
use Rattle.jn_base.specs.ResolveTypes.{mask_names}
use Rattle.jn_base.specs.Duplicates.{duplicates}
use Rattle.jn_base.specs.ProgramNames.{IsNamed}
use Rattle.jn_base.specs.TableRules.{TablePasses}
use Rattle.jn_base.specs.WithinLimits.{IsWithinLimits}
use Rattle.jn_table.specs.declared.field_types.FieldTypes.{FieldTypes}
use Rattle.jn_table.specs.declared.table.Table.{Table}
use Rattle.jn_table.specs.Tables.{IsFilled}
use Rattle.jn_names.specs.FieldTypes.{AllFieldsGive, FieldsTold}
use Rattle.jn_names.specs.declared.fault.NameFault.{NameFault}
use Rattle.jn_names.specs.declared.fault.NameFault.TheVariants as names
use Rattle.jn_sem.specs.LawsOfSlots.{OnePlaceEach}
use Rattle.jn_sem.proofs.FieldAnchors.{fields_pass}
use Rattle.jn_laws.proofs.StoredValues.{same_path}
use Rattle.jn_laws.proofs.PlacesAside.{programs_within_limits}
use Rattle.jn_heads.specs.declared.fault.CheckFault.{CheckFault}
use Rattle.jn_heads.specs.declared.fault.CheckFault.TheVariants.{Refused, Memory}
use Rattle.jn_heads.specs.Places.{IsReady}
use Rattle.jn_heads.specs.Told.{Told, itself, of_names}
use Rattle.jn_rules.specs.Plans.{Nothing}
use Rattle.jn_rules.specs.Questions.{Gives}
use Rattle.jn_rules.specs.Headers.{header_plan}
use Rattle.jn_rules.specs.Members.{bad_field}
use Rattle.jn_rules.specs.Verdict.{TypesPass, MembersPass, LimitsPass, HeadersPass, HeadersRefuse, table, headers, members, constraints, HeadersVerdict}
use Rattle.jn_rule_laws.proofs.Declared.{headers_that_pass}
use Rattle.jn_rule_laws.proofs.Verdicts.{one_headers}
use Rattle.jn_share.specs.declared.fault.ShareFault.{ShareFault}
use Rattle.jn_share.specs.declared.fault.ShareFault.TheVariants as share
use Rattle.jn_share.specs.declared.groups.Groups.{Groups}
use Rattle.jn_share.specs.Groups.{AreGroups, GroupsGive}
use Rattle.jn_share.specs.Slots.{AreFieldTypes, SlotsAsked, SlotsGive}
use Rattle.jn_header.specs.declared.judge.Headers.{Headers}
use Rattle.jn_header.specs.Bodies.{OrMemory, IsJudged}
use Rattle.jn_header.specs.Check.{TableVerdict}
use Rattle.jn_header.specs.Classes.{OrRefused, IsFirstRefused, FirstRefusedIs}
use Rattle.jn_header.specs.Constraints.{IsFirstFailing, FirstFailingIs}
use Rattle.jn_header.specs.Judged.{PartsPass, nothing}
use Rattle.jn_header.specs.Shared.{of_share}
use Rattle.jn_header.proofs.Listings.{no_refusal}
use Rattle.jn_header.proofs.FieldTypes.{no_type_refused}
use Rattle.jn_share_laws.proofs.Fitting.{fit}
use Rattle.jn_share_laws.proofs.Limited.{limits_agree}

-- ---- faults handed on

pub refused_memory : {A B : Type 0} (p : Program) (T : A → Type 0) (U : B → Type 0) (f : CheckFault) → OrMemory T (Err f) → OrRefused p U (Err f)
refused_memory p T U (Refused r) h = absurd h
refused_memory p T U Memory h = tt

pub refused_on : {A B : Type 0} (p : Program) (T : A → Type 0) (U : B → Type 0) (f : CheckFault) → OrRefused p T (Err f) → OrRefused p U (Err f)
refused_on p T U (Refused r) h = h
refused_on p T U Memory h = tt

pub refused_weaker : {B : Type 0} (p : Program) (T U : B → Type 0) → ((x : B) → T x → U x) → (r : Result B CheckFault) → OrRefused p T r → OrRefused p U r
refused_weaker p T U f (Ok x) h = f x h
refused_weaker p T U f (Err (Refused r)) h = h
refused_weaker p T U f (Err Memory) h = tt

-- ---- members

pub members_refused : (p : Program) → TypesPass p → (o : Option Refusal) (r : Refusal) → o ≡ Some r → FirstRefusedIs p o → HeadersRefuse p r
members_refused p t o r e h = let f : IsFirstRefused p r = subst (FirstRefusedIs p) e h in members f.R t f.first f.refused

pub members_pass : (p : Program) → TypesPass p → (o : Option Refusal) → o ≡ None → FirstRefusedIs p o → MembersPass p
members_pass p t o e h = record { types = t; members = subst (FirstRefusedIs p) e h }

-- ---- groups and slots

pub groups_memory : {A : Type 0} (p : Program) (T : A → Type 0) (known : List ShownPath) → MembersPass p → (f : ShareFault) (g : CheckFault) → g ≡ of_share f → GroupsGive p known (Err f) → OrMemory T (Err g)
groups_memory p T known m f g e h = subst (λ (c : CheckFault). OrMemory T (Err c)) (sym e) (of f h) where
  of : (f : ShareFault) → GroupsGive p known (Err f) → OrMemory T (Err (of_share f))
  of (share.Refused r) k = no_refusal p m.types.headers r k
  of share.Memory k = tt

pub groups_there : (p : Program) (known : List ShownPath) (g : Groups) → GroupsGive p known (Ok g) → AreGroups p known g
groups_there p known g h = h.1

pub types_memory : {A : Type 0} (p : Program) (T : A → Type 0) (t : Table) → MembersPass p → (f : NameFault) (g : CheckFault) → g ≡ of_names f → FieldsTold (AllFieldsGive p t) (Err f) → OrMemory T (Err g)
types_memory p T t m f g e h = subst (λ (c : CheckFault). OrMemory T (Err c)) (sym e) (of f h) where
  of : (f : NameFault) → FieldsTold (AllFieldsGive p t) (Err f) → OrMemory T (Err (of_names f))
  of (names.Refused r) k = no_type_refused p t.known.items (headers_that_pass p m.types.headers) r k
  of names.Memory k = tt

pub types_there : (p : Program) (t : Table) (types : FieldTypes) → FieldsTold (AllFieldsGive p t) (Ok types) → AreFieldTypes p t.known.items types.list.items
types_there p t types h = fit p t types.list.items h

pub slots_refused : {A : Type 0} (p : Program) (T : A → Type 0) (known : List ShownPath) → MembersPass p → (f : ShareFault) (g : CheckFault) → g ≡ of_share f → SlotsGive p known (Err f) → OrRefused p T (Err g)
slots_refused p T known m f g e h = subst (λ (c : CheckFault). OrRefused p T (Err c)) (sym e) (of f h) where
  of : (f : ShareFault) → SlotsGive p known (Err f) → OrRefused p T (Err (of_share f))
  of (share.Refused r) k = (limits_agree p m).refused r k
  of share.Memory k = tt

one_place : (p : Program) → MembersPass p → OnePlaceEach p
one_place p ok V Q R f c d e = same_path Q R (λ apart. ok.members V (record {
  class = c;
  bad = bad_field f (record { one = Q; other = R; at_one = d; at_other = e; apart = apart });
}))

pub slots_asked : (p : Program) (t : Table) (g : Groups) (types : FieldTypes) → IsWithinLimits p → duplicates p ≡ [] → IsFilled p t → MembersPass p → AreGroups p t.known.items g
    → AreFieldTypes p t.known.items types.list.items → SlotsAsked p t g types
slots_asked p t g types limits once filled m groups typed = record {
  filled = filled;
  declarations = record { once = once; table = m.types.table };
  groups = groups;
  typed = typed;
  passes = fields_pass p (one_place p m) (programs_within_limits p limits).brackets;
}

-- ---- constraints

pub constraints_refused : (p : Program) → LimitsPass p → (o : Option Refusal) (r : Refusal) → o ≡ Some r → FirstFailingIs p o → HeadersRefuse p r
constraints_refused p l o r e h =
    let f : IsFirstFailing p r = subst (FirstFailingIs p) e h in constraints f.R f.method f.body l f.first f.first_method f.fails f.is

pub constraints_pass : (p : Program) → LimitsPass p → (o : Option Refusal) → o ≡ None → FirstFailingIs p o → HeadersPass p
constraints_pass p l o e h = record { limits = l; constraints = subst (FirstFailingIs p) e h }

-- ---- the class table and the types

pub types_refused : {A : Type 0} (p : Program) (T : A → Type 0) → TablePasses p → (f : CheckFault) → Told {B = Nothing} (Gives p (header_plan p)) itself (Err f) → OrRefused p T (Err f)
types_refused p T t (Refused r) h = headers t h
types_refused p T t Memory h = tt

pub table_refused : {A : Type 0} (p : Program) (T : A → Type 0) (f : CheckFault) → Told {B = Nothing} (TableVerdict p) itself (Err f) → OrRefused p T (Err f)
table_refused p T (Refused r) h = table h
table_refused p T Memory h = tt

-- ---- the verdict

pub verdict_told : (p : Program) (t : Table) (r : Result Headers CheckFault) → OrRefused p (PartsPass p t) r → Told (HeadersVerdict p) nothing r
verdict_told p t (Ok h) k = k.0
verdict_told p t (Err (Refused r)) k = k
verdict_told p t (Err Memory) k = tt

pub verdict_only : (p : Program) → duplicates p ≡ [] → IsNamed p → (r : Result Headers CheckFault) → Told (HeadersVerdict p) nothing r → (o : Result Nothing Refusal) → HeadersVerdict p o
    → Told (λ (a : Result Nothing Refusal). a ≡ o) nothing r
verdict_only p once named (Ok h) k o v = (one_headers p once named).one (Ok tt) o k v
verdict_only p once named (Err (Refused r)) k o v = (one_headers p once named).one (Err r) o k v
verdict_only p once named (Err Memory) k o v = tt

pub ready_there : (p : Program) (t : Table) (names others : List Name) → IsWithinLimits p → IsFilled p t → names ≡ mask_names p → others ≡ names → IsReady p t others
ready_there p t names others limits filled e same = record { filled = filled; shallow = (programs_within_limits p limits).shallow; masks = same ∙ e }

pub judged_there : (p : Program) (t u : Table) (names : List Name) → IsWithinLimits p → duplicates p ≡ [] → IsFilled p t → TablePasses p → Gives p (header_plan p) (Ok tt) → names ≡ mask_names p → u ≡ t
    → IsJudged p u names
judged_there p t u names limits once filled passes given e kept = subst (λ (x : Table). IsJudged p x names) (sym kept) (record {
  ready = record { filled = filled; shallow = (programs_within_limits p limits).shallow; masks = e };
  once = once;
  types = record { table = passes; headers = given };
})
