-- The headers of members: constraints, fields, methods and declarations.
use Rattle.std.proofs.Common.{◌≡◌, List, [], ◌∷◌, map, refl, sym, ap, ◌∙◌, subst, Result, Ok, Err}
use Rattle.jn_base.specs.declared.tree.Name.{Name}
use Rattle.jn_base.specs.declared.tree.Constraint.{Constraint}
use Rattle.jn_base.specs.declared.tree.Decl.{Decl}
use Rattle.jn_base.specs.declared.tree.Field.{Field}
use Rattle.jn_base.specs.declared.tree.Method.{Method}
use Rattle.jn_base.specs.declared.tree.Member.{Member}
use Rattle.jn_base.specs.declared.tree.Member.TheVariants as member
use Rattle.jn_base.specs.declared.tree.Member.TheVariants.{outs-Inner, outs-Slot, outs-Body}
use Rattle.jn_base.specs.declared.tree.Program.{Program}
use Rattle.jn_base.specs.declared.types.Ty.{Ty}
use Rattle.jn_base.specs.declared.names.Role.TheVariants as role
use Rattle.jn_base.specs.declared.names.Spot.{Spot}
use Rattle.jn_base.specs.declared.names.Vars.{Vars}
use Rattle.jn_base.specs.declared.refusal.Refusal.{Refusal}
use Rattle.jn_base.specs.Paths.{Path}
use Rattle.jn_base.specs.ResolveTypes.{mask_names, ResolveType}
use Rattle.jn_names.specs.Answers.{Told as NameTold}
use Rattle.jn_names.specs.declared.fault.NameFault.{NameFault}
use Rattle.jn_names.specs.declared.fault.NameFault.TheVariants as names
use Rattle.jn_sem.specs.NotFamily.{own_listed}
use Rattle.jn_sem.specs.Terms.{spot}
use Rattle.jn_rules.specs.Plans.{Plan, Nothing, in_turn}
use Rattle.jn_rules.specs.Questions.{Gives}
use Rattle.jn_rules.specs.Headers.{Header, header_typed, constraint_asked, method_asked, field_asked, listed_asked, decl_headers, asked_at, header_plan}
use Rattle.jn_rules.specs.Forms.{member_headers, headers_in}
use Rattle.jn_rules.proofs.PlanLaws.{then_gives, then_refuses}
use Rattle.jn_rules.proofs.FormLaws.{decl_forms}
use Rattle.jn_heads.specs.declared.fault.CheckFault.{CheckFault}
use Rattle.jn_heads.specs.declared.fault.CheckFault.TheVariants.{Refused, Memory}
use Rattle.jn_heads.specs.declared.sides.Pledge.{Pledge}
use Rattle.jn_heads.specs.Told.{Told, itself, of_names}
use Rattle.jn_heads.specs.Sides.{IsPledge, PledgeTold}
use Rattle.jn_header.specs.Asked.{header_at, headers_in_space}

-- ---- constraints

module _ (p : Program) (Q : Path) (m : Method) (c : Constraint) where
  pub constraint_passes : (k : Pledge) → IsPledge p Q m.name.name c k → Gives p (constraint_asked Q m c) (Ok tt)
  constraint_passes k h = (Ok h.pledge, h.resolved, refl)

  pub constraint_fails : (f : CheckFault) → PledgeTold p Q m.name.name c (Err f) → Told {B = Nothing} (Gives p (constraint_asked Q m c)) itself (Err f)
  constraint_fails (Refused r) h = (Err r, h, refl)
  constraint_fails Memory h = tt

-- ---- methods and fields

module _ (p : Program) (Q : Path) (m : Method) where
  pub method_refused : (B : Type 0) (show : B → Header) (f : CheckFault) → Told (Gives p (header_typed (record { class = Q; method = m }))) show (Err f)
      → Told {B = Nothing} (Gives p (method_asked Q m)) itself (Err f)
  method_refused B show (Refused r) g = then_refuses p (header_typed (record { class = Q; method = m })) _ r g
  method_refused B show Memory g = tt

  pub method_told : (h : Header) (r : Result Nothing CheckFault) (cs : List Constraint) → cs ≡ m.sharing → Gives p (header_typed (record { class = Q; method = m })) (Ok h)
      → Told (Gives p (in_turn (map (constraint_asked Q m) cs))) itself r → Told (Gives p (method_asked Q m)) itself r
  method_told h (Ok u) cs e g k =
      then_gives p (header_typed (record { class = Q; method = m })) _ h (Ok u) g (subst (λ (xs : List Constraint). Gives p (in_turn (map (constraint_asked Q m) xs)) (Ok u)) e k)
  method_told h (Err (Refused r)) cs e g k =
      then_gives p (header_typed (record { class = Q; method = m })) _ h (Err r) g (subst (λ (xs : List Constraint). Gives p (in_turn (map (constraint_asked Q m) xs)) (Err r)) e k)
  method_told h (Err Memory) cs e g k = tt

module _ (p : Program) (Q : Path) (x : Field) (masks : List Name) (sp : Spot) (vs : Vars) (e : masks ≡ mask_names p) (h : sp ≡ spot Q x.name.name role.Field)
    (n : vs ≡ record { list = [] }) where
  type_is : (o : Result Ty Refusal) → ResolveType p masks sp vs x.ty o → ResolveType p (mask_names p) (spot Q x.name.name role.Field) (record { list = [] }) x.ty o
  type_is o g =
      subst (λ (ns : List Name). ResolveType p ns (spot Q x.name.name role.Field) (record { list = [] }) x.ty o) e
      (subst (λ (s : Spot). ResolveType p masks s (record { list = [] }) x.ty o) h (subst (λ (w : Vars). ResolveType p masks sp w x.ty o) n g))

  pub field_passes : (u : Ty) → ResolveType p masks sp vs x.ty (Ok u) → Gives p (field_asked Q x) (Ok tt)
  field_passes u g = (Ok u, type_is (Ok u) g, refl)

  pub field_refused : (fault : NameFault) (f : CheckFault) → f ≡ of_names fault → NameTold (ResolveType p masks sp vs x.ty) (Err fault)
      → Told {B = Nothing} (Gives p (field_asked Q x)) itself (Err f)
  field_refused fault f i g = subst (λ (c : CheckFault). Told {B = Nothing} (Gives p (field_asked Q x)) itself (Err c)) (sym i) (of fault g) where
    of : (y : NameFault) → NameTold (ResolveType p masks sp vs x.ty) (Err y) → Told {B = Nothing} (Gives p (field_asked Q x)) itself (Err (of_names y))
    of (names.Refused r) k = (Err r, type_is (Err r) k, refl)
    of names.Memory k = tt

-- ---- one level deep

pub at_inner : (R : Path) (m : Member) (d : Decl) → m ≡ member.Inner d → header_at R m ≡ decl_headers d R
at_inner R m d e = ap (header_at R) e ∙ ap (member_headers R) (outs-Inner d)

pub at_slot : (R : Path) (m : Member) (f : Field) → m ≡ member.Slot f → header_at R m ≡ field_asked R f
at_slot R m f e = ap (header_at R) e ∙ ap (member_headers R) (outs-Slot f)

pub at_body : (R : Path) (m : Member) (x : Method) → m ≡ member.Body x → header_at R m ≡ method_asked R x
at_body R m x e = ap (header_at R) e ∙ ap (member_headers R) (outs-Body x)

headers_map : (R : Path) (ms : List Member) → headers_in R ms ≡ map (header_at R) ms
headers_map R [] = refl
headers_map R (m ∷ ms) = ap (λ (xs : List (Plan Nothing)). header_at R m ∷ xs) (headers_map R ms)

module _ (p : Program) (d : Decl) (P : Path) where
  abbrev lists : Plan Nothing
  lists = in_turn (map listed_asked (own_listed d.name.name d.shares d.adapts P))

  pub lists_refused : (f : CheckFault) → Told {B = Nothing} (Gives p lists) itself (Err f) → Told {B = Nothing} (Gives p (decl_headers d P)) itself (Err f)
  lists_refused (Refused r) g = subst (λ (x : Plan Nothing). Gives p x (Err r)) (sym (decl_forms d P).headers) (then_refuses p lists _ r g)
  lists_refused Memory g = tt

  members_are : (R : Path) (ms : List Member) (o : Result Nothing Refusal) → R ≡ d.name.name ∷ P → ms ≡ d.members → Gives p (in_turn (map (header_at R) ms)) o
      → Gives p (in_turn (headers_in (d.name.name ∷ P) d.members)) o
  members_are R ms o e i g =
      subst (λ (xs : List (Plan Nothing)). Gives p (in_turn xs) o)
      (ap (map (header_at R)) i ∙ (ap (λ (S : Path). map (header_at S) d.members) e ∙ sym (headers_map (d.name.name ∷ P) d.members))) g

  pub decl_told : (R : Path) (ms : List Member) (r : Result Nothing CheckFault) → R ≡ d.name.name ∷ P → ms ≡ d.members → Gives p lists (Ok tt)
      → Told (Gives p (in_turn (map (header_at R) ms))) itself r → Told (Gives p (decl_headers d P)) itself r
  decl_told R ms (Ok u) e i g k = subst (λ (x : Plan Nothing). Gives p x (Ok u)) (sym (decl_forms d P).headers) (then_gives p lists _ tt (Ok u) g (members_are R ms (Ok u) e i k))
  decl_told R ms (Err (Refused r)) e i g k =
      subst (λ (x : Plan Nothing). Gives p x (Err r)) (sym (decl_forms d P).headers) (then_gives p lists _ tt (Err r) g (members_are R ms (Err r) e i k))
  decl_told R ms (Err Memory) e i g k = tt

-- ---- the whole program

map_decls : (ds : List Decl) → map (headers_in_space []) ds ≡ map (asked_at []) (map decl_headers ds)
map_decls [] = refl
map_decls (d ∷ ds) = ap (λ (xs : List (Plan Nothing)). decl_headers d [] ∷ xs) (map_decls ds)

pub plan_told : (p : Program) (P : Path) (ds : List Decl) (r : Result Nothing CheckFault) → P ≡ [] → ds ≡ p.decls
    → Told (Gives p (in_turn (map (headers_in_space P) ds))) itself r → Told (Gives p (header_plan p)) itself r
plan_told p P ds r e i g =
    subst (λ (xs : List (Plan Nothing)). Told (Gives p (in_turn xs)) itself r)
    (ap (λ (S : Path). map (headers_in_space S) ds) e ∙ (ap (map (headers_in_space [])) i ∙ map_decls p.decls)) g
