-- The heads of declared bodies: what is refused of none, how rows are made, and what is found in them.
use Rattle.std.proofs.Common.{◌≡◌, ◌<◌, ◌≤◌, ◌+◌, ◌⊎◌, ℕ, zero, suc, List, [], ◌∷◌, ◌++◌, length, take, get_or, slice_get, reverse, Contains, Option, Some, nat_eq, inl, inr, refl, sym, ap, ◌∙◌, subst, arith, Result, Ok, Err}
use Rattle.std.proofs.lemmas.List.{reverse-reverse, take_more, take_all, length-map}
use Rattle.std.proofs.lemmas.Bool.{cases_lt}
use Rattle.std.proofs.lemmas.Option.{slice_get_within}
use Rattle.indexmap.specs.IndexMap.{get}
use Rattle.std.specs.declared.alloc.Global.{Global}
use Rattle.std.specs.declared.vec.Vec.{Vec}
use Rattle.jn_reach.specs.Each.{Each, none, more}
use Rattle.jn_reach.proofs.Eachs.{Each-at, Each-back, Each-length}
use Rattle.jn_base.specs.declared.tree.Name.{Name}
use Rattle.jn_base.specs.declared.tree.Constraint.{Constraint}
use Rattle.jn_base.specs.declared.tree.Decl.{Decl}
use Rattle.jn_base.specs.declared.tree.Field.{Field}
use Rattle.jn_base.specs.declared.tree.Method.{Method}
use Rattle.jn_base.specs.declared.tree.Member.{Member, out-Member}
use Rattle.jn_base.specs.declared.tree.Member.TheOpen.{Member-F}
use Rattle.jn_base.specs.declared.tree.Member.TheVariants as member
use Rattle.jn_base.specs.declared.tree.Member.TheVariants.{outs-Inner, outs-Slot, outs-Body}
use Rattle.jn_base.specs.declared.tree.Program.{Program}
use Rattle.jn_base.specs.declared.path.Path.{Path as ShownPath}
use Rattle.jn_base.specs.declared.refusal.Refusal.{Refusal}
use Rattle.jn_base.specs.Paths.{Path, shown, StandsAt, Declared, methods, and_method}
use Rattle.jn_base.specs.Members.{MethodAt}
use Rattle.jn_base.specs.Duplicates.{duplicates}
use Rattle.jn_base.specs.TableRules.{DeclarationsPass}
use Rattle.jn_base.proofs.Unique.{one_decl}
use Rattle.jn_table.specs.declared.class.ClassId.{ClassId}
use Rattle.jn_table.specs.declared.class.Row.{Row}
use Rattle.jn_table.specs.declared.table.Table.{Table}
use Rattle.jn_table.specs.Rows.{IsNumber, IsRow}
use Rattle.jn_table.specs.Tables.{IsTableOf, IsFilled, SaysRow}
use Rattle.jn_table.proofs.Shown.{same_id}
use Rattle.jn_homes.specs.Homes.{DeclIs}
use Rattle.jn_heads.specs.declared.fault.CheckFault.{CheckFault}
use Rattle.jn_heads.specs.declared.fault.CheckFault.TheVariants.{Refused, Memory}
use Rattle.jn_heads.specs.declared.params.Header.{Header as NumberHeader}
use Rattle.jn_heads.specs.declared.sides.Pledge.{Pledge as NumberPledge}
use Rattle.jn_heads.specs.Sides.{IsPledge, PledgeTold}
use Rattle.jn_heads.specs.Told.{Told}
use Rattle.jn_rules.specs.Plans.{Pledge}
use Rattle.jn_rules.specs.Questions.{header_site, ConstraintGives, Gives}
use Rattle.jn_rules.specs.Headers.{Header, header_typed}
use Rattle.jn_rule_laws.specs.LawsOfHeaders.{HeadersOf}
use Rattle.jn_rule_laws.proofs.Declared.{headers_that_pass}
use Rattle.jn_rule_laws.proofs.RepliesOne.{constraint_once}
use Rattle.jn_rule_laws.proofs.Replies.{one_outcome}
use Rattle.jn_header.specs.declared.bodies.BodyHead.{BodyHead}
use Rattle.jn_header.specs.declared.bodies.HeadRow.{HeadRow}
use Rattle.jn_header.specs.Bodies.{IsJudged, OrMemory, body_at, head_header, HeadAt, AreHeads, HeadRowAt, AreHeadRows, ArePlaced}
use Rattle.jn_header.specs.BodySteps.{AddsHeads}
use Rattle.jn_header.proofs.Numbers.{in_list, contained, number_there}

-- ---- nothing is refused

pub declarations_of : {p : Program} {t : Table} {names : List Name} → IsJudged p t names → DeclarationsPass p
declarations_of j = record { once = j.once; table = j.types.table }

pub memory_of : {A B : Type 0} (T : A → Type 0) (U : B → Type 0) (f : CheckFault) → OrMemory T (Err f) → OrMemory U (Err f)
memory_of T U (Refused r) h = h
memory_of T U Memory h = tt

pub memory_is : {A B : Type 0} (T : A → Type 0) (U : B → Type 0) (a : Result A CheckFault) (f : CheckFault) → a ≡ Err f → OrMemory T a → OrMemory U (Err f)
memory_is T U (Ok x) f e h = absurd (cc e)
memory_is T U (Err g) f e h = let same : g ≡ f = cc e in memory_of T U f (subst (λ (k : CheckFault). OrMemory T (Err k)) same h)

among : {A : Type 0} (xs : List A) (i : ℕ) (x : A) → i < length xs → x ≡ get_or xs i x → Contains xs x
among xs i x l e = (i, l, sym e)

module _ (p : Program) (t : Table) (names : List Name) (j : IsJudged p t names) where
  pub headers_of : HeadersOf p
  headers_of = headers_that_pass p j.types.headers

  pub pledge_memory : {B : Type 0} (T : B → Type 0) (Q : Path) (method : Name) (cs : List Constraint)
      → (m : Method) × (m.name.name ≡ method) × (m.sharing ≡ cs) × MethodAt p Q method m → (i : ℕ) (c : Constraint) → i < length cs → c ≡ get_or cs i c
      → (f : CheckFault) → PledgeTold p Q method c (Err f) → OrMemory T (Err f)
  pledge_memory T Q method cs (m, e, s, at) i c l is Memory told = tt
  pledge_memory T Q method cs (m, e, s, at) i c l is (Refused r) told =
      let among_its : Contains m.sharing c = subst (λ (xs : List Constraint). Contains xs c) (sym s) (among cs i c l is) in
      let g = headers_of.constraints Q method m c at among_its in
      let h : ConstraintGives p (header_site Q method) c (Ok g.0) = subst (λ (n : Name). ConstraintGives p (header_site Q n) c (Ok g.0)) e g.1 in
      apart g.0 (constraint_once p (header_site Q method) c (Err r) (Ok g.0) told h) where
        apart : (k : Pledge) → (let o : Result Pledge Refusal = Err r in o ≡ Ok k) → ⊥
        apart k q = cc q

  pub header_memory : {B : Type 0} (T : B → Type 0) (Q : Path) (m : Method) → MethodAt p Q m.name.name m → (pool : NumberHeader → Header) (f : CheckFault)
      → Told {B = NumberHeader} (Gives p (header_typed (body_at Q m))) pool (Err f) → OrMemory T (Err f)
  header_memory T Q m at pool Memory told = tt
  header_memory T Q m at pool (Refused r) told =
      let g = headers_of.methods Q m.name.name m at in
      apart g.0 ((one_outcome p (declarations_of j) j.ready.filled.table.named (header_typed (body_at Q m))).one (Err r) (Ok g.0) told g.1) where
        apart : (k : Header) → (let o : Result Header Refusal = Err r in o ≡ Ok k) → ⊥
        apart k q = cc q

-- ---- a head

pub head_is : (p : Program) (Q : Path) (m : Method) (x : BodyHead) (h : Header) (cs : List Constraint) (ks : List NumberPledge) → x.name ≡ m.name → head_header x ≡ h
    → Gives p (header_typed (body_at Q m)) (Ok h) → cs ≡ m.sharing → x.pledges.items ≡ ks → Each (IsPledge p Q m.name.name) cs ks → HeadAt p Q m x
head_is p Q m x h cs ks n e g c k each = record {
  name = n;
  header = subst (λ (y : Header). Gives p (header_typed (body_at Q m)) (Ok y)) (sym e) g;
  pledges = subst (λ (ys : List NumberPledge). Each (IsPledge p Q m.name.name) m.sharing ys) (sym k) (subst (λ (xs : List Constraint). Each (IsPledge p Q m.name.name) xs ks) c each);
}

pub own_parts : (m : Method) (cs : List Constraint) → cs ≡ m.sharing → (p : Program) (Q : Path) → MethodAt p Q m.name.name m
    → (x : Method) × (x.name.name ≡ m.name.name) × (x.sharing ≡ cs) × MethodAt p Q m.name.name x
own_parts m cs e p Q at = (m, refl, sym e, at)

-- ---- members one by one

of_member : (m : Member) (f : Member-F Member Decl) → out-Member m ≡ f → methods (m ∷ []) ≡ and_method f []
of_member m f e = ap (λ (x : Member-F Member Decl). and_method x []) e

pub inner_methods : (m : Member) (d : Decl) → m ≡ member.Inner d → methods (m ∷ []) ≡ []
inner_methods m d e = ap (λ (x : Member). methods (x ∷ [])) e ∙ of_member (member.Inner d) _ (outs-Inner d)

pub slot_methods : (m : Member) (f : Field) → m ≡ member.Slot f → methods (m ∷ []) ≡ []
slot_methods m f e = ap (λ (x : Member). methods (x ∷ [])) e ∙ of_member (member.Slot f) _ (outs-Slot f)

pub body_methods : (m : Member) (x : Method) → m ≡ member.Body x → methods (m ∷ []) ≡ x ∷ []
body_methods m x e = ap (λ (y : Member). methods (y ∷ [])) e ∙ of_member (member.Body x) _ (outs-Body x)

pub body_among : (m : Member) (x : Method) → m ≡ member.Body x → Contains (methods (m ∷ [])) x
body_among m x e = subst (λ (xs : List Method). Contains xs x) (sym (body_methods m x e)) (0, omega arith, refl)

append_none : {A : Type 0} (xs : List A) → xs ≡ xs ++ []
append_none [] = refl
append_none (x ∷ xs) = ap (λ zs. x ∷ zs) (append_none xs)

pub adds_none : (p : Program) (R : Path) (ms : List Method) (out : List BodyHead) → ms ≡ [] → AddsHeads p R ms out out
adds_none p R ms out e = record { heads = []; is = append_none out; each = subst (λ (xs : List Method). Each (HeadAt p R) xs []) (sym e) none }

pub adds_one : (p : Program) (R : Path) (ms : List Method) (m : Method) (x : BodyHead) (before after : List BodyHead) → ms ≡ m ∷ [] → HeadAt p R m x
    → after ≡ before ++ x ∷ [] → AddsHeads p R ms before after
adds_one p R ms m x before after e h a = record { heads = x ∷ []; is = a; each = subst (λ (xs : List Method). Each (HeadAt p R) xs (x ∷ [])) (sym e) (more h none) }

and_more : (f : Member-F Member Decl) (xs ys : List Method) → and_method f (xs ++ ys) ≡ and_method f xs ++ ys
and_more (Member-F.Inner d) xs ys = refl
and_more (Member-F.Slot g) xs ys = refl
and_more (Member-F.Body m) xs ys = refl

pub methods_append : (xs ys : List Member) → methods (xs ++ ys) ≡ methods xs ++ methods ys
methods_append [] ys = refl
methods_append (m ∷ xs) ys = ap (and_method (out-Member m)) (methods_append xs ys) ∙ and_more (out-Member m) (methods xs) (methods ys)

each_append : {A B : Type 0} {R : A → B → Type 0} {xs us : List A} {ys vs : List B} → Each R xs ys → Each R us vs → Each R (xs ++ us) (ys ++ vs)
each_append none f = f
each_append (more r e) f = more r (each_append e f)

-- the methods of one of the members are among all
in_front : (f : Member-F Member Decl) (xs : List Method) (x : Method) → Contains (and_method f []) x → Contains (and_method f xs) x
in_front (Member-F.Inner d) xs x c = absurd (nothing c) where
  nothing : Contains [] x → ⊥
  nothing h = omega (arith, h.1)
in_front (Member-F.Slot g) xs x c = absurd (nothing c) where
  nothing : Contains [] x → ⊥
  nothing h = omega (arith, h.1)
in_front (Member-F.Body m) xs x c = (0, omega arith, only c) where
  only : Contains (m ∷ []) x → m ≡ x
  only (zero, l, e) = e
  only (suc k, l, e) = absurd (omega (arith, l))

behind : (f : Member-F Member Decl) (xs : List Method) (x : Method) → Contains xs x → Contains (and_method f xs) x
behind (Member-F.Inner d) xs x c = c
behind (Member-F.Slot g) xs x c = c
behind (Member-F.Body m) xs x c = (suc c.0, omega (arith, c.1), c.2)

pub one_of_all : (ms : List Member) (i : ℕ) (m : Member) → i < length ms → m ≡ get_or ms i m → (x : Method) → Contains (methods (m ∷ [])) x → Contains (methods ms) x
one_of_all [] i m l e x c = absurd (omega (arith, l))
one_of_all (y ∷ ms) zero m l e x c = in_front (out-Member y) (methods ms) x (subst (λ (z : Member). Contains (methods (z ∷ [])) x) e c)
one_of_all (y ∷ ms) (suc i) m l e x c = behind (out-Member y) (methods ms) x (one_of_all ms i m (omega (arith, l)) e x c)

module _ (p : Program) (R : Path) (ms : List Member) (i : ℕ) where
  pub heads_more : (m : Member) (a b : List BodyHead) → i < length ms → m ≡ get_or ms i m → Each (HeadAt p R) (methods (take i ms)) a → AddsHeads p R (methods (m ∷ [])) a b
      → Each (HeadAt p R) (methods (take (i + 1) ms)) b
  heads_more m a b l e each adds =
      let taken : take (i + 1) ms ≡ take i ms ++ m ∷ [] = take_more ms i m l ∙ ap (λ z. take i ms ++ z ∷ []) (sym e) in
      subst (λ (xs : List Member). Each (HeadAt p R) (methods xs) b) (sym taken)
      (subst (λ (xs : List Method). Each (HeadAt p R) xs b) (sym (methods_append (take i ms) (m ∷ [])))
      (subst (λ (hs : List BodyHead). Each (HeadAt p R) (methods (take i ms) ++ methods (m ∷ [])) hs) (sym adds.is) (each_append each adds.each)))

  pub heads_all : (a : List BodyHead) → length ms ≤ i → Each (HeadAt p R) (methods (take i ms)) a → Each (HeadAt p R) (methods ms) a
  heads_all a l each = subst (λ (xs : List Member). Each (HeadAt p R) (methods xs) a) (take_all i ms l) each

-- ---- the row of a class

pub path_is : (row : Row) (R : Path) → row.path ≡ shown R → reverse row.path.names ≡ R
path_is row R e = ap (λ (q : ShownPath). reverse q.names) e ∙ reverse-reverse R

pub class_is : (t : Table) (id : ClassId) (row : Row) (class : Path) (names : List Name) → SaysRow t id row → names ≡ row.path.names → class ≡ reverse names
    → (p : Program) (R : Path) → IsTableOf p t → IsNumber t.known.items id R → class ≡ R
class_is t id row class names says e c p R is n = c ∙ (ap reverse e ∙ path_is row R (says p R is n).path)

module _ (p : Program) (R : Path) where
  pub declared_of : (d : Decl) → StandsAt p R d → (x : Method) → Contains (methods d.members) x → MethodAt p R x.name.name x
  declared_of d s x c = record { decl = d; stands = s; has = c; name = refl }

  pub no_heads : (row : List BodyHead) → row ≡ [] → (Declared p R → ⊥) → AreHeads p R row
  no_heads row e not = record {
    each = λ x c. absurd (nothing x (subst (λ (xs : List BodyHead). Contains xs x) e c));
    all = λ n m at. absurd (not (record { decl = at.decl; stands = at.stands }));
  } where
    nothing : (x : BodyHead) → Contains [] x → ⊥
    nothing x h = omega (arith, h.1)

  pub heads_are : ((d e : Decl) → StandsAt p R d → StandsAt p R e → d ≡ e) → (d : Decl) (row : List BodyHead) → StandsAt p R d → Each (HeadAt p R) (methods d.members) row → AreHeads p R row
  heads_are j d row s each = record {
    each = λ x c. let k = in_list row x c in let w = Each-back (HeadAt p R) each k.0 x k.1 in (w.0, declared_of d s w.0 (contained (methods d.members) k.0 w.0 w.1), w.2);
    all = λ n m at.
        let has : Contains (methods d.members) m = subst (λ (e : Decl). Contains (methods e.members) m) (j at.decl d at.stands s) at.has in
        let k = in_list (methods d.members) m has in
        let w = Each-at (HeadAt p R) each k.0 m k.1 in
        (w.0, contained row k.0 w.0 w.1, w.2);
  }

-- the declaration at the path of the number
pub decl_here : (p : Program) (t : Table) (id : ClassId) (row : Row) → SaysRow t id row → IsTableOf p t → (R : Path) → IsNumber t.known.items id R → (o : Option Decl)
    → DeclIs p (reverse row.path.names) o → DeclIs p R o
decl_here p t id row says is R n o d = subst (λ (S : Path). DeclIs p S o) (path_is row R (says p R is n).path) d

filled_number : (p : Program) (t : Table) → IsFilled p t → (id : ClassId) → id.0 < length t.rows.items → id.0 < length t.known.items
filled_number p t filled id l =
    let rows = filled.table.rows in
    let a : length t.rows.items ≡ length rows.paths = Each-length (IsRow p t.known.items) rows.each in
    let b : length t.known.items ≡ length rows.paths = ap length rows.shown_are ∙ length-map rows.paths shown in
    omega (arith, a, b, l)

pub declared_in : (p : Program) (t : Table) → IsFilled p t → (id : ClassId) → id.0 < length t.rows.items → (row : Row) → SaysRow t id row → (class : Path)
    → ((p : Program) (R : Path) → IsTableOf p t → IsNumber t.known.items id R → class ≡ R) → (d : Decl) → DeclIs p (reverse row.path.names) (Some d) → (ms : List Member) → ms ≡ d.members
    → (x : Method) → Contains (methods ms) x → MethodAt p class x.name.name x
declared_in p t filled id l row says class is d stands ms e x c =
    let w = number_there p t filled id.0 (filled_number p t filled id l) in
    let here : StandsAt p w.0 d = decl_here p t id row says filled.table w.0 w.1 (Some d) stands in
    subst (λ (R : Path). MethodAt p R x.name.name x) (sym (is p w.0 filled.table w.1))
    (declared_of p w.0 d here x (subst (λ (xs : List Member). Contains (methods xs) x) e c))

pub heads_here : (p : Program) (t : Table) → IsFilled p t → duplicates p ≡ [] → (id : ClassId) (row : Row) → SaysRow t id row → (class : Path)
    → ((p : Program) (R : Path) → IsTableOf p t → IsNumber t.known.items id R → class ≡ R) → (d : Decl) → DeclIs p (reverse row.path.names) (Some d) → (ms : List Member) → ms ≡ d.members
    → (o : Result (Vec BodyHead Global) CheckFault) → OrMemory (λ all. Each (HeadAt p class) (methods ms) all.items) o
    → OrMemory (λ all. (R : Path) → IsNumber t.known.items id R → AreHeads p R all.items) o
heads_here p t filled once id row says class is d stands ms e (Err f) told =
    memory_of (λ (all : Vec BodyHead Global). Each (HeadAt p class) (methods ms) all.items) (λ (all : Vec BodyHead Global). (R : Path) → IsNumber t.known.items id R → AreHeads p R all.items) f told
heads_here p t filled once id row says class is d stands ms e (Ok all) told = λ R n. here all.items told R n where
  here : (heads : List BodyHead) → Each (HeadAt p class) (methods ms) heads → (R : Path) → IsNumber t.known.items id R → AreHeads p R heads
  here heads each R n = heads_are p R (one_decl p once R) d heads (decl_here p t id row says filled.table R n (Some d) stands)
      (subst (λ (S : Path). Each (HeadAt p S) (methods d.members) heads) (is p R filled.table n)
      (subst (λ (xs : List Member). Each (HeadAt p class) (methods xs) heads) e each))

-- ---- all rows

-- the rows of the first k numbers
abbrev pub HeadRowsTo : Program → List ShownPath → List HeadRow → ℕ → Type 0
HeadRowsTo p known rows k = (id : ClassId) (R : Path) → id.0 < k → IsNumber known id R → HeadRowAt p rows id R

get_front : {A : Type 0} (xs ys : List A) (i : ℕ) (x : A) → slice_get xs i ≡ Some x → slice_get (xs ++ ys) i ≡ Some x
get_front [] ys i x e = absurd (cc e)
get_front (z ∷ xs) ys zero x e = e
get_front (z ∷ xs) ys (suc i) x e = get_front xs ys i x e

get_last : {A : Type 0} (xs : List A) (y : A) → slice_get (xs ++ y ∷ []) (length xs) ≡ Some y
get_last [] y = refl
get_last (x ∷ xs) y = get_last xs y

pub no_rows : (p : Program) (known : List ShownPath) (rows : List HeadRow) → HeadRowsTo p known rows 0
no_rows p known rows id R l n = absurd (omega (arith, l))

pub rows_more : (p : Program) (known : List ShownPath) (rows new : List HeadRow) (row : HeadRow) (id : ClassId) → length rows ≡ id.0 → HeadRowsTo p known rows id.0
    → ((R : Path) → IsNumber known id R → AreHeads p R row.heads.items) → ArePlaced row.heads.items (get nat_eq row.places) → new ≡ rows ++ row ∷ []
    → HeadRowsTo p known new (id.0 + 1)
rows_more p known rows new row id long h one placed e = λ other R l n. by_place other R n (cases_lt other.0 id.0) l where
  by_place : (other : ClassId) (R : Path) → IsNumber known other R → (other.0 < id.0) ⊎ (id.0 ≤ other.0) → other.0 < id.0 + 1 → HeadRowAt p new other R
  by_place other R n (inl b) l =
      let r = h other R b n in
      record { row = r.row; at = subst (λ (xs : List HeadRow). slice_get xs other.0 ≡ Some r.row) (sym e) (get_front rows (row ∷ []) other.0 r.row r.at); are = r.are; placed = r.placed }
  by_place other R n (inr b) l =
      let s : other.0 ≡ id.0 = omega arith in
      let i : other ≡ id = same_id other id s in
      record {
        row = row;
        at = subst (λ (xs : List HeadRow). slice_get xs other.0 ≡ Some row) (sym e)
            (subst (λ (k : ℕ). slice_get (rows ++ row ∷ []) k ≡ Some row) (long ∙ sym s) (get_last rows row));
        are = one R (subst (λ (x : ClassId). IsNumber known x R) i n);
        placed = placed;
      }

pub rows_all : (p : Program) (known : List ShownPath) (rows : List HeadRow) (k : ℕ) → length known ≤ k → HeadRowsTo p known rows k → AreHeadRows p known rows
rows_all p known rows k l h id R n = h id R (let w = slice_get_within known id.0 _ n in omega (arith, w, l)) n
