-- Forms of the types in a program that a source spells.
use Rattle.std.proofs.Common.{◌≡◌, ◌<◌, ℕ, suc, List, [], ◌∷◌, ◌++◌, length, refl, subst, ◌⊎◌, inl, inr, arith, Contains, Option, Some, None}
use Rattle.std.proofs.lemmas.List.Elements.{Contains-append_left, Contains-append_right}
use Rattle.jn_base.specs.declared.tree.Name.{Name}
use Rattle.jn_base.specs.declared.tree.Kind.{Kind}
use Rattle.jn_base.specs.declared.tree.Decl.{Decl}
use Rattle.jn_base.specs.declared.tree.Field.{Field}
use Rattle.jn_base.specs.declared.tree.Param.{Param}
use Rattle.jn_base.specs.declared.tree.Method.{Method}
use Rattle.jn_base.specs.declared.tree.Constraint.{Constraint}
use Rattle.jn_base.specs.declared.tree.Term.{Term}
use Rattle.jn_base.specs.declared.tree.TypeTerm.{TypeTerm}
use Rattle.jn_base.specs.declared.tree.TypeTerm.TheVariants as type
use Rattle.jn_base.specs.declared.tree.ViewTerm.{ViewTerm}
use Rattle.jn_base.specs.declared.tree.Member.{Member, out-Member}
use Rattle.jn_base.specs.declared.tree.Member.TheOpen.{Member-F}
use Rattle.jn_base.specs.declared.tree.Member.TheVariants as member
use Rattle.jn_base.specs.declared.tree.Member.TheVariants.{outs-Inner, outs-Slot, outs-Body}
use Rattle.jn_base.specs.declared.tree.Place.{Place}
use Rattle.jn_base.specs.declared.tree.Program.{Program}
use Rattle.jn_base.specs.declared.word.Mark.TheVariants.{OpenBrace, CloseBrace, OpenParen, CloseParen}
use Rattle.jn_base.specs.Parts.{Part, Declares, name, named, new_name, opening, mark}
use Rattle.jn_base.specs.GrammarTypes.{IsDotted, one_name, more_names, IsTerm, plain, own, in_prefix, IsView, view, IsAtoms, last_atom, then_atom, IsType, int, boolean, class}
use Rattle.jn_base.specs.GrammarDecl.{IsParam, param, IsMoreParams, no_more_param, then_param, IsParams, no_param, params, IsRel, rel, IsMoreRels, no_more_rel, then_rel, IsSharing, no_sharing, sharing, IsResult, no_result, result, IsInner, IsMember, IsMembers, IsTop, IsProgram}
use Rattle.jn_base.specs.GrammarStmt.{IsStmts}
use Rattle.jn_base.specs.Paths.{Path, StandsIn, StandsAt, nested, fields, methods, and_nested, and_field, and_method}
use Rattle.jn_base.specs.Members.{FieldAt, MethodAt}
use Rattle.jn_base.specs.Atoms.{Among, first, later}
use Rattle.jn_base.proofs.NameTests.{in_cons, in_none, first as first_part, later as later_part}
use Rattle.jn_sem.specs.LawsOfSlots.{HeadNamed, TypeNamed}
use Rattle.jn_laws.specs.LawsOfWritten.{TypeWellFormed}
use Rattle.jn_laws.specs.LawsOfSources.{SourcesWellFormed, SourcesBracketsNamed}

-- ---- terms and types

dotted_long : (p : Place) (w : List Part) (xs : List Name) → IsDotted p w xs → 0 < length xs
dotted_long p _ _ one_name = omega arith
dotted_long p _ _ (more_names o i) = omega arith

pub head_named : (d : ℕ) (p : Place) (w : List Part) (t : Term) → IsTerm d p w t → HeadNamed t.head
head_named d p w _ (plain n) = tt
head_named d p _ _ (own o c r t) = tt
head_named d p _ _ (in_prefix b o c s {v = v} {xs = xs} x r t) = dotted_long p v xs x

pub view_named : (d : ℕ) (w : List Part) (v : ViewTerm) → IsView d w v → HeadNamed v.term.head
view_named d _ _ (view {p = p} {v = v} {t = t} i ms) = head_named d p v t i

atoms_named : (d k : ℕ) (w : List Part) (ts : List Term) → IsAtoms d k w ts → (0 < length ts) × ((t : Term) → Among ts t → HeadNamed t.head)
atoms_named d k _ _ (last_atom {p = p} {w = w} {t = t} i) = (omega arith, λ s m. at s m) where
  at : (s : Term) → Among (t ∷ []) s → HeadNamed s.head
  at _ first = head_named d p w t i
  at s (later m) = elim m [ ]
atoms_named d k _ _ (then_atom o {v = v} {w = w} {t = t} {ts = ts} i more) =
    let r = atoms_named d (suc k) w ts more in (omega arith, λ s m. at r.1 s m) where
      at : ((s : Term) → Among ts s → HeadNamed s.head) → (s : Term) → Among (t ∷ ts) s → HeadNamed s.head
      at h _ first = head_named d _ v t i
      at h s (later m) = h s m

pub type_formed : (d : ℕ) (w : List Part) (t : TypeTerm) → IsType d w t → TypeWellFormed t
type_formed d _ _ int = tt
type_formed d _ _ boolean = tt
type_formed d _ _ (class {v = v} {ts = ts} i ms) = atoms_named d 1 v ts i

-- ---- headers

param_formed : (d k : ℕ) (w : List Part) (x : Param) → IsParam d k w x → TypeWellFormed x.ty
param_formed d k _ _ (param p {v = v} {t = t} f i) = type_formed d v t i

more_formed : (d k : ℕ) (w : List Part) (xs : List Param) → IsMoreParams d k w xs → (x : Param) → Among xs x → TypeWellFormed x.ty
more_formed d k _ _ no_more_param x m = elim m [ ]
more_formed d k _ _ (then_param {v = v} {t = t} i more) _ first = param_formed d k v t i
more_formed d k _ _ (then_param {w = w} {ts = ts} i more) x (later m) = more_formed d (suc k) w ts more x m

params_formed : (d : ℕ) (w : List Part) (xs : List Param) → IsParams d w xs → (x : Param) → Among xs x → TypeWellFormed x.ty
params_formed d _ _ no_param x m = elim m [ ]
params_formed d _ _ (params {v = v} {t = t} i more) _ first = param_formed d 1 v t i
params_formed d _ _ (params {w = w} {ts = ts} i more) x (later m) = more_formed d 2 w ts more x m

RelNamed : Constraint → Type 0
RelNamed c = HeadNamed c.from.term.head × HeadNamed c.to.term.head

rel_named : (d : ℕ) (w : List Part) (c : Constraint) → IsRel d w c → RelNamed c
unfolding RelNamed
rel_named d _ _ (rel o {v = v} {w = w} {s = s} {t = t} a b) = (view_named d v s a, view_named d w t b)

more_rels_named : (d : ℕ) (w : List Part) (cs : List Constraint) → IsMoreRels d w cs → (c : Constraint) → Contains cs c → RelNamed c
more_rels_named d _ _ no_more_rel c m = absurd (in_none c m)
more_rels_named d _ _ (then_rel {v = v} {w = w} {r = r} {rs = rs} i more) c m = at (in_cons r rs c m) (more_rels_named d w rs more c) where
  at : (r ≡ c) ⊎ Contains rs c → (Contains rs c → RelNamed c) → RelNamed c
  at (inl e) again = subst RelNamed e (rel_named d v r i)
  at (inr n) again = again n

sharing_named : (d : ℕ) (w : List Part) (cs : List Constraint) → IsSharing d w cs → (c : Constraint) → Contains cs c → RelNamed c
sharing_named d _ _ no_sharing c m = absurd (in_none c m)
sharing_named d _ _ (sharing {v = v} {w = w} {r = r} {rs = rs} i more) c m = at (in_cons r rs c m) where
  at : (r ≡ c) ⊎ Contains rs c → RelNamed c
  at (inl e) = subst RelNamed e (rel_named d v r i)
  at (inr n) = more_rels_named d w rs more c n

result_formed : (d : ℕ) (w : List Part) (o : Option TypeTerm) (t : TypeTerm) → IsResult d w o → o ≡ Some t → TypeWellFormed t
result_formed d _ _ t no_result e = absurd (no t e) where
  no : (t : TypeTerm) → ◌≡◌ {A = Option TypeTerm} None (Some t) → ⊥
  no t e = cc
result_formed d w _ t (result {t = u} i) e = subst TypeWellFormed (same u t e) (type_formed d w u i) where
  same : (u t : TypeTerm) → Some u ≡ Some t → u ≡ t
  same u t e = cc

-- what is known of a method's header
pub record MethodFormed (x : Method) : Type 0 where
  pub around : ℕ
  pub result_words : List Part
  pub result : IsResult around result_words x.result
  pub param_words : List Part
  pub params : IsParams (suc around) param_words x.params
  pub sharing_words : List Part
  pub sharing : IsSharing around sharing_words x.sharing
  pub body_words : List Part
  pub locals : ℕ
  pub body : IsStmts (suc around) 0 body_words x.body locals

-- ---- members of the grammar

as_nested : (ts : List Member) (d : Decl) (m : Member) (o : Member-F Member Decl) → out-Member m ≡ o → Contains (nested (m ∷ ts)) d → Contains (and_nested o (nested ts)) d
as_nested ts d m o e c = subst (λ (x : Member-F Member Decl). Contains (and_nested x (nested ts)) d) e c

as_field : (ts : List Member) (f : Field) (m : Member) (o : Member-F Member Decl) → out-Member m ≡ o → Contains (fields (m ∷ ts)) f → Contains (and_field o (fields ts)) f
as_field ts f m o e c = subst (λ (x : Member-F Member Decl). Contains (and_field x (fields ts)) f) e c

as_method : (ts : List Member) (x : Method) (m : Member) (o : Member-F Member Decl) → out-Member m ≡ o → Contains (methods (m ∷ ts)) x → Contains (and_method o (methods ts)) x
as_method ts x m o e c = subst (λ (y : Member-F Member Decl). Contains (and_method y (methods ts)) x) e c

or_else : {A B C : Type 0} → A ⊎ B → (A → C) → (B → C) → C
or_else (inl a) f g = f a
or_else (inr b) f g = g b

-- these words are among all
unfoldable pub Within : List Part → List Part → Type 0
Within all w = (t : Part) → Contains w t → Contains all t

within_left : (all u v : List Part) → Within all (u ++ v) → Within all u
unfolding Within
within_left all u v h t c = h t (Contains-append_left u v t c)

within_right : (all u v : List Part) → Within all (u ++ v) → Within all v
unfolding Within
within_right all u v h t c = h t (Contains-append_right u v t c)

within_tail : (all : List Part) (s : Part) (v : List Part) → Within all (s ∷ v) → Within all v
unfolding Within
within_tail all s v h t c = h t (behind s v t c) where
  behind : (s : Part) (v : List Part) (t : Part) → Contains v t → Contains (s ∷ v) t
  behind s v t c = later_part s v t c

-- ---- the words of a program

module _ (all : List Part) where
  -- a method whose words are among all
  pub record MethodIn (x : Method) : Type 0 where
    pub formed : MethodFormed x
    pub within : Within all formed.param_words
    pub body_within : Within all formed.body_words

  -- A declaration whose words are among all: its name at the depth n, and its members.
  pub record DeclIn (n : ℕ) (d : Decl) : Type 0 where
    pub name_part : Part
    pub name_in : Contains all name_part
    pub name_role : name_part.role ≡ Declares n
    pub kind : Kind
    pub around : ℕ
    pub words : List Part
    pub members : IsMembers kind around (suc n) words d.members
    pub within : Within all words

  body_within : (n : ℕ) (x : Name) (p : Place) (t s e : Part) (u v w : List Part) → Within all (t ∷ new_name (Declares n) x p ∷ (u ++ (v ++ (s ∷ (w ++ e ∷ [])))))
      → Contains all (new_name (Declares n) x p) × Within all w
  unfolding Within
  body_within n x p t s e u v w h =
      let body = w ++ e ∷ [] in
      let lists = u ++ (v ++ (s ∷ body)) in
      let tail = within_tail all t (new_name (Declares n) x p ∷ lists) h in (
        tail (new_name (Declares n) x p) (first_part (new_name (Declares n) x p) lists),
        within_left all w (e ∷ []) (within_tail all s body (within_right all v (s ∷ body) (within_right all u (v ++ (s ∷ body)) (within_tail all (new_name (Declares n) x p) lists tail)))),
      )

  inner_in : (d n : ℕ) (w : List Part) (t : Decl) → IsInner d n w t → Within all w → DeclIn n t
  inner_in d n _ _ (IsInner.inner {k = k} {x = x} {p = p} o c {t = t} {u = u} {v = v} {w = w} a es ss ms) h =
      let both = body_within n x p t (opening d OpenBrace o) (mark CloseBrace c) u v w h in record {
        name_part = new_name (Declares n) x p;
        name_in = both.0;
        name_role = refl;
        kind = k;
        around = suc d;
        words = w;
        members = ms;
        within = both.1;
      }

  top_in : (w : List Part) (t : Decl) → IsTop w t → Within all w → DeclIn 1 t
  top_in _ _ (IsTop.top {k = k} {x = x} {p = p} o c {t = t} {u = u} {v = v} {w = w} a es ss ms) h =
      let both = body_within 1 x p t (opening 0 OpenBrace o) (mark CloseBrace c) u v w h in record {
        name_part = new_name (Declares 1) x p;
        name_in = both.0;
        name_role = refl;
        kind = k;
        around = 1;
        words = w;
        members = ms;
        within = both.1;
      }

  nested_in : (k : Kind) (a l : ℕ) (w : List Part) (ms : List Member) → IsMembers k a l w ms → Within all w → (d : Decl) → Contains (nested ms) d → DeclIn l d
  nested_in k a l _ _ IsMembers.no_member h d c = absurd (in_none d c)
  nested_in k a l _ _ (IsMembers.then_member {v = v} {w = w} {ts = ts} (IsMember.declared {t = t} i) more) h d c =
      or_else (in_cons t (nested ts) d (as_nested ts d (member.Inner t) _ (outs-Inner t) c))
      (λ e. subst (λ (x : Decl). DeclIn l x) e (inner_in a l v t i (within_left all v w h)))
      (λ n. nested_in k a l w ts more (within_right all v w h) d n)
  nested_in k a l _ _ (IsMembers.then_member {v = v} {w = w} {ts = ts} (IsMember.slot {x = x} p s {t = ty} i) more) h d c =
      nested_in _ a l w ts more (within_right all v w h) d (as_nested ts d (member.Slot (record { ty = ty; name = named x p })) _ (outs-Slot (record { ty = ty; name = named x p })) c)
  nested_in k a l _ _ (IsMembers.then_member {v = v} {w = w} {ts = ts} (IsMember.method {x = x} p o c' b e {res = res} {ts = ps} {cs = cs} {ss = ss} r g u z) more) h d c =
      nested_in _ a l w ts more (within_right all v w h) d
      (as_nested ts d (member.Body (record { result = res; name = named x p; params = ps; sharing = cs; body = ss })) _ (outs-Body (record { result = res; name = named x p; params = ps; sharing = cs; body = ss })) c)

  pub field_in : (k : Kind) (a l : ℕ) (w : List Part) (ms : List Member) → IsMembers k a l w ms → (f : Field) → Contains (fields ms) f → TypeWellFormed f.ty
  field_in k a l _ _ IsMembers.no_member f c = absurd (in_none f c)
  field_in k a l _ _ (IsMembers.then_member {w = w} {ts = ts} (IsMember.declared {t = t} i) more) f c = field_in k a l w ts more f (as_field ts f (member.Inner t) _ (outs-Inner t) c)
  field_in k a l _ _ (IsMembers.then_member {w = w} {ts = ts} (IsMember.slot {x = x} p s {w = u} {t = ty} i) more) f c =
      or_else (in_cons (record { ty = ty; name = named x p }) (fields ts) f (as_field ts f (member.Slot (record { ty = ty; name = named x p })) _ (outs-Slot (record { ty = ty; name = named x p })) c))
      (λ e. subst (λ (y : Field). TypeWellFormed y.ty) e (type_formed a u ty i))
      (λ n. field_in _ a l w ts more f n)
  field_in k a l _ _ (IsMembers.then_member {w = w} {ts = ts} (IsMember.method {x = x} p o c' b e {res = res} {ts = ps} {cs = cs} {ss = ss} r g u z) more) f c =
      field_in _ a l w ts more f
      (as_field ts f (member.Body (record { result = res; name = named x p; params = ps; sharing = cs; body = ss })) _ (outs-Body (record { result = res; name = named x p; params = ps; sharing = cs; body = ss })) c)

  -- the words of the parameters stand within those of the method
  params_within : (r v rest w : List Part) (s o : Part) → Within all ((r ++ (s ∷ o ∷ (v ++ rest))) ++ w) → Within all v
  params_within r v rest w s o h =
      within_left all v rest (within_tail all o (v ++ rest) (within_tail all s (o ∷ (v ++ rest)) (within_right all r (s ∷ o ∷ (v ++ rest)) (within_left all (r ++ (s ∷ o ∷ (v ++ rest))) w h))))

  statements_within : (r v u w rest : List Part) (s o c b e : Part) → Within all ((r ++ (s ∷ o ∷ (v ++ (c ∷ (u ++ (b ∷ (w ++ e ∷ []))))))) ++ rest) → Within all w
  statements_within r v u w rest s o c b e h =
      let close = w ++ e ∷ [] in
      let block = u ++ (b ∷ close) in
      let tail = v ++ (c ∷ block) in
      within_left all w (e ∷ []) (within_tail all b close (within_right all u (b ∷ close) (within_tail all c block (within_right all v (c ∷ block)
      (within_tail all o tail (within_tail all s (o ∷ tail) (within_right all r (s ∷ o ∷ tail) (within_left all (r ++ (s ∷ o ∷ tail)) rest h))))))))

  pub method_in : (k : Kind) (a l : ℕ) (w : List Part) (ms : List Member) → IsMembers k a l w ms → Within all w → (m : Method) → Contains (methods ms) m → MethodIn m
  method_in k a l _ _ IsMembers.no_member h m c = absurd (in_none m c)
  method_in k a l _ _ (IsMembers.then_member {v = v} {w = w} {ts = ts} (IsMember.declared {t = t} i) more) h m c =
      method_in k a l w ts more (within_right all v w h) m (as_method ts m (member.Inner t) _ (outs-Inner t) c)
  method_in k a l _ _ (IsMembers.then_member {v = v} {w = w} {ts = ts} (IsMember.slot {x = x} p s {t = ty} i) more) h m c =
      method_in _ a l w ts more (within_right all v w h) m (as_method ts m (member.Slot (record { ty = ty; name = named x p })) _ (outs-Slot (record { ty = ty; name = named x p })) c)
  method_in k a l _ _ (IsMembers.then_member {v = v} {w = w} {ts = ts} (IsMember.method {m = n} {x = x} p o c' b e {r = result_part} {v = pw} {u = sw} {w = bw} {res = res} {ts = ps} {cs = cs} {ss = ss} r g u z) more) h m c =
      or_else (in_cons (record { result = res; name = named x p; params = ps; sharing = cs; body = ss }) (methods ts) m
      (as_method ts m (member.Body (record { result = res; name = named x p; params = ps; sharing = cs; body = ss })) _ (outs-Body (record { result = res; name = named x p; params = ps; sharing = cs; body = ss })) c))
      (λ i. subst MethodIn i (record {
        formed = record {
          around = a;
          result_words = result_part;
          result = r;
          param_words = pw;
          params = g;
          sharing_words = sw;
          sharing = u;
          body_words = bw;
          locals = n;
          body = z;
        };
        within = params_within result_part pw _ w (name x p) (opening a OpenParen o) h;
        body_within = statements_within result_part pw sw bw w (name x p) (opening a OpenParen o) (mark CloseParen c') (opening a OpenBrace b) (mark CloseBrace e) h;
      }))
      (λ k. method_in _ a l w ts more (within_right all v w h) m k)

  tops_in : (w : List Part) (ds : List Decl) → IsProgram w ds → Within all w → (d : Decl) → Contains ds d → DeclIn 1 d
  tops_in _ _ IsProgram.no_top h d c = absurd (in_none d c)
  tops_in _ _ (IsProgram.then_top {v = v} {w = w} {t = t} {ts = ts} i more) h d c =
      or_else (in_cons t ts d c)
      (λ e. subst (λ (x : Decl). DeclIn 1 x) e (top_in v t i (within_left all v w h)))
      (λ n. tops_in w ts more (within_right all v w h) d n)

module _ (p : Program) (parts : List Part) (is : IsProgram parts p.decls) where
  -- a declaration of a namespace with n names stands at the depth n + 1
  pub standing : (P : Path) (d : Decl) → StandsIn p P d → DeclIn parts (suc (length P)) d
  unfolding Within
  standing [] d c = tops_in parts parts p.decls is (λ t h. h) d c
  standing (C ∷ P) d s =
      let above = standing P s.0 s.1 in
      nested_in parts above.kind above.around (suc (suc (length P))) above.words s.0.members above.members above.within d s.3

  pub declared_at : (R : Path) (d : Decl) → StandsAt p R d → DeclIn parts (length R) d
  declared_at [] d s = absurd s
  declared_at (C ∷ P) d s = standing P d s.0

  pub field_formed : (Q : Path) (f : Name) (x : Field) → FieldAt p Q f x → TypeWellFormed x.ty
  field_formed Q f x at =
      let d = declared_at Q at.decl at.stands in
      field_in parts d.kind d.around (suc (length Q)) d.words at.decl.members d.members x at.has

  pub method_formed : (Q : Path) (m : Name) (x : Method) → MethodAt p Q m x → MethodIn parts x
  method_formed Q m x at =
      let d = declared_at Q at.decl at.stands in
      method_in parts d.kind d.around (suc (length Q)) d.words at.decl.members d.members d.within x at.has

pub sources_well_formed : SourcesWellFormed
unfolding RelNamed
sources_well_formed p bytes s = record {
  fields = field_formed p s.parts s.is_program;
  params = λ Q m x y at. let f = (method_formed p s.parts s.is_program Q m x at).formed in params_formed (suc f.around) f.param_words x.params f.params y;
  results = λ Q m x t at e. let f = (method_formed p s.parts s.is_program Q m x at).formed in result_formed f.around f.result_words x.result t f.result e;
  constraints = λ Q m x c at i. let f = (method_formed p s.parts s.is_program Q m x at).formed in sharing_named f.around f.sharing_words x.sharing f.sharing c i;
}

pub type_named : (t : TypeTerm) → TypeWellFormed t → TypeNamed t
type_named type.Int w = tt
type_named type.Bool w = tt
type_named (type.Class ts ms) w = w.1

pub sources_brackets_named : SourcesBracketsNamed
sources_brackets_named p bytes s Q f x at = type_named x.ty ((sources_well_formed p bytes s).fields Q f x at)
