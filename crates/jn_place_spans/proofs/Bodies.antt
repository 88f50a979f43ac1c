-- The kinds of a whole body.
use Rattle.std.proofs.Common.{◌≡◌, ℕ, zero, suc, ◌+◌, ◌<◌, ◌≤◌, List, [], ◌∷◌, ◌++◌, length, map, Some, Bool, true, false, ◌&&◌, ◌⊎◌, inl, inr, refl, sym, ap, ◌∙◌, subst, append_assoc, arith}
use Rattle.std.specs.Prelude.{slice_get, Contains, Ok}
use Rattle.std.proofs.lemmas.List.{length-append, length-map}
use Rattle.std.proofs.lemmas.List.Elements.{Contains-append_cases}
use Rattle.std.proofs.lemmas.Option.{slice_get_within}
use Rattle.jn_base.specs.declared.tree.Param.{Param}
use Rattle.jn_base.specs.declared.tree.Stmt.{Stmt}
use Rattle.jn_base.specs.declared.tree.Text.{Text}
use Rattle.jn_base.specs.declared.tree.Program.{Program}
use Rattle.jn_base.specs.declared.types.Ty.{Ty}
use Rattle.jn_base.specs.declared.types.Ty.TheVariants as ty
use Rattle.jn_base.specs.declared.names.Var.{Var}
use Rattle.jn_base.specs.Atoms.{Among, first, later}
use Rattle.jn_base.specs.Scopes.{Scope}
use Rattle.jn_base.specs.Forms.{all_of}
use Rattle.jn_base.specs.Resolve.{is_class}
use Rattle.jn_base.proofs.NameTests.{in_none}
use Rattle.jn_code.specs.declared.kind.OperandKind.{OperandKind}
use Rattle.jn_code.specs.declared.kind.OperandKind.TheVariants as kind
use Rattle.jn_code.specs.declared.image.Text.{Text as ImageText}
use Rattle.jn_code.specs.declared.image.Image.{Image}
use Rattle.jn_code.specs.declared.image.Code.{Code}
use Rattle.jn_code.specs.Kinds.{kind_of}
use Rattle.jn_sem.specs.Does.{Body, AreParamsAfter, var}
use Rattle.jn_laws.specs.LawsOfScopes.{ScopesAlike, none as alike_none, one as alike_one}
use Rattle.jn_rules.specs.Questions.{Gives}
use Rattle.jn_rules.specs.Headers.{Header, header_typed}
use Rattle.jn_rules.specs.Stmts.{stmts_type, body_in, at_start}
use Rattle.jn_rules.proofs.PlanLaws.{then_came}
use Rattle.jn_rule_laws.proofs.HeaderLaws.{headers_are_the_meanings}
use Rattle.jn_body_laws.specs.BodyForms.{Use, Prints, uses, UseFormed, StmtsFormed}
use Rattle.jn_agree.specs.Naming.{Naming}
use Rattle.jn_agree.specs.Follows.{is_tested}
use Rattle.jn_agree.specs.Rows.{RowsAre, kind_of_type}
use Rattle.jn_agree.specs.Places.{Run, HasKind, last_return}
use Rattle.jn_places.specs.StmtPlaces.{TypedBodyAt}
use Rattle.jn_span_laws.specs.LawsOfForms.{TestedRefer}
use Rattle.jn_span_laws.proofs.Bodies.{body}
use Rattle.jn_place_spans.specs.LawsOfStmts.{Ready, TextsThere}
use Rattle.jn_place_spans.specs.LawsOfBodies.{BodiesPass}
use Rattle.jn_place_spans.proofs.Nodes.{local_is}
use Rattle.jn_place_spans.proofs.Stmts.{stmts_span_all}

-- ---- parameters

-- their paths follow each other
Counted : ℕ → List Var → Type 0
Counted c [] = Unit {0}
Counted c (x ∷ xs) = (x.path ≡ c) × Counted (suc c) xs

counted_more : (c : ℕ) (xs : List Var) (y : Var) → Counted c xs → y.path ≡ c + length xs → Counted c (xs ++ y ∷ [])
unfolding Counted
counted_more c [] y h e = (omega (arith, e), tt)
counted_more c (x ∷ xs) y h e = (h.0, counted_more (suc c) xs y h.1 (omega (arith, e)))

params_counted : (p : Program) (b : Body) (before : List Var) (xs : List Param) (all : List Var)
    → AreParamsAfter p b before xs all → Counted 1 before → Counted 1 all
params_counted p b before [] all e h = subst (λ (vs : List Var). Counted 1 vs) (sym e) h
params_counted p b before (x ∷ xs) all e h =
    params_counted p b (before ++ var x.name.name (suc (length before)) x.fixed e.0 ∷ []) xs all e.2
    (counted_more 1 before (var x.name.name (suc (length before)) x.fixed e.0) h (omega arith))

right_of : (xs ys : List ℕ) (k : ℕ) → slice_get (xs ++ ys) (length xs + k) ≡ slice_get ys k
right_of [] ys k = ap (λ (n : ℕ). slice_get ys n) (let e : 0 + k ≡ k = omega arith in e)
right_of (x ∷ xs) ys k =
    ap (λ (n : ℕ). slice_get (x ∷ (xs ++ ys)) n) (let e : suc (length xs) + k ≡ suc (length xs + k) = omega arith in e)
    ∙ right_of xs ys k

abbrev kinds : List Var → List ℕ
kinds vs = map (λ (x : Var). kind_of_type x.ty) vs

-- so each has a local of its kind
kinds_there : (vars : List Var) (pre rest : List ℕ) (c : ℕ) → length pre ≡ c → Counted c vars → (v : Var) → Among vars v
    → slice_get (pre ++ (kinds vars ++ rest)) v.path ≡ Some (kind_of_type v.ty)
unfolding Counted
kinds_there _ pre rest c long count _ (first {x = x} {xs = xs}) =
    ap (λ (k : ℕ). slice_get (pre ++ (kind_of_type x.ty ∷ (kinds xs ++ rest))) k)
    (let e = count.0 in let s : x.path ≡ length pre + 0 = omega (arith, e, long) in s)
    ∙ right_of pre (kind_of_type x.ty ∷ (kinds xs ++ rest)) 0
kinds_there _ pre rest c long count v (later {y = x} {xs = xs} a) =
    let longer : length (pre ++ kind_of_type x.ty ∷ []) ≡ suc c =
    (let l = length-append pre (kind_of_type x.ty ∷ []) in omega (arith, l, long)) in
    ap (λ (l : List ℕ). slice_get l v.path) (sym (append_assoc pre (kind_of_type x.ty ∷ []) (kinds xs ++ rest)))
    ∙ kinds_there xs (pre ++ kind_of_type x.ty ∷ []) rest (suc c) longer count.1 v a

counted_none : Counted 1 []
unfolding Counted
counted_none = tt

-- ---- texts

text_used : (p : Program) (ss : List Stmt) → StmtsFormed p ss → (u : Use) → Contains (all_of (map uses ss)) u
    → UseFormed p u
text_used p [] formed u c = absurd (in_none u c)
text_used p (s ∷ ss) formed u c =
    at (text_used p ss (λ z m. formed z (later m)) u) (Contains-append_cases (uses s) (all_of (map uses ss)) u c) where
      at : (Contains (all_of (map uses ss)) u → UseFormed p u) → Contains (uses s) u ⊎ Contains (all_of (map uses ss)) u
          → UseFormed p u
      at again (inl a) = (formed s first).forms u a
      at again (inr a) = again a

texts_there : (p : Program) (i : Image) (n : Naming) → RowsAre p i n → (ss : List Stmt) → StmtsFormed p ss
    → TextsThere i (all_of (map uses ss))
texts_there p i n rows ss formed k c =
    let f = text_used p ss formed (Prints k) c in
    let l = slice_get_within p.texts k f.0 f.1 in
    let same : length i.texts ≡ length p.texts =
    sym (length-map i.texts (λ (x : ImageText). x.bytes)) ∙ ap (λ (z : List (List ℕ)). length z) rows.texts
    ∙ length-map p.texts (λ (x : Text). x.bytes) in
    omega (arith, l, same)

-- ---- the body

alike_itself : (s : Scope) → ScopesAlike s s
alike_itself [] = alike_none
alike_itself (b ∷ s) = alike_one (record { path = refl; atoms = refl; class = refl }) (alike_itself s)

class_kind : (t : Ty) → is_class t ≡ true → kind_of (kind_of_type t) ≡ kind.Reference
class_kind (ty.Class xs m) e = refl
class_kind ty.Null e = refl
class_kind ty.Int e = cc
class_kind ty.Bool e = cc
class_kind ty.Void e = cc

is_class_tested : (x : Var) → is_tested x ≡ true → is_class x.ty ≡ true
is_class_tested x e = at x.fixed e where
  at : (c : Bool) → (c && is_class x.ty) ≡ true → is_class x.ty ≡ true
  at true e = e
  at false e = cc

last_there : (it : Code) (r last end : ℕ) → Run it.instrs (last_return r) last end → last < length it.instrs
last_there it zero last end runs = slice_get_within it.instrs last _ runs.0
last_there it (suc zero) last end runs = slice_get_within it.instrs last _ runs.0
last_there it (suc (suc zero)) last end runs = slice_get_within it.instrs last _ runs.0
last_there it (suc (suc (suc r))) last end runs = slice_get_within it.instrs last _ runs.0

-- each parameter has a local of its kind
params_there : (p : Program) (b : Body) (k : Header) (it : Code) → Gives p (header_typed b) (Ok k) → (n : Naming)
    → TypedBodyAt p n b k it → (v : Var) → Among k.vars v → HasKind it v.path (kind_of_type v.ty)
params_there p b k it head n at v m =
    ap (λ (ks : List ℕ). slice_get (ks ++ it.locals) v.path) (at.params
    ∙ ap (λ (ks : List ℕ). 3 ∷ ks) at.is_shape.params)
    ∙ kinds_there k.vars (3 ∷ []) it.locals 1 refl
    (params_counted p b [] b.method.params k.vars ((headers_are_the_meanings p b k).0 head).params counted_none) v m

pub body_ready : (p : Program) (b : Body) (k : Header) (it : Code) → Gives p (header_typed b) (Ok k) → (n : Naming)
    → TypedBodyAt p n b k it → length it.params + length it.locals ≤ 255 → Ready it (body_in b k) (at_start b k)
body_ready p b k it head n at few = record {
  locals = record {
    this = ap (λ (ks : List ℕ). slice_get (ks ++ it.locals) 0) at.params;
    vars = params_there p b k it head n at;
    few = few;
  };
  alike = alike_itself (at_start b k).scope;
}

pub bodies_pass : BodiesPass
bodies_pass p deep i n rows b k it head typed formed at has =
    let c = then_came (stmts_type (body_in b k) b.method.body (at_start b k)) _ tt typed in
    body i it k.vars at.first at.last refer at.tested
    (stmts_span_all p deep i n rows it _ (body_in b k) (record {
      result = at.result
          ∙ at.is_shape.result;
      some = has.some;
    })
    (at_start b k) (body_ready p b k it head n at has.few) b.method.body
    (texts_there p i n rows b.method.body formed) at.first at.last at.stmts
    (last_there it it.result at.last (length it.instrs) at.over) c.first c.gave has.operands)
    at.over has.some
  where
    refer : TestedRefer it k.vars
    refer x m e = local_is p i n it rows x.path (kind_of_type x.ty) (params_there p b k it head n at x m)
        ∙ ap (λ (z : OperandKind). Some z) (class_kind x.ty (is_class_tested x e))
