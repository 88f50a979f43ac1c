-- What the code of a body takes in a file.
use Rattle.std.proofs.Common.{◌≡◌, ℕ, zero, suc, ◌+◌, ◌-◌, ◌*◌, ◌≤◌, List, [], ◌∷◌, ◌++◌, length, map, Bool, true, false, refl, sym, ap, ◌∙◌, subst, arith}
use Rattle.std.specs.Int.{w16, w32, w64, cast_unsigned}
use Rattle.std.specs.List.{flat_map}
use Rattle.std.proofs.lemmas.List.{length-append}
use Rattle.jn_base.specs.declared.tree.Decl.{Decl}
use Rattle.jn_base.specs.declared.tree.Field.{Field}
use Rattle.jn_base.specs.declared.tree.Param.{Param}
use Rattle.jn_base.specs.declared.tree.Method.{Method}
use Rattle.jn_base.specs.declared.tree.Member.{Member, out-Member}
use Rattle.jn_base.specs.declared.tree.Member.TheOpen.{Member-F}
use Rattle.jn_base.specs.declared.tree.Member.TheVariants as member
use Rattle.jn_base.specs.declared.tree.Member.TheVariants.{outs-Inner, outs-Slot, outs-Body}
use Rattle.jn_base.specs.declared.tree.Kind.{Kind}
use Rattle.jn_base.specs.declared.tree.Program.{Program}
use Rattle.jn_base.specs.declared.names.Var.{Var}
use Rattle.jn_base.specs.declared.word.Mark.TheVariants.{CloseBrace, CloseParen, OpenBrace, OpenParen}
use Rattle.jn_base.specs.Parts.{Part, Parameter, mark, name, opening, new_name}
use Rattle.jn_base.specs.GrammarDecl as g
use Rattle.jn_code.specs.declared.instr.Instr.{Instr}
use Rattle.jn_code.specs.declared.instr.Instr.TheVariants as ins
use Rattle.jn_code.specs.declared.image.Code.{Code}
use Rattle.jn_code.specs.SpellsFields.{byte, number, at_most, part, last, counted}
use Rattle.jn_code.specs.SpellsInstr.{instr_bytes}
use Rattle.jn_code.specs.SpellsFile as file
use Rattle.jn_code.proofs.FieldLaws.{wide16, wide32, wide64}
use Rattle.jn_sem.specs.Does.{Body, AreParamsAfter, var}
use Rattle.jn_agree.specs.Naming.{Naming}
use Rattle.jn_agree.specs.Rows.{kind_of_type}
use Rattle.jn_agree.specs.Follows.{is_tested}
use Rattle.jn_agree.specs.Places.{testing, tests, last_return, BodyAt}
use Rattle.jn_sem.specs.Acts.{path_behind}
use Rattle.jn_size_laws.specs.Sizes.{stmts_size}
use Rattle.jn_size_laws.specs.LawsOfSizes.{BodiesSized, CodesAreShort}
use Rattle.jn_size_laws.proofs.Fits.{run_long, stmts_fit}
use Rattle.jn_size_laws.proofs.Tokens.{stmts_short}
use Rattle.jn_size_laws.proofs.Locals.{stmts_few}

-- ---- bytes

-- an instruction has at most nine bytes
instr_long : (x : Instr) → length (instr_bytes x) ≤ 9
unfolding last
instr_long ins.Null = omega arith
instr_long ins.Pop = omega arith
instr_long ins.Add = omega arith
instr_long ins.Sub = omega arith
instr_long ins.Mul = omega arith
instr_long ins.Div = omega arith
instr_long ins.Rem = omega arith
instr_long ins.Neg = omega arith
instr_long ins.Lt = omega arith
instr_long ins.Le = omega arith
instr_long ins.Gt = omega arith
instr_long ins.Ge = omega arith
instr_long ins.Eqi = omega arith
instr_long ins.Eqb = omega arith
instr_long ins.Eqr = omega arith
instr_long ins.Not = omega arith
instr_long ins.Viewof = omega arith
instr_long ins.New = omega arith
instr_long ins.Conv = omega arith
instr_long ins.Check = omega arith
instr_long ins.Printi = omega arith
instr_long ins.Printb = omega arith
instr_long ins.Ret = omega arith
instr_long ins.Retv = omega arith
instr_long (ins.Int z) = let l = wide64.len (cast_unsigned w64 z) in omega (arith, l)
instr_long (ins.Bool b) = omega arith
instr_long (ins.Load n) = omega arith
instr_long (ins.Store n) = omega arith
instr_long (ins.Up n) = omega arith
instr_long (ins.Cls n) = let l = wide16.len n in omega (arith, l)
instr_long (ins.Down n) = let l = wide16.len n in omega (arith, l)
instr_long (ins.Jump n) = let l = wide32.len n in omega (arith, l)
instr_long (ins.Jfalse n) = let l = wide32.len n in omega (arith, l)
instr_long (ins.Jtrue n) = let l = wide32.len n in omega (arith, l)
instr_long (ins.Ctor n) = let l = wide32.len n in omega (arith, l)
instr_long (ins.Call n) = let l = wide32.len n in omega (arith, l)
instr_long (ins.Callat n) = let l = wide32.len n in omega (arith, l)
instr_long (ins.Get n) = let l = wide32.len n in omega (arith, l)
instr_long (ins.Put n) = let l = wide32.len n in omega (arith, l)
instr_long (ins.Printt n) = let l = wide32.len n in omega (arith, l)

instrs_long : (xs : List Instr) → length (flat_map instr_bytes xs) ≤ 9 * length xs
instrs_long [] = omega arith
instrs_long (x ∷ xs) =
    let a = instr_long x in
    let b = instrs_long xs in
    let l = length-append (instr_bytes x) (flat_map instr_bytes xs) in
    omega (arith, a, b, l)

pub bytes_long : (xs : List ℕ) → length (flat_map (λ (k : ℕ). k ∷ []) xs) ≡ length xs
bytes_long [] = refl
bytes_long (x ∷ xs) = ap suc (bytes_long xs)

-- a count in a byte, and a byte for each kind
pub kinds_long : (most : ℕ) (ks : List ℕ) →
    length ((counted (at_most most byte) file.kinds).spelled ks) ≡ suc (length ks)
unfolding part
kinds_long most ks = ap suc (bytes_long ks)

code_spelled : (c : Code) → file.code.spelled c ≡
    (counted (at_most 16 byte) file.kinds).spelled c.params ++ (c.result ∷ []
    ++ ((counted (at_most (255 - length c.params) byte) file.kinds).spelled c.locals
    ++ ((number w16).spelled c.stack ++ ((number w32).spelled (length c.instrs) ++ flat_map instr_bytes c.instrs))))
unfolding file.code part last
code_spelled c = refl

pub code_long : (c : Code) →
    length (file.code.spelled c) ≤ 9 + (length c.params + (length c.locals + 9 * length c.instrs))
code_long c =
    let whole = ap (λ (bytes : List ℕ). length bytes) (code_spelled c) in
    let ps = (counted (at_most 16 byte) file.kinds).spelled c.params in
    let ls = (counted (at_most (255 - length c.params) byte) file.kinds).spelled c.locals in
    let st = (number w16).spelled c.stack in
    let cn = (number w32).spelled (length c.instrs) in
    let xs = flat_map instr_bytes c.instrs in
    let a = length-append ps (c.result ∷ [] ++ (ls ++ (st ++ (cn ++ xs)))) in
    let b = length-append ls (st ++ (cn ++ xs)) in
    let d = length-append st (cn ++ xs) in
    let e = length-append cn xs in
    let pl = kinds_long 16 c.params in
    let ll = kinds_long (255 - length c.params) c.locals in
    let sl = wide16.len c.stack in
    let cl = wide32.len (length c.instrs) in
    let xl = instrs_long c.instrs in
    omega (arith, whole, a, b, d, e, pl, ll, sl, cl, xl)

-- ---- counts

params_long : (p : Program) (b : Body) (before : List Var) (xs : List Param) (all : List Var) →
    AreParamsAfter p b before xs all → length all ≡ length before + length xs
params_long p b before [] all e = let l = ap (λ (vs : List Var). length vs) e in omega (arith, l)
params_long p b before (x ∷ xs) all e =
    let y : Var = var x.name.name (suc (length before)) x.fixed e.0 in
    let l = params_long p b (before ++ y ∷ []) xs all e.2 in
    let k = length-append before (y ∷ []) in
    omega (arith, l, k)

testing_long : (t : Bool) (q : ℕ) → length (testing t q) ≤ 3
testing_long true q = omega arith
testing_long false q = omega arith

tests_long : (vars : List Var) → length (tests vars) ≤ 3 * length vars
tests_long [] = omega arith
tests_long (x ∷ xs) =
    let a = testing_long (is_tested x) x.path in
    let b = tests_long xs in
    let l = length-append (testing (is_tested x) x.path) (tests xs) in
    omega (arith, a, b, l)

return_long : (k : ℕ) → length (last_return k) ≤ 2
return_long zero = omega arith
return_long (suc zero) = omega arith
return_long (suc (suc zero)) = omega arith
return_long (suc (suc (suc k))) = omega arith

kinds_map : (vars : List Var) → length (map (λ (x : Var). kind_of_type x.ty) vars) ≡ length vars
kinds_map [] = refl
kinds_map (x ∷ xs) = ap suc (kinds_map xs)

-- the code of a body has so many instructions
body_long : (p : Program) (n : Naming) (b : Body) (code : Code) → BodyAt p n b code →
    length code.instrs ≤ 3 * length b.method.params + (stmts_size b.method.body + 2)
body_long p n b code h =
    let from = h.from in
    let declared = params_long p b [] b.method.params h.vars h.are_params in
    let t = run_long code.instrs (tests h.vars) 0 from.first from.tested in
    let tl = tests_long h.vars in
    let s = stmts_fit p n (path_behind b.method.body (suc (length h.vars))) code
    (record { class = b.class; method = b.method.name.name; vars = h.vars }) (suc (length h.vars)) b.method.body
    from.first from.last from.stmts in
    let r = run_long code.instrs (last_return code.result) from.last (length code.instrs) from.over in
    let rl = return_long code.result in
    omega (arith, declared, t, tl, s, r, rl)

params_counted : (p : Program) (n : Naming) (b : Body) (code : Code) → BodyAt p n b code →
    length code.params ≡ suc (length b.method.params)
params_counted p n b code h =
    let shape = h.has_shape in
    let a = ap (λ (ks : List ℕ). length ks) h.params in
    let k = ap (λ (ks : List ℕ). length ks) shape.kinds in
    let m = kinds_map shape.vars in
    let declared = params_long p b [] b.method.params shape.vars shape.params in
    omega (arith, a, k, m, declared)

-- ---- tokens of a method

param_there : (d k : ℕ) (w : List Part) (t : Param) → g.IsParam d k w t → 1 ≤ length w
param_there d k w t (g.param {x = x} p {u = u} {v = v} fin type) =
    let a = length-append u (v ++ new_name (Parameter k) x p ∷ []) in
    let b = length-append v (new_name (Parameter k) x p ∷ []) in
    omega (arith, a, b)

more_there : (d k : ℕ) (w : List Part) (ts : List Param) → g.IsMoreParams d k w ts → length ts ≤ length w
more_there d k w ts g.no_more_param = omega arith
more_there d k w ts (g.then_param {v = v} {w = u} {t = t} {ts = more} one rest) =
    let a = param_there d k v t one in
    let b = more_there d (suc k) u more rest in
    let l = length-append v u in
    omega (arith, a, b, l)

params_there : (d : ℕ) (w : List Part) (ts : List Param) → g.IsParams d w ts → length ts ≤ length w
params_there d w ts g.no_param = omega arith
params_there d w ts (g.params {v = v} {w = u} {t = t} {ts = more} one rest) =
    let a = param_there d 1 v t one in
    let b = more_there d 2 u more rest in
    let l = length-append v u in
    omega (arith, a, b, l)

-- the tokens are at least those of its parameters and its statements, and five
record MethodLong (w : List Part) (m : Method) : Type 0 where
  pub params : ℕ
  pub stmts : ℕ
  pub all : params + (stmts + 5) ≤ length w
  pub params_there : length m.params ≤ params
  pub stmts_there : stmts_size m.body ≤ 4 * stmts
  pub locals_there : (n : ℕ) → path_behind m.body n ≤ n + stmts

no_inner : (t : Decl) (m : Method) → member.Inner t ≡ member.Body m → ⊥
no_inner t m e = clash (sym (outs-Inner t) ∙ ap out-Member e ∙ outs-Body m)
  where
    clash : ◌≡◌ {A = Member-F Member Decl} (Member-F.Inner t) (Member-F.Body m) → ⊥
    clash e = cc

no_slot : (f : Field) (m : Method) → member.Slot f ≡ member.Body m → ⊥
no_slot f m e = clash (sym (outs-Slot f) ∙ ap out-Member e ∙ outs-Body m)
  where
    clash : ◌≡◌ {A = Member-F Member Decl} (Member-F.Slot f) (Member-F.Body m) → ⊥
    clash e = cc

same_method : (l m : Method) → member.Body l ≡ member.Body m → l ≡ m
same_method l m e = got (sym (outs-Body l) ∙ ap out-Member e ∙ outs-Body m)
  where
    got : ◌≡◌ {A = Member-F Member Decl} (Member-F.Body l) (Member-F.Body m) → l ≡ m
    got e = cc

method_long : (k : Kind) (d depth : ℕ) (w : List Part) (x : Member) (m : Method) → x ≡ member.Body m →
    g.IsMember k d depth w x → MethodLong w m
method_long k d depth w x m e (g.declared {t = t} h) = absurd (no_inner t m e)
method_long k d depth w x m e (g.slot {x = y} p s {w = u} {t = t} h) = absurd (no_slot (record {
  ty = t;
  name =
      record { name = y; at = p };
}) m e)
method_long k d depth w x m e (g.method {m = locals} {x = y} p o c b z {r = r} {v = v} {u = u} {w = body} {res =
    res} {ts = ts} {cs = cs} {ss = ss}
    gives given shares stmts) =
    subst (λ (m : Method). MethodLong w m)
    (same_method (record { result = res; name = record { name = y; at = p }; params = ts; sharing = cs; body = ss })
    m e)
    (record {
      params = length v;
      stmts = length body;
      all = let a = length-append r (name y p ∷ opening d OpenParen o ∷ (v ++ (mark CloseParen c ∷
          (u ++ (opening d OpenBrace b ∷ (body ++ mark CloseBrace z ∷ [])))))) in
          let l = length-append v (mark CloseParen c ∷ (u ++ (opening d OpenBrace b ∷
          (body ++ mark CloseBrace z ∷ [])))) in
          let q = length-append u (opening d OpenBrace b ∷ (body ++ mark CloseBrace z ∷ [])) in
          let f = length-append body (mark CloseBrace z ∷ []) in
          omega (arith, a, l, q, f);
      params_there = params_there (suc d) v ts given;
      stmts_there = stmts_short (suc d) 0 locals body ss stmts;
      locals_there = λ n. stmts_few (suc d) 0 locals body ss n stmts;
    })

pub bodies_sized : BodiesSized
bodies_sized p n b code at locals = record {
  params = params_counted p n b code at;
  instrs = body_long p n b code at;
  locals = locals;
}

pub codes_short : CodesAreShort
codes_short b code k d depth w m sized same member_is =
    let bytes = code_long code in
    let many = sized.instrs in
    let ps = sized.params in
    let locals = sized.locals in
    let tokens = method_long k d depth w m b.method same member_is in
    let all = tokens.all in
    let pt = tokens.params_there in
    let st = tokens.stmts_there in
    let lt = tokens.locals_there (length code.params) in
    omega (arith, bytes, many, ps, all, pt, st, lt, locals)

-- so many bytes a selector of the method takes
pub head_short : (b : Body) (k : Kind) (d depth : ℕ) (w : List Part) → g.IsMember k d depth w (member.Body b.method) →
    2 + length b.method.params ≤ length w
head_short b k d depth w is =
    let tokens = method_long k d depth w (member.Body b.method) b.method refl is in
    let all = tokens.all in
    let pt = tokens.params_there in
    omega (arith, all, pt)
